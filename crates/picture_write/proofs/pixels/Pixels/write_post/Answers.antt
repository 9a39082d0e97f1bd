-- `picture_write::pixels::Pixels::write_post` meets its contract: after i turns the first i pixels stand behind the three bytes. Assumes
-- nothing.
use Prim.Native.Nat.{ℕ, ◌+◌}
use mathlib.Core.List.{List, [], ◌∷◌, ◌++◌}
use mathlib.Core.Path.{◌≡◌, refl, sym, ap, ◌∙◌}
use native.Mathlib.Omega.{arith}
use borrow.Author.Rules.{rules}
use lib.ListN.{length, set, length-set}
use lib.Seq.{sets}
use Rattle.picture_paint.specs.Pixels.{list_of}
use Rattle.picture_write.specs.Pixels.{pixel_at}
use Rattle.picture_paint.proofs.Planes.{length-list_of}
use Rattle.picture_write.proofs.Runs.{list_of-none, list_of-more}
use Rattle.layout.proofs.Stores.{sets_push}
use Rattle.picture_write.proofs.PostStores.{sets_headed}
use Rattle.picture_write.proofs.pixels.Pixels.write_post.Goals as goal

pub loop-i-init : goal.loop-i-init
loop-i-init c =
    let a = c.args.self.now in
    (rw (list_of-none (pixel_at a.colour.now a.cover.width c.args.column) c.args.row), refl)

pub loop-i-preserved : goal.loop-i-preserved
loop-i-preserved c =
    let l = c.loop-i in
    let a = c.args.self.now in
    let f = pixel_at a.colour.now a.cover.width c.args.column in
    let place : c.args.at + 3 + l.i ≡ c.args.at + 3 + length (list_of f c.args.row l.i) = omega (arith, length-list_of f c.args.row l.i) in (
      (λ i. set (l.invariant.0 i) (c.args.at + 3 + l.i) (c.colour_at.ensures i))
          ∙ sets_push _ (c.args.at + 3) (list_of f c.args.row l.i) _ _ place
          ∙ ap (sets _ (c.args.at + 3)) (sym (list_of-more f c.args.row l.i)),
      length-set l.out (c.args.at + 3 + l.i) c.colour_at.result ∙ l.invariant.1,
    )

pub returns : goal.returns
returns c =
    let l = c.loop-i in
    let a = c.args.self.now in
    let f = pixel_at a.colour.now a.cover.width c.args.column in
    let e : l.i ≡ c.args.count = search rules in
    let place : c.args.at + 3 + c.args.count ≡ c.args.at + 3 + length (list_of f c.args.row l.i) = omega (arith, length-list_of f c.args.row l.i, e) in
    ap (λ (x : List ℕ). set x (c.args.at + 3 + c.args.count) 0) l.invariant.0
    ∙ sets_push _ (c.args.at + 3) (list_of f c.args.row l.i) 0 _ place
    ∙ sets_headed c.args.out.now c.args.at c.args.row c.args.count (list_of f c.args.row l.i ++ (0 ∷ []))
    ∙ ap (λ (n : ℕ). sets c.args.out.now c.args.at (c.args.row ∷ c.args.count ∷ 0 ∷ (list_of f c.args.row n ++ (0 ∷ [])))) e
