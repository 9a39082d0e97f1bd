-- `picture_write::cover::Cover::column_length` meets its contract: so many runs begin and so many pixels are covered above `row`.
-- Assumes nothing.
use Prim.Native.Nat.{ℕ, ◌+◌}
use mathlib.Core.Bool.{Bool, true, false, ◌&&◌, not, cond}
use mathlib.Core.Path.{◌≡◌, refl, sym, ap, ◌∙◌}
use native.Mathlib.Numerals.{add-one}
use native.Mathlib.Omega.{arith}
use mir.Val.{bool_byte}
use Rattle.layout.specs.Rows.{count_of}
use Rattle.picture_write.specs.Runs.{begins}
use Rattle.picture_write.specs.Pixels.{covered_at}
use Rattle.layout.proofs.LaidOut.{sum-none, sum_more, count_most}
use Rattle.picture_write.proofs.cover.Cover.column_length.Goals as goal

one : (b : Bool) → bool_byte b ≡ cond b 1 0
one true = refl
one false = refl

-- one row more
counted : (f : ℕ → Bool) (i : ℕ) {n : ℕ} {b : Bool} → n ≡ count_of f i → b ≡ f i → n + bool_byte b ≡ count_of f (i + 1)
counted f i {n} {b} e q =
    (λ k. e k + (one b ∙ ap (λ (b : Bool). cond b 1 0) q) k) ∙ sym (sum_more (λ i. cond (f i) 1 0) i)

pub loop-row-init : goal.loop-row-init
loop-row-init c = (sym (sum-none _), sym (sum-none _), refl, omega arith, omega arith)

pub loop-row-preserved : goal.loop-row-preserved
loop-row-preserved c =
    let l = c.loop-row in
    let a = c.args.self.now in
    let covered = covered_at a.bytes.now a.width c.args.column in
    let e : begins covered l.row ≡ (covered l.row && not l.above) = ap (λ (b : Bool). covered l.row && not b) (sym l.invariant.2) in
    let begun : (c.covers-here.result && not l.above) ≡ begins covered l.row = ap (λ (b : Bool). b && not l.above) c.covers-here.ensures ∙ sym e in
    let runs = counted (begins covered) l.row l.invariant.0 begun in
    let pixels = counted covered l.row l.invariant.1 c.covers-here.ensures in (
      runs,
      pixels,
      rw (add-one l.row) c.covers-here.ensures,
      omega (arith, runs, count_most (begins covered) (l.row + 1)),
      omega (arith, pixels, count_most covered (l.row + 1)),
    )
