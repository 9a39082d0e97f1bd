-- `map_blockmap::Lists::note_below` meets its contract: the places from `at` to `top` are noted. Assumes nothing.
use Prim.Native.Nat.{ℕ, suc, ◌-◌}
use mathlib.Core.Path.{◌≡◌, sym, ap, ◌∙◌, subst}
use native.Mathlib.Omega.{arith}
use borrow.Author.Rules.{rules}
use lib.ListN.{length-set}
use Rattle.map_blockmap.specs.Blockmap.{word_count}
use Rattle.map_blockmap.specs.Notes.{ends_well, NotedFrom}
use Rattle.map_blockmap.proofs.Ending.{ends_well-more, noted_more}
use Rattle.map_blockmap.proofs.Lists.note_below.Goals as goal

pub loop-at-preserved : goal.loop-at-preserved
loop-at-preserved c =
    let l = c.loop-at in
    let lump = c.args.self.now.lump.now in
    let place : suc (l.at - 1) ≡ l.at = omega arith in
    let after = l.invariant.1.1.0 ∙ ap (λ (n : ℕ). ends_well lump c.args.self.now.linedefs (word_count lump - n)) (sym place) in
    let ends =
    ends_well-more lump c.args.self.now.linedefs (l.at - 1) (search rules) c.word_at.ensures.0 after
    c.ends_at-ends.ensures in
    let rest = subst (λ (n : ℕ). NotedFrom lump c.args.self.now.linedefs n c.args.top l.notes) (sym place) l.invariant.1.1.1 in
    let long = simp length-set at l.invariant.1.0 in (
      search rules,
      (
        simp length-set long,
        (ends, noted_more lump c.args.self.now.linedefs (l.at - 1) c.args.top l.notes (omega arith) ends rest),
      ),
    )
