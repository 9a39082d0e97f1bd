-- `map_blockmap::Lists::ends_from` meets its contract: `well` says whether the words from `at` on end a list well. Assumes nothing.
use Prim.Native.Nat.{ℕ, suc, ◌-◌}
use mathlib.Core.Path.{◌≡◌, sym, ap, ◌∙◌}
use native.Mathlib.Omega.{arith}
use borrow.Author.Rules.{rules}
use Rattle.map_blockmap.specs.Blockmap.{word_count}
use Rattle.map_blockmap.specs.Notes.{ends_well}
use Rattle.map_blockmap.proofs.Ending.{ends_well-none, ends_well-more}
use Rattle.map_blockmap.proofs.Lists.ends_from.Goals as goal

pub loop-at-init : goal.loop-at-init
loop-at-init c =
    let a = c.args in
    (search rules, (search rules, sym (ends_well-none a.self.now.lump.now a.self.now.linedefs (word_count a.self.now.lump.now) (search rules))))

pub loop-at-preserved : goal.loop-at-preserved
loop-at-preserved c =
    let a = c.args in
    let l = c.loop-at in
    let lump = a.self.now.lump.now in
    let place : suc (l.at - 1) ≡ l.at = omega arith in
    let after = l.invariant.1.1 ∙ ap (λ (n : ℕ). ends_well lump a.self.now.linedefs (word_count lump - n)) (sym place) in (
      search rules,
      (search rules, ends_well-more lump a.self.now.linedefs (l.at - 1) (search rules) c.word_at.ensures.0 after c.ends_at-well.ensures),
    )
