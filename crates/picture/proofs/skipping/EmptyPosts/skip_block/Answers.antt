-- `picture::skipping::EmptyPosts::skip_block` meets its contract: a noted block has no pixels, and one that was stepped over whole may be noted.
-- Assumes nothing.
use Prim.Native.Nat.{◌+◌}
use mathlib.Core.Path.{◌≡◌, subst}
use native.Mathlib.Omega.{arith}
use Rattle.picture.specs.Stepping.{Over, Block}
use Rattle.picture.proofs.Inner.{over_past, over_on}
use Rattle.picture.proofs.Slots.{notes-more}
use Rattle.picture.proofs.skipping.EmptyPosts.skip_block.Goals as goal
use Rattle.picture.proofs.skipping.EmptyPosts.skip_block.Goals.{After-skip-to}

-- what was stepped over has no pixels
over : (c : After-skip-to) → let a = c.args.self.now in
    Over a.lump.now a.at c.skip-to.result
over c =
    let a = c.args.self.now in
    over_past a.lump.now a.row _ a.at c.skip-to.result c.requires.no_end c.skip-to.ensures

pub overflow_sub-to : goal.overflow_sub-to
overflow_sub-to c = over_on _ (over (goal.at.overflow_sub-to c).After-skip-to)

pub returns-then-to-self-eq1024-clause-over : goal.returns-then-to-self-eq1024-clause-over
returns-then-to-self-eq1024-clause-over c = over (goal.at.returns-then-to-self-eq1024-clause-over c).After-skip-to

pub returns-then-to-self-eq1024-clause-notes_2 : goal.returns-then-to-self-eq1024-clause-notes_2
returns-then-to-self-eq1024-clause-notes_2 c =
    let a = c.args.self.now in
    let l = a.lump.now in
    let o = over (goal.at.returns-then-to-self-eq1024-clause-notes_2 c).After-skip-to in
    let on = over_on l o in
    let whole : c.skip-to.result ≡ a.at + 1024 = omega (arith, on, c.if-to-self-eq1024.true) in
    rw c.note.ensures (notes-more (Block l) c.args.notes.now a.at c.requires.notes (subst (Over l a.at) whole o))

pub returns-else-to-self-eq1024-clause-over : goal.returns-else-to-self-eq1024-clause-over
returns-else-to-self-eq1024-clause-over c = over (goal.at.returns-else-to-self-eq1024-clause-over c).After-skip-to
