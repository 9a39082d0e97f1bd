-- `picture::skipping::skip_posts` meets its contract: each turn goes past one block more. The measure is what is left of the lump.
-- Assumes nothing.
use Prim.Native.Nat.{◌≤◌}
use borrow.Author.Rules.{rules}
use lib.ListN.{length}
use Rattle.picture.specs.Stepping.{Over}
use Rattle.picture.proofs.Inner.{over_past, over_then, over_on, over_inside}
use Rattle.picture.proofs.skipping.skip_posts.Goals as goal
use Rattle.picture.proofs.skipping.skip_posts.Goals.{After-skip_ahead-at, Else-to-at-lt1024}

-- up to the first place that has a slot
ahead : (c : After-skip_ahead-at)
    → let a = c.args in Over a.lump.now a.from c.skip_ahead-at.result
ahead c =
    let step = c.skip_ahead-at.ensures in
    over_past c.args.lump.now c.args.row step.most c.args.from c.skip_ahead-at.result c.requires.from_in_bounds.1 step.same

-- one block more, inside the lump
inside : (c : Else-to-at-lt1024) → c.skip_block-to.result ≤ length c.args.lump.now
inside c =
    over_inside _ c.loop-at.invariant.1 c.skip_block-to.ensures.over

pub returns-then-at-ge4-clause-over : goal.returns-then-at-ge4-clause-over
returns-then-at-ge4-clause-over c = ahead (goal.at.returns-then-at-ge4-clause-over c).After-skip_ahead-at

pub loop-at-init : goal.loop-at-init
loop-at-init c =
    let o = ahead (goal.at.loop-at-init c).After-skip_ahead-at in
    (o, over_inside c.args.lump.now c.requires.from_in_bounds.0 o, c.requires.notes, search rules)

pub overflow_sub-to : goal.overflow_sub-to
overflow_sub-to c = over_on _ c.skip_block-to.ensures.over

pub returns-then-to-at-lt1024-clause-over : goal.returns-then-to-at-lt1024-clause-over
returns-then-to-at-lt1024-clause-over c =
    over_then _ c.loop-at.invariant.0 c.skip_block-to.ensures.over

pub loop-at-preserved : goal.loop-at-preserved
loop-at-preserved c =
    let i = c.loop-at.invariant in
    (over_then _ i.0 c.skip_block-to.ensures.over, inside (goal.at.loop-at-preserved c).Else-to-at-lt1024, c.skip_block-to.ensures.notes_2, search rules)
