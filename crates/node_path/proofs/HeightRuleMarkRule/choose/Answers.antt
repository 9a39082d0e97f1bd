-- `choose` by the heights meets its contract: the marks of both children are there. Assumes nothing.
use Rattle.node.specs.declared.Choice.TheVariants.{Right, Left}
use Rattle.node_path.proofs.HeightRuleMarkRule.choose.Goals as goal

pub height_at-right-requires : goal.height_at-right-requires
height_at-right-requires c = rw c.child_of.ensures.0 (c.requires.marked Right)

pub height_at-left-requires : goal.height_at-left-requires
height_at-left-requires c = rw c.child_of-2.ensures.0 (c.requires.marked Left)
