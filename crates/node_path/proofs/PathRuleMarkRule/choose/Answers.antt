-- `choose` on the way into a loop meets its contract: the mark of the right child is there. Assumes nothing.
use Rattle.node.specs.declared.Choice.TheVariants.{Right}
use Rattle.node_path.proofs.PathRuleMarkRule.choose.Goals as goal

pub on_path-requires : goal.on_path-requires
on_path-requires c = rw c.child_of.ensures.0 (c.requires.marked Right)
