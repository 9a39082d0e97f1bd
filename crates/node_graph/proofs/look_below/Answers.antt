-- `node_graph::look_below` meets its contract, from the looks at the two children. Assumes nothing.
use Rattle.node.specs.declared.Choice.TheVariants.{Right, Left}
use Rattle.node_graph.proofs.look_below.Goals as goal

pub look_at-right-requires : goal.look_at-right-requires
look_at-right-requires c = rw c.child_of.ensures.0 (c.requires.marked Right)

pub look_at-left-requires : goal.look_at-left-requires
look_at-left-requires c = rw c.child_of-2.ensures.0 (c.requires.marked Left)
