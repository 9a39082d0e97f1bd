-- The measures of the cycle of calls {walk_child, walk_node}: a child's walk calls a node's with as many nodes left, a node's walk a
-- child's with one less. Assumes nothing.
use Rattle.std.proofs.Common.{◌+◌, ◌*◌}
use Rattle.draw_order.proofs.Camera.+walk_child_walk_node.Given as goal

abbrev pub decreases-walk_child : goal.decreases-walk_child
decreases-walk_child l = 2 * l.more + 1

abbrev pub decreases-walk_node : goal.decreases-walk_node
decreases-walk_node l = 2 * l.more
