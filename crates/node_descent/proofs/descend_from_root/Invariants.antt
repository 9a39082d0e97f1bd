-- `node_descent::descend_from_root` meets its contract. The loop's invariant: the descent from the word at hand, with the choices
-- that are left, is the descent from the root; a word that is a node is in range. Assumes nothing.
use Prim.Native.Nat.{◌-◌, ◌≤◌, ◌<◌}
use mathlib.Core.Path.{◌≡◌}
use Rattle.node.specs.Nodes.{subsector_bit, root}
use Rattle.node_descent.specs.Walks.{descent_from}
use Rattle.node_descent.proofs.descend_from_root.Given as goal

abbrev pub invariant-loop-passed : goal.invariant-loop-passed
invariant-loop-passed l =
    (l.passed ≤ l.count)
    × (l.word < subsector_bit → l.word < l.count)
    × (descent_from l.nodes l.subsectors l.x l.y (l.count - l.passed) l.passed l.word
    ≡ descent_from l.nodes l.subsectors l.x l.y l.count 0 (root l.count))
