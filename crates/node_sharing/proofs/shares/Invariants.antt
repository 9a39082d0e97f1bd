-- `node_sharing::shares` meets its contract. The loop's invariant: the children of the marked nodes below `node` are noted, and none
-- came twice. Assumes nothing.
use Rattle.node_sharing.specs.Inner.{Seen}
use Rattle.node_sharing.proofs.shares.Given as goal

abbrev pub invariant-loop-node : goal.invariant-loop-node
invariant-loop-node l =
    Seen l.nodes l.marks l.node l.seen
