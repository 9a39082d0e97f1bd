-- `node_graph::NodeGraph::explore` meets its contract. The loop's invariant is the search's state; the measure is what falls with
-- each step. Assumes nothing.
use Prim.Native.Nat.{◌*◌, ◌≤◌}
use lib.ListN.{length}
use Rattle.node_graph.specs.Searching.{State, effort}
use Rattle.node_graph.proofs.NodeGraph.explore.Given as goal

abbrev pub invariant-loop-sp : goal.invariant-loop-sp
invariant-loop-sp l =
    State l.self.nodes.now l.self.count l.words l.sp × (2 * l.self.count ≤ length l.words)

abbrev pub decreases-loop-sp : goal.decreases-loop-sp
decreases-loop-sp l =
    effort l.words l.self.count l.sp
