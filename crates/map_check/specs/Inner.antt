-- Not for the reader of promises: what only contracts of inner functions cite. Assumes nothing.
use Rattle.std.specs.Prelude.{ℕ, ◌*◌, List, ◌≡◌}
use Rattle.node.specs.Nodes.{nodes_of}
use Rattle.node_route.specs.Heights.{graph_verdict}
use Rattle.node_graph.specs.Judging.{cleared}
use Rattle.map_check.specs.Verdict.{Verdict, graph_answer}

-- what the map check answers where only the node graph is left to judge
pub record AnsweredBy (nodes : List ℕ) (marker : ℕ) (words : List ℕ) (answer : Verdict) (after : List ℕ) : Type 0 where
  pub verdicts : answer ≡ graph_answer (graph_verdict nodes) marker
  pub leaves : after ≡ cleared words (4 * nodes_of nodes)
