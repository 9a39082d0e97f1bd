-- What is promised of the two lists, in the words of W-211, and of the function that prints them. The proofs of the first are
-- proofs/Loops.antt and proofs/Routes.antt. Assumes nothing.
use Rattle.std.specs.Prelude.{ℕ, ◌<◌, true, false, List, [], ◌∷◌, map, ◌≡◌, Ok, Err, length as size}
use Rattle.node.specs.declared.Choice.{Choice}
use Rattle.node_route.specs.declared.GraphError.{GraphError}
use Rattle.node.specs.Nodes.{nodes_of, child_of, root}
use Rattle.node_route.specs.Routes.{Leads, Route}
use Rattle.node_route.specs.Heights.{member, repeats, graph_verdict}
use Rattle.node.specs.Ranges.{NodesInRange}
use Rattle.node_graph.specs.Ways.{loop_choice, deep_choice}
use Rattle.node_path.specs.declared.Told.{Told}
use Rattle.node_path.specs.Ways.{loop_way, route_of, way_of, bytes_of, printed}

-- the words at which the choices `cs` from the word `w` are made, in their order
abbrev pub made_at : List ℕ → ℕ → List Choice → List ℕ
made_at nodes w [] = []
made_at nodes w (c ∷ cs) = w ∷ made_at nodes (child_of nodes w c) cs

-- the word that they lead to
abbrev pub end_of : List ℕ → ℕ → List Choice → ℕ
end_of nodes w [] = w
end_of nodes w (c ∷ cs) = end_of nodes (child_of nodes w c) cs

-- each choice is the rule's at the node where it is made
abbrev pub ByRule : (ℕ → Choice) → List ℕ → ℕ → List Choice → Type 0
ByRule rule nodes w cs = map rule (made_at nodes w cs) ≡ cs

-- the list can be followed from the root, each choice by the rule; it ends at a node met before, which is the only one that it
-- comes to twice; and it is not empty
pub record LoopTold (nodes : List ℕ) (cs : List Choice) : Type 0 where
  pub leads : Leads nodes cs (end_of nodes (root (nodes_of nodes)) cs)
  pub rule : ByRule (loop_choice nodes) nodes (root (nodes_of nodes)) cs
  pub back : member (end_of nodes (root (nodes_of nodes)) cs) (made_at nodes (root (nodes_of nodes)) cs) ≡ true
  pub once : repeats (made_at nodes (root (nodes_of nodes)) cs) ≡ false
  pub some : 0 < size cs

-- on every graph with a loop
abbrev pub LoopWayHolds : List ℕ → Type 0
LoopWayHolds nodes = NodesInRange nodes → graph_verdict nodes ≡ Err GraphError.HasLoop → LoopTold nodes (loop_way nodes)

-- the list is a route of exactly `depth` choices, right wherever right is as deep
pub record RouteTold (nodes : List ℕ) (depth : ℕ) (cs : List Choice) : Type 0 where
  pub route : Route nodes cs
  pub many : size cs ≡ depth
  pub rule : ByRule (deep_choice nodes) nodes (root (nodes_of nodes)) cs

-- on every accepted graph
abbrev pub RouteHolds : List ℕ → Type 0
RouteHolds nodes = (depth : ℕ) → graph_verdict nodes ≡ Ok depth → RouteTold nodes depth (route_of nodes)

-- the verdict, how many bytes its list has, and the output afterwards
pub record WayPrinted (nodes before after : List ℕ) (answer : Told) : Type 0 where
  pub verdict : answer.verdict ≡ graph_verdict nodes
  pub length : answer.length ≡ size (way_of nodes (graph_verdict nodes))
  pub out : after ≡ printed before (bytes_of (way_of nodes (graph_verdict nodes)))
