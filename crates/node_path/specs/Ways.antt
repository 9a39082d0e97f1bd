-- The lists of choices that tell a member why (W-211): into a loop, and as deep as an accepted graph goes. Assumes nothing.
use Rattle.std.specs.Prelude.{ℕ, zero, suc, cond, List, [], ◌∷◌, ◌++◌, map, leb, length, drop, Result, Ok, Err}
use Rattle.node.specs.declared.Choice.{Choice}
use Rattle.node.specs.declared.Choice.TheVariants.{Right, Left}
use Rattle.node_route.specs.declared.GraphError.{GraphError}
use Rattle.node.specs.Nodes.{nodes_of, is_node, child_of, root}
use Rattle.node_route.specs.Heights.{member}
use Rattle.node_graph.specs.Ways.{loop_choice, deep_choice}

-- from the word `w` on, with the nodes `met` so far: right if a loop can be reached through the right child, otherwise left,
-- until a node comes a second time, and at most `fuel` choices
unfoldable pub loop_from : List ℕ → ℕ → List ℕ → ℕ → List Choice
loop_from nodes zero met w = []
loop_from nodes (suc fuel) met w =
    cond (member w met) [] (loop_choice nodes w ∷ loop_from nodes fuel (w ∷ met) (child_of nodes w (loop_choice nodes w)))

-- from the root; as many choices as there are nodes are enough
abbrev pub loop_way : List ℕ → List Choice
loop_way nodes = loop_from nodes (nodes_of nodes) [] (root (nodes_of nodes))

-- from the word `w` down to a subsector: right where the right child is as deep, otherwise left, and at most `fuel` choices
unfoldable pub route_from : List ℕ → ℕ → ℕ → List Choice
route_from nodes zero w = []
route_from nodes (suc fuel) w =
    cond (is_node w) (deep_choice nodes w ∷ route_from nodes fuel (child_of nodes w (deep_choice nodes w))) []

-- from the root; no route of an accepted graph has more choices than there are nodes
abbrev pub route_of : List ℕ → List Choice
route_of nodes = route_from nodes (nodes_of nodes) (root (nodes_of nodes))

-- the list that is printed with a verdict: none with a shared child
abbrev pub way_of : List ℕ → Result ℕ GraphError → List Choice
way_of nodes (Err GraphError.HasLoop) = loop_way nodes
way_of nodes (Err GraphError.HasShared) = []
way_of nodes (Ok depth) = route_of nodes

-- `R` and `L`
abbrev pub choice_byte : Choice → ℕ
choice_byte Right = 82
choice_byte Left = 76

-- a byte for each choice
abbrev pub bytes_of : List Choice → List ℕ
bytes_of cs = map choice_byte cs

-- the output with the bytes at its front where it has room for them, and otherwise as it was
abbrev pub printed : List ℕ → List ℕ → List ℕ
printed out bytes = cond (leb (length bytes) (length out)) (bytes ++ drop (length bytes) out) out
