-- Not for the reader of promises: what the contracts of the functions cite. Marks and places are those of `places`.
-- Assumes nothing.
use Rattle.std.specs.Prelude.{ℕ, ◌+◌, ◌*◌, ◌≤◌, ◌<◌, Bool, false, ◌&&◌, ◌||◌, not, List, ◌≡◌, ltb, length, Result, Ok, Err}
use Rattle.refusal.specs.Checks.{Check}
use Rattle.refusal.specs.declared.Refusal.TheVariants.{NodeLoop, NodeShared}
use Rattle.record.specs.Nodes.{node_size}
use Rattle.node.specs.declared.Choice.{Choice}
use Rattle.node.specs.declared.Choice.TheVariants.{Right, Left}
use Rattle.node_route.specs.declared.GraphError.{GraphError}
use Rattle.node_route.specs.declared.GraphError.TheVariants.{HasLoop, HasShared}
use Rattle.node.specs.Nodes.{subsector_bit, is_node, child_of}
use Rattle.node_route.specs.Heights.{member, repeats, graph_verdict}
use Rattle.node.specs.Ranges.{NodesInRange}
use Rattle.node_route.specs.Reach.{reached_nodes}
use Rattle.renumber_order.specs.Orders.{old_at, renumber_check}
use Rattle.renumber_order.specs.Places.{marked_ok, place_word, PlacesHeld}

-- ---- the graph and the list

-- 31 and 32, and where the graph passes the list
abbrev pub graph_check : Result ℕ GraphError → List ℕ → List ℕ → ℕ → Check
graph_check (Err HasLoop) nodes order room = Err NodeLoop
graph_check (Err HasShared) nodes order room = Err NodeShared
graph_check (Ok depth) nodes order room = renumber_check nodes order room

abbrev pub renumber_graph_check : List ℕ → List ℕ → ℕ → Check
renumber_graph_check nodes order room = graph_check (graph_verdict nodes) nodes order room

-- the marked nodes are the reached ones, and none of these is reached twice
pub record Marks (nodes : List ℕ) (count : ℕ) (words : List ℕ) : Type 0 where
  pub says : (v : ℕ) → member v (reached_nodes nodes) ≡ marked_ok words count v
  pub once : repeats (reached_nodes nodes) ≡ false

-- a list without repeats of nodes of the lump, whose places the words hold
pub record Ordered (nodes : List ℕ) (count : ℕ) (words order : List ℕ) : Type 0 where
  pub whole : node_size * count ≡ length nodes
  pub least : 1 ≤ count
  pub enough : 2 * count ≤ length words
  pub in_range : NodesInRange nodes
  pub few : length order ≤ 32767
  pub low : (i : ℕ) → i < length order → old_at order i < count
  pub once : repeats order ≡ false
  pub places : PlacesHeld order (length order) words count

-- what is answered of the list, and known where it passes
pub record OrderJudged (nodes : List ℕ) (count : ℕ) (order : List ℕ) (room : ℕ) (words : List ℕ) (answer : Check) : Type 0 where
  pub tells : answer ≡ renumber_check nodes order room
  pub ordered : answer ≡ Ok tt → Ordered nodes count words order

-- and of the graph and the list
pub record RenumberJudged (nodes : List ℕ) (count : ℕ) (order : List ℕ) (room : ℕ) (words : List ℕ) (answer : Check) : Type 0 where
  pub tells : answer ≡ renumber_graph_check nodes order room
  pub ordered : answer ≡ Ok tt → Ordered nodes count words order

-- ---- children by the words

-- the child `w` is a subsector, or has a place before `i`
abbrev pub before_ok : List ℕ → ℕ → ℕ → ℕ → Bool
before_ok words count i w = not (is_node w) || ltb (place_word words count w) i

-- both children of node `v`
abbrev pub both_before : List ℕ → List ℕ → ℕ → ℕ → ℕ → Bool
both_before nodes words count i v = before_ok words count i (child_of nodes v Right) && before_ok words count i (child_of nodes v Left)

-- the words have a place for every child of node `v` that is a node
abbrev pub ChildrenPlaced : List ℕ → ℕ → List ℕ → ℕ → Type 0
ChildrenPlaced nodes count words v = (c : Choice) → child_of nodes v c < subsector_bit → count + child_of nodes v c < length words
