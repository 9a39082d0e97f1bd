-- The state of the search for loop and depth between two steps. Assumes nothing.
use Rattle.std.specs.Prelude.{ℕ, zero, suc, ◌+◌, ◌-◌, ◌*◌, ◌≤◌, ◌<◌, false, cond, List, ◌≡◌, eqb, length, Result, Ok, Err}
use Rattle.node.specs.declared.Choice.{Choice}
use Rattle.node.specs.declared.Choice.TheVariants.{Right, Left}
use Rattle.node_route.specs.declared.GraphError.{GraphError}
use Rattle.node_graph.specs.declared.LoopError.{LoopError}
use Rattle.record.specs.Nodes.{node_size}
use Rattle.node.specs.Nodes.{nodes_of, subsector_bit, child_of, root}
use Rattle.node_route.specs.Routes.{Reached}
use Rattle.node.specs.Ranges.{NodesInRange}
use Rattle.node_route.specs.Heights.{stands, height, graph_verdict}
use Rattle.node_graph.specs.Ways.{loop_choice, deep_choice, word_after}
use Rattle.node_graph.specs.Looks.{path_mark, mark_of, path_of, path_choice, height_choice}

-- how many of the first `n` marks are 0
unfoldable pub unmet : (ℕ → ℕ) → ℕ → ℕ
unmet mark zero = 0
unmet mark (suc n) = cond (eqb (mark n) 0) (suc (unmet mark n)) (unmet mark n)

-- the longest list of choices from the word `w` makes `h`, and then stands on a subsector
abbrev pub Tall : List ℕ → ℕ → ℕ → Type 0
Tall nodes w h = (k : ℕ) → h ≤ k → (stands nodes k w ≡ false) × (height nodes k w ≡ h)

-- the search goes left at node `w` only where no loop can be reached through the right child
abbrev pub Due : List ℕ → ℕ → Choice → Type 0
Due nodes w c = c ≡ Left → stands nodes (nodes_of nodes) (child_of nodes w Right) ≡ false

-- the marks and the path of `sp` nodes, between two steps
pub record Searching (nodes : List ℕ) (count : ℕ) (mark path : ℕ → ℕ) (sp : ℕ) : Type 0 where
  -- there is room on the path for every node not met yet
  pub room : unmet mark count + sp ≤ count
  -- the root was met, and begins the path
  pub root_met : mark (count - 1) ≡ 0 → ⊥
  pub first : 0 < sp → path 0 ≡ count - 1
  -- the path is of different nodes that are marked so, each the child of the one before that is due
  pub in_range : (j : ℕ) → j < sp → path j < count
  pub marked : (j : ℕ) → j < sp → mark (path j) ≡ path_mark
  pub apart : (i j : ℕ) → i < j → j < sp → path i ≡ path j → ⊥
  pub linked : (j : ℕ) → j + 1 < sp → (c : Choice) × (path (j + 1) ≡ child_of nodes (path j) c) × Due nodes (path j) c
  -- a node marked as on the path is there
  pub on_path : (i : ℕ) → i < count → mark i ≡ path_mark → (j : ℕ) × (j < sp) × (path j ≡ i)
  -- a node that was met is reached
  pub known : (i : ℕ) → i < count → (mark i ≡ 0 → ⊥) → Reached nodes i
  -- and where it is done its children were met
  pub closed : (i : ℕ) → i < count → (mark i ≡ 0 → ⊥) → (mark i ≡ path_mark → ⊥) → (c : Choice)
      → child_of nodes i c < subsector_bit → mark (child_of nodes i c) ≡ 0 → ⊥
  -- any other mark is the node's height, and leaves room for those above it
  pub tall : (i : ℕ) → i < count → (mark i ≡ 0 → ⊥) → (mark i ≡ path_mark → ⊥) → Tall nodes i (mark i)
  pub low : (i : ℕ) → i < count → (mark i ≡ 0 → ⊥) → (mark i ≡ path_mark → ⊥) → mark i + (unmet mark count + sp) ≤ count

-- what the search is given: at least one node, whole nodes whose children are in range, and two words for each
pub record Searchable (nodes : List ℕ) (count : ℕ) (words : List ℕ) : Type 0 where
  pub whole : node_size * count ≡ length nodes
  pub least : 1 ≤ count
  pub most : count ≤ 32767
  pub enough : 2 * count ≤ length words
  pub in_range : NodesInRange nodes

-- the state in the words
abbrev pub State : List ℕ → ℕ → List ℕ → ℕ → Type 0
State nodes count words sp = Searching nodes count (mark_of words) (path_of words count) sp

-- what falls with each step: a node is put on the path once, and taken off it once
abbrev pub effort : List ℕ → ℕ → ℕ → ℕ
effort words count sp = unmet (mark_of words) count + unmet (mark_of words) count + sp

-- what the search knows where it meets a loop: the first `n` choices by the rule are at different nodes, the last of them leads
-- to one of these again, and the marks tell each
pub record LoopMet (nodes : List ℕ) (mark : ℕ → ℕ) (n : ℕ) : Type 0 where
  pub loops : graph_verdict nodes ≡ Err GraphError.HasLoop
  pub some : 0 < n
  pub few : n ≤ nodes_of nodes
  pub in_range : (j : ℕ) → j < n → word_after nodes (loop_choice nodes) j < nodes_of nodes
  pub apart : (i j : ℕ) → i < j → j < n → word_after nodes (loop_choice nodes) i ≡ word_after nodes (loop_choice nodes) j → ⊥
  pub back : (i : ℕ) × (i < n) × (word_after nodes (loop_choice nodes) n ≡ word_after nodes (loop_choice nodes) i)
  pub told : (j : ℕ) → j < n
      → path_choice nodes mark (word_after nodes (loop_choice nodes) j) ≡ loop_choice nodes (word_after nodes (loop_choice nodes) j)

-- what a step from `before` to `after` answers: the loop that it meets, which as many choices lead into as there are nodes on the path,
-- or the path's new length
abbrev pub Stepped : List ℕ → ℕ → List ℕ → ℕ → List ℕ → Result ℕ LoopError → Type 0
Stepped nodes count before sp after (Err e) = (e.choices ≡ sp) × LoopMet nodes (mark_of after) sp
Stepped nodes count before sp after (Ok next) =
    State nodes count after next × (effort after count next < effort before count sp)

-- what the search knows at its end: there is no loop, the depth, that the marked nodes are the reached ones, and that each
-- mark is its node's height
pub record Explored (nodes : List ℕ) (mark : ℕ → ℕ) (depth : ℕ) : Type 0 where
  pub straight : stands nodes (nodes_of nodes) (root (nodes_of nodes)) ≡ false
  pub high : height nodes (nodes_of nodes) (root (nodes_of nodes)) ≡ depth
  pub known : (i : ℕ) → i < nodes_of nodes → (mark i ≡ 0 → ⊥) → Reached nodes i
  pub every : (i : ℕ) → Reached nodes i → i < subsector_bit → (i < nodes_of nodes) × (mark i ≡ 0 → ⊥)
  pub told : (i : ℕ) → Reached nodes i → i < subsector_bit → height_choice nodes mark i ≡ deep_choice nodes i

-- what the search answers, with the words that it leaves: the loop that it meets, or the depth
abbrev pub Searched : List ℕ → List ℕ → Result ℕ LoopError → Type 0
Searched nodes after (Err e) = LoopMet nodes (mark_of after) e.choices
Searched nodes after (Ok depth) = Explored nodes (mark_of after) depth
