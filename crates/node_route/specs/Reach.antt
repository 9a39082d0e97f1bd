-- Which nodes a map reaches, and how many nodes and subsectors (W-202): counted by lists that hold each of them once. Assumes nothing.
use Rattle.std.specs.Prelude.{ℕ, ◌+◌, ◌≤◌, ◌<◌, Bool, true, false, cond, List, [], ◌∷◌, ◌≡◌, length}
use Rattle.node.specs.Nodes.{nodes_of, subsector_bit, is_node, root}
use Rattle.node_route.specs.Routes.{Reached}
use Rattle.node_route.specs.Heights.{words_from, member, repeats}

-- the members of a list that pass a test
abbrev pub kept : (ℕ → Bool) → List ℕ → List ℕ
kept test [] = []
kept test (x ∷ xs) = cond (test x) (x ∷ kept test xs) (kept test xs)

-- the nodes that choices from the root lead to, one for each list of choices: where no node is shared, each once
abbrev pub reached_nodes : List ℕ → List ℕ
reached_nodes nodes = kept is_node (words_from nodes (nodes_of nodes) (root (nodes_of nodes)))

-- the list holds every number with the property, nothing else, and each once
pub record HoldsOnce (P : ℕ → Type 0) (xs : List ℕ) : Type 0 where
  pub every : (v : ℕ) → P v → member v xs ≡ true
  pub only : (v : ℕ) → member v xs ≡ true → P v
  pub once : repeats xs ≡ false

-- the reached nodes are counted, and the reached subsectors are one more
pub record OneMore (nodes : List ℕ) : Type 0 where
  pub node_words : List ℕ
  pub subsector_words : List ℕ
  pub reached_nodes : HoldsOnce (λ v. Reached nodes v × (v < subsector_bit)) node_words
  pub reached_subsectors : HoldsOnce (λ v. Reached nodes v × (subsector_bit ≤ v)) subsector_words
  pub one_more : length subsector_words ≡ length node_words + 1
  -- so that no more subsectors are drawn than there are nodes, and one
  pub few : length node_words ≤ nodes_of nodes
