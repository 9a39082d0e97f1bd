-- Routes, loop, shared child and depth by lists of choices, in the words of 01, "The node graph", and of W-202.
-- Assumes nothing.
use Rattle.std.specs.Prelude.{ℕ, ◌≤◌, ◌<◌, List, [], ◌∷◌, ◌≡◌, length}
use Rattle.node.specs.declared.Choice.{Choice}
use Rattle.node.specs.Nodes.{nodes_of, subsector_bit, child_of, root}

-- the choices `cs` can all be made from the word `w`, each at a node, and lead to the word `v`
abbrev pub Follow : List ℕ → ℕ → List Choice → ℕ → Type 0
Follow nodes w [] v = w ≡ v
Follow nodes w (c ∷ cs) v = (w < subsector_bit) × Follow nodes (child_of nodes w c) cs v

-- the choices `cs` lead from the root to the word `v`
abbrev pub Leads : List ℕ → List Choice → ℕ → Type 0
Leads nodes cs v = Follow nodes (root (nodes_of nodes)) cs v

-- a word that some list of choices leads to
pub record Reached (nodes : List ℕ) (v : ℕ) : Type 0 where
  pub choices : List Choice
  pub leads : Leads nodes choices v

-- a loop: some list of as many choices as there are nodes is still on a node
pub record Loop (nodes : List ℕ) : Type 0 where
  pub choices : List Choice
  pub many : length choices ≡ nodes_of nodes
  pub stand : ℕ
  pub leads : Leads nodes choices stand
  pub on_node : stand < subsector_bit

-- a shared node or subsector: two different lists of choices lead to it
pub record Shared (nodes : List ℕ) : Type 0 where
  pub one : List Choice
  pub other : List Choice
  pub different : one ≡ other → ⊥
  pub stand : ℕ
  pub leads_one : Leads nodes one stand
  pub leads_other : Leads nodes other stand

-- a route: choices from the root that end at a subsector. It passes as many nodes as it has choices.
pub record Route (nodes : List ℕ) (choices : List Choice) : Type 0 where
  pub stand : ℕ
  pub leads : Leads nodes choices stand
  pub ends : subsector_bit ≤ stand

-- the depth: some route passes `depth` nodes, and none passes more
pub record Depth (nodes : List ℕ) (depth : ℕ) : Type 0 where
  pub choices : List Choice
  pub reached : Route nodes choices
  pub many : length choices ≡ depth
  pub most : (cs : List Choice) → Route nodes cs → length cs ≤ depth
