-- The two ways that a search of the graph finds (W-211): the choices that lead into a loop, and those that go as deep as the
-- graph does. Assumes nothing.
use Rattle.std.specs.Prelude.{ℕ, zero, suc, cond, List, leb}
use Rattle.node.specs.declared.Choice.{Choice}
use Rattle.node.specs.declared.Choice.TheVariants.{Right, Left}
use Rattle.node.specs.Nodes.{nodes_of, child_of, root}
use Rattle.node_route.specs.Heights.{stands, height}

-- at node `w` the right child if a loop can be reached through it, otherwise the left
abbrev pub loop_choice : List ℕ → ℕ → Choice
loop_choice nodes w = cond (stands nodes (nodes_of nodes) (child_of nodes w Right)) Right Left

-- how deep the graph goes from the child that a choice at node `w` leads to
abbrev pub depth_below : List ℕ → ℕ → Choice → ℕ
depth_below nodes w c = height nodes (nodes_of nodes) (child_of nodes w c)

-- at node `w` the right child if it goes as deep as the left one, otherwise the left
abbrev pub deep_choice : List ℕ → ℕ → Choice
deep_choice nodes w = cond (leb (depth_below nodes w Left) (depth_below nodes w Right)) Right Left

-- the word that `j` choices by a rule lead to from the root
unfoldable pub word_after : List ℕ → (ℕ → Choice) → ℕ → ℕ
word_after nodes rule zero = root (nodes_of nodes)
word_after nodes rule (suc j) = child_of nodes (word_after nodes rule j) (rule (word_after nodes rule j))
