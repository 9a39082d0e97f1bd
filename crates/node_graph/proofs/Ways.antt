-- Laws of the two ways: one choice more, and what says which child the rule of the loop takes. Assumes nothing.
use Prim.Native.Nat.{ℕ, suc}
use mathlib.Core.Bool.{true, false}
use mathlib.Core.List.{List}
use mathlib.Core.Path.{◌≡◌, refl}
use Rattle.node.specs.declared.Choice.{Choice}
use Rattle.node.specs.declared.Choice.TheVariants.{Right, Left}
use Rattle.node.specs.Nodes.{nodes_of, child_of, root}
use Rattle.node_route.specs.Heights.{stands}
use Rattle.node_graph.specs.Ways.{loop_choice, word_after}
use Rattle.node_graph.specs.Searching.{Due}

module _ (nodes : List ℕ) (rule : ℕ → Choice) where
  pub after_none : word_after nodes rule 0 ≡ root (nodes_of nodes)
  unfolding word_after
  after_none = refl

  pub after_more : (j : ℕ) → word_after nodes rule (suc j) ≡ child_of nodes (word_after nodes rule j) (rule (word_after nodes rule j))
  unfolding word_after
  after_more j = refl

module _ (nodes : List ℕ) (w : ℕ) where
  pub loop-right : stands nodes (nodes_of nodes) (child_of nodes w Right) ≡ true → loop_choice nodes w ≡ Right
  loop-right e = rw e

  pub loop-left : stands nodes (nodes_of nodes) (child_of nodes w Right) ≡ false → loop_choice nodes w ≡ Left
  loop-left e = rw e

  -- a choice that was due, and from whose child a loop is reached, is the rule's
  pub loop-due : (c : Choice) → Due nodes w c → stands nodes (nodes_of nodes) (child_of nodes w c) ≡ true → loop_choice nodes w ≡ c
  loop-due Right due e = loop-right e
  loop-due Left due e = loop-left (due refl)
