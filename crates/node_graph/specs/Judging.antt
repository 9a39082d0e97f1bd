-- What the graph check is given and what it promises (01, "The node graph": 4 × N lent words, whose first contents change
-- nothing; "Refusal numbers": the first 4 × N are zero afterwards, later ones as found). Assumes nothing.
use Rattle.std.specs.Prelude.{ℕ, ◌*◌, ◌≤◌, List, ◌++◌, ◌≡◌, length, drop, replicate, Result}
use Rattle.node_route.specs.declared.GraphError.{GraphError}
use Rattle.record.specs.Nodes.{node_size}
use Rattle.node.specs.Ranges.{NodesInRange}
use Rattle.node_route.specs.Heights.{graph_verdict}

-- whole nodes, at most 32,767, whose children are in range, and four words for each
pub record Judgeable (nodes : List ℕ) (count : ℕ) (words : List ℕ) : Type 0 where
  pub whole : node_size * count ≡ length nodes
  pub most : count ≤ 32767
  pub enough : 4 * count ≤ length words
  pub in_range : NodesInRange nodes

-- the first `n` words are zero, the others as found
abbrev pub cleared : List ℕ → ℕ → List ℕ
cleared words n = replicate n 0 ++ drop n words

-- the answer, and the words afterwards
pub record GraphJudged (nodes : List ℕ) (count : ℕ) (before after : List ℕ) (answer : Result ℕ GraphError) : Type 0 where
  pub verdict : answer ≡ graph_verdict nodes
  pub words : after ≡ cleared before (4 * count)
