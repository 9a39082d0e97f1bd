-- Not for the reader of promises: what only contracts of inner functions cite. Assumes nothing.
use Rattle.std.specs.Prelude.{ℕ, zero, suc, ◌*◌, ◌≤◌, ◌<◌, List, [], ◌∷◌, ◌≡◌, length}
use Rattle.record.specs.Nodes.{node_size}
use Rattle.node.specs.declared.Choice.{Choice}
use Rattle.node.specs.Ranges.{NodesInRange}
use Rattle.node_graph.specs.Ways.{word_after}
use Rattle.node_path.specs.Ways.{bytes_of}

-- `n` choices by a rule, after `j` of them from the root
unfoldable pub choices_from : List ℕ → (ℕ → Choice) → ℕ → ℕ → List Choice
choices_from nodes rule j zero = []
choices_from nodes rule j (suc n) = rule (word_after nodes rule j) ∷ choices_from nodes rule (suc j) n

-- the bytes of the first `n` choices by a rule
abbrev pub told_bytes : List ℕ → (ℕ → Choice) → ℕ → List ℕ
told_bytes nodes rule n = bytes_of (choices_from nodes rule 0 n)

-- `n` choices by the rule can be made, and read off the marks
pub record Printable (nodes : List ℕ) (count : ℕ) (words : List ℕ) (rule : ℕ → Choice) (n : ℕ) : Type 0 where
  pub whole : node_size * count ≡ length nodes
  pub least : 1 ≤ count
  pub enough : count ≤ length words
  pub in_range : NodesInRange nodes
  pub within : (j : ℕ) → j < n → word_after nodes rule j < count
