-- Not for the reader of promises: what only contracts of inner functions cite. The work words hold the place of each node in the list.
-- Assumes nothing.
use Rattle.refusal.specs.declared.Refusal.{Refusal}
use Rattle.std.specs.Prelude.{ℕ, ◌*◌, ◌≤◌, true, cond, List, ◌≡◌, length, Result, Ok}
use Rattle.layout.specs.Buffers.{buffer_after}
use Rattle.record.specs.Nodes.{node_size}
use Rattle.node.specs.declared.Choice.TheVariants.{Right, Left}
use Rattle.node.specs.Nodes.{is_node, child_of}
use Rattle.map_check.specs.Verdict.{verdict_by, words_after_by}
use Rattle.renumber_order.specs.Orders.{children_ok}
use Rattle.renumber_order.specs.Judging.{renumber_graph_check, Ordered}
use Rattle.renumber_order.specs.Places.{place_word}
use Rattle.renumber.specs.Renumbering.{with_children, check_by, lump_by, renumbered, renumbering_of}

-- ---- from a marker on, and from the nodes on

-- what is promised from a marker on that was found
pub record RenumbersAt (wad : List ℕ) (marker : ℕ) (words order out : List ℕ) (answer : Result ℕ Refusal)
    (wordsThen outThen : List ℕ) : Type 0 where
  pub answers : answer ≡ renumbering_of (check_by (verdict_by wad words (Ok marker)) wad order (length out)) (node_size * length order)
  pub leaves : wordsThen ≡ words_after_by wad words (Ok marker)
  pub writes : outThen ≡ buffer_after (check_by (verdict_by wad words (Ok marker)) wad order (length out))
      (lump_by (verdict_by wad words (Ok marker)) wad order) out

-- what is answered and written where only the node graph and the list are left to judge
pub record NodesRenumbered (nodes order out : List ℕ) (answer : Result ℕ Refusal) (outThen : List ℕ) : Type 0 where
  pub answers : answer ≡ renumbering_of (renumber_graph_check nodes order (length out)) (node_size * length order)
  pub writes : outThen ≡ buffer_after (renumber_graph_check nodes order (length out)) (renumbered nodes order) out

-- ---- children by the words

-- a child by its new number
abbrev pub renamed_by : List ℕ → ℕ → ℕ → ℕ
renamed_by words count w = cond (is_node w) (place_word words count w) w

-- node `v` by the new numbers of its children
abbrev pub node_by : List ℕ → List ℕ → ℕ → ℕ → List ℕ
node_by nodes words count v =
    with_children nodes v (renamed_by words count (child_of nodes v Right)) (renamed_by words count (child_of nodes v Left))

-- what a list that passes is written from
pub record Writable (nodes : List ℕ) (count : ℕ) (words order : List ℕ) (room : ℕ) : Type 0 where
  pub ordered : Ordered nodes count words order
  pub first : children_ok nodes order (length order) ≡ true
  pub fits : node_size * length order ≤ room
