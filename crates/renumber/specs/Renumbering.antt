-- The renumbered NODES lump, and what is answered and lent back (02, W-212). Assumes nothing.
use Rattle.std.specs.Prelude.{ℕ, ◌*◌, cond, List, [], ◌++◌, ◌≡◌, length, take, Result, Ok, Err}
use Rattle.endian.specs.Unsigned.{u16_bytes}
use Rattle.refusal.specs.Checks.{Check}
use Rattle.layout.specs.Rows.{laid_out}
use Rattle.layout.specs.Buffers.{buffer_after}
use Rattle.record_field.specs.Records.{record_bytes}
use Rattle.record.specs.Nodes.{node_size}
use Rattle.node.specs.declared.Choice.TheVariants.{Right, Left}
use Rattle.node.specs.Nodes.{is_node, child_of}
use Rattle.refusal.specs.declared.Refusal.{Refusal}
use Rattle.map_check.specs.Verdict.{Verdict, nodes_at, verdict, words_after}
use Rattle.renumber_order.specs.Orders.{index_in, renumber_check}
use Rattle.renumber_order.specs.Orders.{old_at}

-- a node by its place in the list; a subsector as it is
abbrev pub renamed : List ℕ → ℕ → ℕ
renamed order w = cond (is_node w) (index_in order w) w

-- the bytes of node `v` up to its children, and two others in their place
abbrev pub with_children : List ℕ → ℕ → ℕ → ℕ → List ℕ
with_children nodes v right left = take 24 (record_bytes nodes node_size v) ++ u16_bytes right ++ u16_bytes left

-- node `i` of the new lump: the old one with its children renamed
abbrev pub new_node : List ℕ → List ℕ → ℕ → List ℕ
new_node nodes order i =
    with_children nodes (old_at order i)
    (renamed order (child_of nodes (old_at order i) Right)) (renamed order (child_of nodes (old_at order i) Left))

-- the new lump
abbrev pub renumbered : List ℕ → List ℕ → List ℕ
renumbered nodes order = laid_out (new_node nodes order) (length order)

-- the list is looked at where the map is accepted
abbrev pub check_by : Verdict → List ℕ → List ℕ → ℕ → Check
check_by (Ok map) wad order room = renumber_check (nodes_at wad map.marker) order room
check_by (Err r) wad order room = Err r

-- the new lump of an accepted map; a refused one has none
abbrev pub lump_by : Verdict → List ℕ → List ℕ → List ℕ
lump_by (Ok map) wad order = renumbered (nodes_at wad map.marker) order
lump_by (Err r) wad order = []

-- how many bytes were written, or the refusal
abbrev pub renumbering_of : Check → ℕ → Result ℕ Refusal
renumbering_of (Ok _) length = Ok length
renumbering_of (Err r) length = Err r

-- what is promised: the answer, the words as the map check leaves them, and the output
pub record Renumbers (wad name words order out : List ℕ) (answer : Result ℕ Refusal) (wordsThen outThen : List ℕ) : Type 0 where
  pub answers : answer ≡ renumbering_of (check_by (verdict wad name words) wad order (length out)) (node_size * length order)
  pub leaves : wordsThen ≡ words_after wad name words
  pub writes : outThen ≡ buffer_after (check_by (verdict wad name words) wad order (length out)) (lump_by (verdict wad name words) wad order) out
