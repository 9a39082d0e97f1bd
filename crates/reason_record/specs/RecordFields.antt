-- The fields of a record that refer to other records, in byte order, each with the range that 01 allows there (W-211).
-- Places and numbers are as stored. 0 to `count - 1` is what is below `count` where that is above 0, as 21 has it of
-- every count here. Assumes nothing.
use Rattle.std.specs.Prelude.{ℕ, ◌+◌, ◌-◌, ◌/◌, ◌<◌, ◌≤◌, Bool, not, ◌&&◌, cond, List, [], ◌∷◌, eqb, length}
use Rattle.endian.specs.Unsigned.{u16_at}
use Rattle.reason_range.specs.declared.Field.{Field}
use Rattle.reason_range.specs.Fields.{field_at}
use Rattle.record_linedef.specs.Linedefs.{linedef_size, right_offset, left_offset, no_sidedef}
use Rattle.node.specs.Nodes.{is_node, subsector_bit}
use Rattle.map_reference.specs.References.{two_sided, left_ok}

-- a count as 21 leaves it
abbrev pub Counted : ℕ → Type 0
Counted count = (0 < count) × (count ≤ 65535)

-- a field that numbers one of `count` others
abbrev pub number_at : List ℕ → ℕ → ℕ → Field
number_at bytes at count = field_at bytes at 0 (count - 1)

-- the left sidedef, unless it is absent and optional
abbrev pub left_fields : Bool → List ℕ → ℕ → List Field
left_fields hexen bytes sidedefs =
    cond (eqb (u16_at bytes (left_offset hexen)) no_sidedef && not (two_sided (u16_at bytes 4))) []
    (number_at bytes (left_offset hexen) sidedefs ∷ [])

-- start, end, right and left of a linedef, by its game
abbrev pub linedef_fields : Bool → List ℕ → ℕ → ℕ → List Field
linedef_fields hexen bytes vertices sidedefs =
    number_at bytes 0 vertices ∷ number_at bytes 2 vertices ∷ number_at bytes (right_offset hexen) sidedefs ∷ left_fields hexen bytes sidedefs

-- a sidedef's sector
abbrev pub sidedef_fields : List ℕ → ℕ → List Field
sidedef_fields bytes sectors = number_at bytes 28 sectors ∷ []

-- start, end, linedef and direction of a seg; along a linedef without a left side the direction is 0
abbrev pub seg_fields : Bool → List ℕ → List ℕ → ℕ → List Field
seg_fields hexen linedefs bytes vertices =
    number_at bytes 0 vertices ∷ number_at bytes 2 vertices ∷ number_at bytes 6 (length linedefs / linedef_size hexen)
    ∷ field_at bytes 8 0 (cond (left_ok hexen linedefs (u16_at bytes 6)) 1 0) ∷ []

-- a subsector's number of segs, and its first, which leaves so many
abbrev pub subsector_fields : List ℕ → ℕ → List Field
subsector_fields bytes segs = field_at bytes 0 1 segs ∷ field_at bytes 2 0 (segs - u16_at bytes 0) ∷ []

-- a node's child: a node, or a subsector, by the number that it holds
abbrev pub child_at : List ℕ → ℕ → ℕ → ℕ → Field
child_at bytes at nodes subsectors =
    let node = is_node (u16_at bytes at) in
    field_at bytes at (cond node 0 subsector_bit) (cond node (nodes - 1) (subsector_bit + subsectors - 1))

-- right and left of a node
abbrev pub node_fields : List ℕ → ℕ → ℕ → List Field
node_fields bytes nodes subsectors = child_at bytes 24 nodes subsectors ∷ child_at bytes 26 nodes subsectors ∷ []
