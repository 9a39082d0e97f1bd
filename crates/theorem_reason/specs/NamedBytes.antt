-- The bytes of the record that a refusal 23 to 28 names, in a map's lumps (02, W-211). Assumes nothing.
use Rattle.std.specs.Prelude.{ℕ, Bool, List}
use Rattle.record_field.specs.Records.{record_bytes}
use Rattle.record_linedef.specs.Linedefs.{linedef_size}
use Rattle.record.specs.Sidedefs.{sidedef_size}
use Rattle.record.specs.Segs.{seg_size}
use Rattle.record.specs.Subsectors.{subsector_size}
use Rattle.record.specs.Nodes.{node_size}
use Rattle.record_table.specs.Lumps.{LINEDEFS, SIDEDEFS, SEGS, SSECTORS, NODES, BLOCKMAP}
use Rattle.map_lumps.specs.Lumps.{map_lump}
use Rattle.reason_field.specs.Named.{by_number}

-- the bytes of record `i`; with 28 the whole lump
abbrev pub named_bytes : Bool → List (List ℕ) → ℕ → ℕ → List ℕ
named_bytes hexen lumps number i =
    by_number number
    (record_bytes (map_lump lumps LINEDEFS) (linedef_size hexen) i)
    (record_bytes (map_lump lumps SIDEDEFS) sidedef_size i)
    (record_bytes (map_lump lumps SEGS) seg_size i)
    (record_bytes (map_lump lumps SSECTORS) subsector_size i)
    (record_bytes (map_lump lumps NODES) node_size i)
    (map_lump lumps BLOCKMAP)

-- how many bytes a record has; BLOCKMAP is none
abbrev pub named_size : Bool → ℕ → ℕ
named_size hexen number = by_number number (linedef_size hexen) sidedef_size seg_size subsector_size node_size 0
