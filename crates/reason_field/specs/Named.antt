-- The fields, with their ranges, of the record, header or cell that a refusal 23 to 28 names (02, W-211). A record's fields are in
-- byte order, and BLOCKMAP's in the order of its checks. Assumes nothing.
use Rattle.std.specs.Prelude.{ℕ, Bool, ◌&&◌, cond, List, leb, eqb}
use Rattle.reason_range.specs.declared.Field.{Field}
use Rattle.reason_range.specs.Fields.{first_out}
use Rattle.record_field.specs.Records.{record_bytes}
use Rattle.record_linedef.specs.Linedefs.{linedef_size}
use Rattle.record.specs.Sidedefs.{sidedef_size}
use Rattle.record.specs.Vertexes.{vertex_size}
use Rattle.record.specs.Sectors.{sector_size}
use Rattle.record.specs.Segs.{seg_size}
use Rattle.record.specs.Subsectors.{subsector_size}
use Rattle.record.specs.Nodes.{node_size}
use Rattle.reason_record.specs.RecordFields.{linedef_fields, sidedef_fields, seg_fields, subsector_fields, node_fields}
use Rattle.reason_blockmap.specs.Fields.{blockmap_fields}
use Rattle.record_table.specs.Lumps.{LINEDEFS, SIDEDEFS, VERTEXES, SEGS, SSECTORS, NODES, SECTORS, BLOCKMAP}
use Rattle.map_lumps.specs.Lumps.{map_lump, record_count}

-- 23 to 28
abbrev pub field_ok : ℕ → Bool
field_ok number = leb 23 number && leb number 28

-- one of six by the refusal's number
abbrev pub by_number : {A : Type 0} → ℕ → A → A → A → A → A → A → A
by_number number linedef sidedef seg subsector node blockmap =
    cond (eqb number 23) linedef (cond (eqb number 24) sidedef (cond (eqb number 25) seg
    (cond (eqb number 26) subsector (cond (eqb number 27) node blockmap))))

-- its fields; with 28 those of the header and of cell `i`
abbrev pub named_fields : Bool → List (List ℕ) → ℕ → ℕ → List Field
named_fields hexen lumps number i =
    by_number number
    (linedef_fields hexen (record_bytes (map_lump lumps LINEDEFS) (linedef_size hexen) i)
    (record_count lumps VERTEXES vertex_size) (record_count lumps SIDEDEFS sidedef_size))
    (sidedef_fields (record_bytes (map_lump lumps SIDEDEFS) sidedef_size i) (record_count lumps SECTORS sector_size))
    (seg_fields hexen (map_lump lumps LINEDEFS) (record_bytes (map_lump lumps SEGS) seg_size i) (record_count lumps VERTEXES vertex_size))
    (subsector_fields (record_bytes (map_lump lumps SSECTORS) subsector_size i) (record_count lumps SEGS seg_size))
    (node_fields (record_bytes (map_lump lumps NODES) node_size i) (record_count lumps NODES node_size)
    (record_count lumps SSECTORS subsector_size))
    (blockmap_fields (map_lump lumps BLOCKMAP) (record_count lumps LINEDEFS (linedef_size hexen)) i)

-- the first that is out of its range
abbrev pub named_field : Bool → List (List ℕ) → ℕ → ℕ → Field
named_field hexen lumps number i = first_out (named_fields hexen lumps number i)
