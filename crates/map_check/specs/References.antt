-- The references of a map's records to each other, over its lumps: 23 to 27 (01, "References"). Assumes nothing.
use Rattle.std.specs.Prelude.{ℕ, Bool, List}
use Rattle.refusal.specs.Checks.{Check}
use Rattle.refusal.specs.Checks.{◌and_then◌, each}
use Rattle.record_linedef.specs.Linedefs.{linedef_size}
use Rattle.record.specs.Sidedefs.{sidedef_size}
use Rattle.record.specs.Vertexes.{vertex_size}
use Rattle.record.specs.Segs.{seg_size}
use Rattle.record.specs.Subsectors.{subsector_size}
use Rattle.record.specs.Nodes.{node_size}
use Rattle.record.specs.Sectors.{sector_size}
use Rattle.map_reference.specs.References.{linedef_check, sidedef_check, seg_check, subsector_check, node_check}
use Rattle.record_table.specs.Lumps.{LINEDEFS, SIDEDEFS, VERTEXES, SEGS, SSECTORS, NODES, SECTORS}
use Rattle.map_lumps.specs.Lumps.{map_lump, record_count}

-- each over all records of its lump in turn; linedefs by the game
abbrev pub linedefs_check : Bool → List (List ℕ) → Check
linedefs_check hexen lumps =
    each
    (linedef_check hexen (map_lump lumps LINEDEFS) (record_count lumps VERTEXES vertex_size) (record_count lumps SIDEDEFS sidedef_size))
    (record_count lumps LINEDEFS (linedef_size hexen))

abbrev pub sidedefs_check : List (List ℕ) → Check
sidedefs_check lumps =
    each (sidedef_check (map_lump lumps SIDEDEFS) (record_count lumps SECTORS sector_size)) (record_count lumps SIDEDEFS sidedef_size)

abbrev pub segs_check : Bool → List (List ℕ) → Check
segs_check hexen lumps =
    each (seg_check hexen (map_lump lumps SEGS) (map_lump lumps LINEDEFS) (record_count lumps VERTEXES vertex_size))
    (record_count lumps SEGS seg_size)

abbrev pub subsectors_check : List (List ℕ) → Check
subsectors_check lumps =
    each (subsector_check (map_lump lumps SSECTORS) (record_count lumps SEGS seg_size)) (record_count lumps SSECTORS subsector_size)

abbrev pub nodes_check : List (List ℕ) → Check
nodes_check lumps =
    each (node_check (map_lump lumps NODES) (record_count lumps SSECTORS subsector_size)) (record_count lumps NODES node_size)

-- 23 to 27
abbrev pub references_check : Bool → List (List ℕ) → Check
references_check hexen lumps =
    linedefs_check hexen lumps
    and_then sidedefs_check lumps
    and_then segs_check hexen lumps
    and_then subsectors_check lumps
    and_then nodes_check lumps
