-- The checks of a map's own lumps, 20 to 30, in the order of 01's table. Assumes nothing.
use Rattle.std.specs.Prelude.{ℕ, ◌*◌, Bool, List, leb}
use Rattle.refusal.specs.Checks.{Check}
use Rattle.refusal.specs.declared.Refusal.TheVariants.{WorkWords}
use Rattle.refusal.specs.Checks.{unless, ◌and_then◌}
use Rattle.map_blockmap.specs.Blockmap.{blockmap_check}
use Rattle.record_linedef.specs.Linedefs.{linedef_size}
use Rattle.record.specs.Nodes.{node_size}
use Rattle.record_table.specs.Lumps.{LINEDEFS, NODES, BLOCKMAP}
use Rattle.map_lumps.specs.Lumps.{map_lump, record_count}
use Rattle.map_lumps.specs.Sizes.{sizes_check}
use Rattle.map_check.specs.References.{references_check}

-- 30: fewer than four work words for each node
abbrev pub work_check : List (List ℕ) → ℕ → Check
work_check lumps lent = unless (leb (4 * record_count lumps NODES node_size) lent) WorkWords

-- 20 to 30, which look at the map's game, its own lumps and how many words are lent, `lent`
abbrev pub lumps_check : Bool → List (List ℕ) → ℕ → Check
lumps_check hexen lumps lent =
    sizes_check hexen lumps
    and_then references_check hexen lumps
    and_then blockmap_check (map_lump lumps BLOCKMAP) (record_count lumps LINEDEFS (linedef_size hexen))
    and_then work_check lumps lent
