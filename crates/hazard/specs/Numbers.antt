-- A number over 32,767 in a field that the engine reads as signed and uses as an index. Assumes nothing.
use Rattle.std.specs.Prelude.{ℕ, ◌+◌, Bool, ◌&&◌, ◌||◌, List, leb, eqb}
use Rattle.record_field.specs.Records.{record_bytes}
use Rattle.record_linedef.specs.declared.Linedef.{Linedef}
use Rattle.record_linedef.specs.Linedefs.{linedef_size, linedef_of, no_sidedef}
use Rattle.record.specs.declared.sidedef.Sidedef.{Sidedef}
use Rattle.record.specs.Sidedefs.{sidedef_size, sidedef_of}
use Rattle.record.specs.declared.seg.Seg.{Seg}
use Rattle.record.specs.Segs.{seg_size, seg_of}
use Rattle.record.specs.declared.subsector.Subsector.{Subsector}
use Rattle.record.specs.Subsectors.{subsector_size, subsector_of}
use Rattle.record_table.specs.Lumps.{LINEDEFS, SIDEDEFS, SEGS, SSECTORS, BLOCKMAP}
use Rattle.map_blockmap.specs.Blockmap.{word_at, cells_of, linedefs_named, all_under}
use Rattle.map_lumps.specs.Lumps.{map_lump, record_count}
use Rattle.hazard.specs.declared.Hazard.TheVariants.{HighNumber}
use Rattle.hazard.specs.Findings.{Finding, found_unless, ◌or_else◌, each_of}

-- a 16-bit number that is the same when it is read as signed
abbrev pub low_ok : ℕ → Bool
low_ok n = leb n 32767

-- both vertices and both sidedefs; a left sidedef of 65,535 is none
abbrev pub linedef_low : Linedef → Bool
linedef_low l = low_ok l.start && low_ok l.end && low_ok l.right && (eqb l.left no_sidedef || low_ok l.left)

-- the sector
abbrev pub sidedef_low : Sidedef → Bool
sidedef_low s = low_ok s.sector

-- both vertices and the linedef
abbrev pub seg_low : Seg → Bool
seg_low s = low_ok s.start && low_ok s.end && low_ok s.linedef

-- the count of segs and the first one
abbrev pub subsector_low : Subsector → Bool
subsector_low s = low_ok s.number && low_ok s.first

-- the hazard of record `i` of a lump
abbrev pub linedef_high : Bool → List ℕ → ℕ → Finding
linedef_high hexen lump i = found_unless (linedef_low (linedef_of hexen (record_bytes lump (linedef_size hexen) i))) (HighNumber LINEDEFS i)

abbrev pub sidedef_high : List ℕ → ℕ → Finding
sidedef_high lump i = found_unless (sidedef_low (sidedef_of (record_bytes lump sidedef_size i))) (HighNumber SIDEDEFS i)

abbrev pub seg_high : List ℕ → ℕ → Finding
seg_high lump i = found_unless (seg_low (seg_of (record_bytes lump seg_size i))) (HighNumber SEGS i)

abbrev pub subsector_high : List ℕ → ℕ → Finding
subsector_high lump i = found_unless (subsector_low (subsector_of (record_bytes lump subsector_size i))) (HighNumber SSECTORS i)

-- the hazard of cell `i` of BLOCKMAP, by its offset and by the linedefs that its list names
abbrev pub offset_high : List ℕ → ℕ → Finding
offset_high lump i = found_unless (low_ok (word_at lump (4 + i))) (HighNumber BLOCKMAP i)

abbrev pub list_high : List ℕ → ℕ → Finding
list_high lump i = found_unless (all_under 32768 (linedefs_named lump (word_at lump (4 + i)))) (HighNumber BLOCKMAP i)

-- of BLOCKMAP the offsets of all cells, then the lists
abbrev pub high_blockmap : List ℕ → Finding
high_blockmap lump = each_of (offset_high lump) (cells_of lump) or_else each_of (list_high lump) (cells_of lump)

-- the first record with a high number, in the order of the lumps
abbrev pub high_number : Bool → List (List ℕ) → Finding
high_number hexen lumps =
    each_of (linedef_high hexen (map_lump lumps LINEDEFS)) (record_count lumps LINEDEFS (linedef_size hexen))
    or_else each_of (sidedef_high (map_lump lumps SIDEDEFS)) (record_count lumps SIDEDEFS sidedef_size)
    or_else each_of (seg_high (map_lump lumps SEGS)) (record_count lumps SEGS seg_size)
    or_else each_of (subsector_high (map_lump lumps SSECTORS)) (record_count lumps SSECTORS subsector_size)
    or_else high_blockmap (map_lump lumps BLOCKMAP)
