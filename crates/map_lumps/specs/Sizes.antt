-- Sizes and counts of the eight lumps of records, by the game, and the length of REJECT: 20 to 22 (01, "One map"; W-205).
-- Assumes nothing.
use Rattle.std.specs.Prelude.{ℕ, ◌+◌, ◌*◌, ◌/◌, ◌%◌, Bool, not, ◌&&◌, ◌||◌, List, leb, ltb, eqb, length}
use Rattle.refusal.specs.Checks.{Check}
use Rattle.refusal.specs.declared.Refusal.TheVariants.{RecordSize, RecordCount, RejectLength}
use Rattle.refusal.specs.Checks.{unless, ◌and_then◌}
use Rattle.record.specs.Subsectors.{subsector_size}
use Rattle.record.specs.Nodes.{node_size}
use Rattle.record.specs.Sectors.{sector_size}
use Rattle.record_table.specs.Lumps.{record_size, least_count, most_count, SSECTORS, NODES, SECTORS, REJECT}
use Rattle.map_lumps.specs.Lumps.{map_lump, record_count, each_place}

-- the lump at `place` has whole records of the game only
abbrev pub whole_ok : Bool → List (List ℕ) → ℕ → Bool
whole_ok hexen lumps place = eqb (length (map_lump lumps place) % record_size hexen place) 0

-- at NODES: without nodes there is exactly one subsector; at any other place nothing is asked
abbrev pub alone_ok : List (List ℕ) → ℕ → Bool
alone_ok lumps place =
    not (eqb place NODES) || ltb 0 (record_count lumps NODES node_size) || eqb (record_count lumps SSECTORS subsector_size) 1

-- the count at `place` is one that the table allows
abbrev pub record_count_ok : Bool → List (List ℕ) → ℕ → Bool
record_count_ok hexen lumps place =
    leb (least_count place) (record_count lumps place (record_size hexen place))
    && leb (record_count lumps place (record_size hexen place)) (most_count place)
    && alone_ok lumps place

-- 20, then 21, at `place`
abbrev pub size_check : Bool → List (List ℕ) → ℕ → Check
size_check hexen lumps place =
    unless (whole_ok hexen lumps place) (RecordSize place) and_then unless (record_count_ok hexen lumps place) (RecordCount place)

-- the bytes of REJECT: sectors² bits, rounded up to whole bytes
abbrev pub reject_size : ℕ → ℕ
reject_size sectors = (sectors * sectors + 7) / 8

-- 22
abbrev pub reject_check : List (List ℕ) → Check
reject_check lumps =
    unless (eqb (length (map_lump lumps REJECT)) (reject_size (record_count lumps SECTORS sector_size))) RejectLength

-- 20 and 21 lump by lump, then 22
abbrev pub sizes_check : Bool → List (List ℕ) → Check
sizes_check hexen lumps = each_place (size_check hexen lumps) 8 and_then reject_check lumps
