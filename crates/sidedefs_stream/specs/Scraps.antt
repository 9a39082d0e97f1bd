-- SIDEDEFS in scraps (02, W-209): the state that is kept from one scrap to the next, and its verdict, for any state. A cut may
-- stand anywhere, between the two bytes of a sector too. Assumes nothing.
use Rattle.std.specs.Prelude.{ℕ, ◌+◌, ◌*◌, ◌/◌, ◌%◌, Bool, false, not, ◌&&◌, ◌||◌, cond, List, [], ◌∷◌, leb, ltb, eqb}
use Rattle.refusal.specs.Checks.{Check}
use Rattle.refusal.specs.declared.Refusal.TheVariants.{RecordSize, RecordCount, SidedefReference, StreamSectors, StreamLength}
use Rattle.refusal.specs.Checks.{unless, ◌and_then◌}
use Rattle.wad.specs.Header.{most_bytes}
use Rattle.record.specs.Sidedefs.{sidedef_size}
use Rattle.record_table.specs.Lumps.{SIDEDEFS, least_count, most_count}
use Rattle.sidedefs_stream.specs.declared.Stream.{Stream}

-- where the two bytes of a sidedef's sector stand in its record
abbrev pub low_place : ℕ
low_place = 28

abbrev pub high_place : ℕ
high_place = 29

-- before the first byte
abbrev pub started : ℕ → Stream
started sectors = record { sectors = sectors; bytes = 0; bad = 0; low = 0; found = false }

-- `byte` completes the sector of a record, and that sector is not there
abbrev pub bad_at : Stream → ℕ → Bool
bad_at s byte = eqb (s.bytes % sidedef_size) high_place && leb s.sectors (s.low + 256 * byte)

-- with that record noted, if it is the first
abbrev pub noted : Stream → Bool → Stream
noted s bad =
    record {
      sectors = s.sectors;
      bytes = s.bytes;
      bad = cond (bad && not s.found) (s.bytes / sidedef_size) s.bad;
      low = s.low;
      found = s.found || bad;
    }

-- one byte more, kept where it is the low byte of a sector
abbrev pub byte_counted : Stream → ℕ → Stream
byte_counted s byte =
    record {
      sectors = s.sectors;
      bytes = s.bytes + 1;
      bad = s.bad;
      low = cond (eqb (s.bytes % sidedef_size) low_place) byte 0;
      found = s.found;
    }

-- a state fed with one byte; past the most bytes it stays as it is
abbrev pub step_of : Stream → ℕ → Stream
step_of s byte = cond (ltb most_bytes s.bytes) s (byte_counted (noted s (bad_at s byte)) byte)

-- fed with a scrap, byte by byte
unfoldable pub fed : Stream → List ℕ → Stream
fed s [] = s
fed s (byte ∷ scrap) = fed (step_of s byte) scrap

-- 80: a count of sectors that a map may have
abbrev pub sectors_check : ℕ → Check
sectors_check sectors = unless (leb 1 sectors && leb sectors 65535) StreamSectors

-- 81: a total that a file may have
abbrev pub total_check : ℕ → Check
total_check bytes = unless (leb bytes most_bytes) StreamLength

-- 20, then 21, of a total of bytes
abbrev pub records_check : ℕ → Check
records_check bytes =
    unless (eqb (bytes % sidedef_size) 0) (RecordSize SIDEDEFS)
    and_then unless (leb (least_count SIDEDEFS) (bytes / sidedef_size) && leb (bytes / sidedef_size) (most_count SIDEDEFS))
    (RecordCount SIDEDEFS)

-- the verdict of a state: 80, 81, 20, 21, and 24 of the record that it noted
abbrev pub stream_verdict : Stream → Check
stream_verdict s =
    sectors_check s.sectors
    and_then total_check s.bytes
    and_then records_check s.bytes
    and_then unless (not s.found) (SidedefReference s.bad)
