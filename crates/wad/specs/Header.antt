-- The header of a WAD file: mark, count of lumps and start of the directory (01, "File and directory"). The definitions take
-- the file's length and its first twelve bytes. Assumes nothing.
use Rattle.std.specs.Prelude.{ℕ, ◌+◌, ◌*◌, Bool, ◌&&◌, ◌||◌, List, leb, eqb, get_or}
use Rattle.endian.specs.Signed.{i32_at, between, natural}
use Rattle.refusal.specs.Checks.{Check}
use Rattle.refusal.specs.declared.Refusal.TheVariants.{FileLength, Mark, LumpCount, DirectoryBounds}
use Rattle.refusal.specs.Checks.{unless, ◌and_then◌}
use Rattle.wad.specs.Slices.{part}

-- the most bytes of a file, and so of a lump
abbrev pub most_bytes : ℕ
most_bytes = 16777216

-- 12 bytes to the most
abbrev pub length_ok : ℕ → Bool
length_ok len = leb 12 len && leb len most_bytes

-- the header: the first twelve bytes
abbrev pub head_of : List ℕ → List ℕ
head_of wad = part wad 0 12

-- `IWAD` or `PWAD`
abbrev pub mark_ok : List ℕ → Bool
mark_ok head =
    (eqb (get_or head 0 0) 73 || eqb (get_or head 0 0) 80) && eqb (get_or head 1 0) 87 && eqb (get_or head 2 0) 65
    && eqb (get_or head 3 0) 68

-- the count of lumps, 0 where it is negative
abbrev pub entry_count : List ℕ → ℕ
entry_count head = natural (i32_at head 4)

-- 0 to 4,096 lumps
abbrev pub entry_count_ok : List ℕ → Bool
entry_count_ok head = between (i32_at head 4) 0 4096

-- the start of the directory, 0 where it is negative
abbrev pub start_of : List ℕ → ℕ
start_of head = natural (i32_at head 8)

-- the directory starts at 12 or later and ends inside the file
abbrev pub bounds_ok : ℕ → List ℕ → Bool
bounds_ok len head = between (i32_at head 8) 12 len && leb (start_of head + 16 * entry_count head) len

-- 2 to 4, which look into the header
abbrev pub fields_check : ℕ → List ℕ → Check
fields_check len head =
    unless (mark_ok head) Mark
    and_then unless (entry_count_ok head) LumpCount
    and_then unless (bounds_ok len head) DirectoryBounds

-- 1 to 4
abbrev pub file_header_check : ℕ → List ℕ → Check
file_header_check len head = unless (length_ok len) FileLength and_then fields_check len head
