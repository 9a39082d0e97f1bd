-- The full check of an index beside its file (02, W-210): 82, 83 and 84 after 1 to 6. Assumes nothing.
use Rattle.std.specs.Prelude.{ℕ, Bool, ◌&&◌, List, leb, eqb, length, take}
use Rattle.endian.specs.Unsigned.{u16_at, u32_at}
use Rattle.refusal.specs.Checks.{Check}
use Rattle.refusal.specs.declared.Refusal.TheVariants.{IndexHead, IndexVersion, IndexEntries}
use Rattle.refusal.specs.Checks.{unless, ◌and_then◌}
use Rattle.name.specs.Names.{same_bytes}
use Rattle.wad.specs.Header.{head_of, entry_count}
use Rattle.wad.specs.Entries.{file_check}
use Rattle.index.specs.Index.{index_mark, index_version, version_place, count_place, length_place, record_offset, index_bytes}

-- long enough for `count` records, with the mark, and with that count and a file's length, `len`
abbrev pub head_ok : ℕ → ℕ → List ℕ → Bool
head_ok count len index =
    leb (record_offset count) (length index)
    && same_bytes (take 3 index) index_mark
    && eqb (u16_at index count_place) count
    && eqb (u32_at index length_place) len

-- 82: the head has the count of entries and the length of the file
abbrev pub index_head_ok : List ℕ → List ℕ → Bool
index_head_ok wad index = head_ok (entry_count (head_of wad)) (length wad) index

-- 83
abbrev pub version_ok : List ℕ → Bool
version_ok index = eqb (u16_at index version_place) index_version

-- 1 to 6 of the file, 82, 83: what a lookup asks first too
abbrev pub index_head_check : List ℕ → List ℕ → Check
index_head_check wad index =
    file_check wad and_then unless (index_head_ok wad index) IndexHead and_then unless (version_ok index) IndexVersion

-- and 84 for any other difference
abbrev pub index_check : List ℕ → List ℕ → Check
index_check wad index = index_head_check wad index and_then unless (same_bytes index (index_bytes wad)) IndexEntries
