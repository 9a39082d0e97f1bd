-- The bytes of an index beside a file (02, W-210): `WIX`, a version, the count of entries and the file's length, and
-- then ten bytes to each record. Assumes nothing.
use Rattle.std.specs.Prelude.{ℕ, ◌+◌, ◌*◌, List, [], ◌∷◌, ◌++◌, length, get_or}
use Rattle.endian.specs.Unsigned.{u16_bytes, u32_bytes}
use Rattle.layout.specs.Rows.{laid_out}
use Rattle.wad.specs.Header.{head_of, entry_count}
use Rattle.wad.specs.Entries.{directory_of}
use Rattle.index.specs.declared.IndexRecord.{IndexRecord}
use Rattle.index.specs.Records.{no_record, index_of}

-- `WIX`
abbrev pub index_mark : List ℕ
index_mark = 87 ∷ 73 ∷ 88 ∷ []

abbrev pub index_version : ℕ
index_version = 1

-- where the version, the count, the file's length and the first record stand
abbrev pub version_place : ℕ
version_place = 3

abbrev pub count_place : ℕ
count_place = 5

abbrev pub length_place : ℕ
length_place = 7

abbrev pub index_head_size : ℕ
index_head_size = 11

-- a record's name and number
abbrev pub index_record_size : ℕ
index_record_size = 10

-- where record `i` begins; for the count of records, how long the index is
abbrev pub record_offset : ℕ → ℕ
record_offset i = index_head_size + index_record_size * i

abbrev pub index_head : List ℕ → List ℕ
index_head wad = index_mark ++ u16_bytes index_version ++ u16_bytes (entry_count (head_of wad)) ++ u32_bytes (length wad)

abbrev pub index_record_bytes : IndexRecord → List ℕ
index_record_bytes r = r.name ++ u16_bytes r.number

-- the sorted records of a file's directory
abbrev pub sorted_records : List ℕ → List IndexRecord
sorted_records wad = index_of (directory_of wad) (entry_count (head_of wad))

-- the index of a file
abbrev pub index_bytes : List ℕ → List ℕ
index_bytes wad = index_head wad ++ laid_out (λ i. index_record_bytes (get_or (sorted_records wad) i no_record)) (entry_count (head_of wad))
