-- What building an index answers, and what the records and the output hold afterwards (02, W-210). Assumes nothing.
use Rattle.std.specs.Prelude.{ℕ, ◌&&◌, List, ◌++◌, ◌≡◌, leb, length, drop, Result, Ok, Err}
use Rattle.refusal.specs.declared.Refusal.{Refusal}
use Rattle.refusal.specs.declared.Refusal.TheVariants.{IndexRoom}
use Rattle.refusal.specs.Checks.{Check, unless, ◌and_then◌}
use Rattle.layout.specs.Buffers.{buffer_after}
use Rattle.wad.specs.Header.{head_of, entry_count}
use Rattle.wad.specs.Entries.{file_check}
use Rattle.index.specs.declared.IndexRecord.{IndexRecord}
use Rattle.index.specs.Index.{record_offset, sorted_records, index_bytes}

-- 1 to 6, then 86: as many records as entries, and room for all bytes
abbrev pub build_check : List ℕ → ℕ → ℕ → Check
build_check wad records room =
    file_check wad
    and_then unless (leb (entry_count (head_of wad)) records && leb (record_offset (entry_count (head_of wad))) room) IndexRoom

abbrev pub building_of : Check → ℕ → Result ℕ Refusal
building_of (Ok _) length = Ok length
building_of (Err r) length = Err r

-- the records afterwards: the sorted ones in front, later ones as found; with a refusal all as found
abbrev pub records_after : Check → List IndexRecord → List IndexRecord → List IndexRecord
records_after (Ok _) sorted records = sorted ++ drop (length sorted) records
records_after (Err r) sorted records = records

-- what is promised: the answer, the records and the output
pub record Builds (wad : List ℕ) (records : List IndexRecord) (out : List ℕ) (answer : Result ℕ Refusal)
    (recordsThen : List IndexRecord) (outThen : List ℕ)
    : Type 0 where
  pub answers : answer ≡ building_of (build_check wad (length records) (length out)) (record_offset (entry_count (head_of wad)))
  pub sorts : recordsThen ≡ records_after (build_check wad (length records) (length out)) (sorted_records wad) records
  pub writes : outThen ≡ buffer_after (build_check wad (length records) (length out)) (index_bytes wad) out
