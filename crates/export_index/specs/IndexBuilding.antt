-- The answer on an index that is built. Assumes nothing.
use Rattle.std.specs.Prelude.{ℕ, List, ◌≡◌, length}
use Rattle.layout.specs.Buffers.{buffer_after}
use Rattle.wad.specs.Header.{head_of, entry_count}
use Rattle.index.specs.declared.IndexRecord.{IndexRecord}
use Rattle.index.specs.Index.{record_offset, sorted_records, index_bytes}
use Rattle.index_build.specs.Building.{build_check, building_of, records_after}
use Rattle.refusal.specs.declared.status.LengthAnswer.{LengthAnswer}
use Rattle.refusal.specs.Status.{length_of}

-- the answer, and the records and the output afterwards
pub record IndexBuilt (wad : List ℕ) (records : List IndexRecord) (out : List ℕ) (answer : LengthAnswer)
    (recordsThen : List IndexRecord) (outThen : List ℕ)
    : Type 0 where
  pub answers : answer ≡ length_of (building_of (build_check wad (length records) (length out)) (record_offset (entry_count (head_of wad))))
  pub sorts : recordsThen ≡ records_after (build_check wad (length records) (length out)) (sorted_records wad) records
  pub writes : outThen ≡ buffer_after (build_check wad (length records) (length out)) (index_bytes wad) out
