-- What is asked of the records of an index, one by one (W-210): what inner functions are held to. Assumes nothing.
use Rattle.std.specs.Prelude.{ℕ, ◌+◌, ◌-◌, Bool, true, ◌&&◌, cond, List, ltb, eqb, length}
use Rattle.endian.specs.Unsigned.{u16_at}
use Rattle.refusal.specs.Checks.{Check}
use Rattle.refusal.specs.declared.Refusal.TheVariants.{IndexEntries}
use Rattle.refusal.specs.Checks.{unless, ◌and_then◌, each}
use Rattle.name.specs.Names.{same_bytes}
use Rattle.wad.specs.Slices.{part}
use Rattle.wad.specs.Entries.{entry_name}
use Rattle.index.specs.declared.IndexRecord.{IndexRecord}
use Rattle.index.specs.Records.{padded, precedes}
use Rattle.index.specs.Index.{record_offset}

-- record `i` of an index
abbrev pub record_in : List ℕ → ℕ → IndexRecord
record_in index i = record { name = part index (record_offset i) 8; number = u16_at index (record_offset i + 8) }

-- a record is that of one of `count` entries
abbrev pub entry_ok : List ℕ → ℕ → IndexRecord → Bool
entry_ok dir count r = ltb r.number count && same_bytes r.name (padded (entry_name dir r.number))

-- the record before precedes it
abbrev pub order_ok : List ℕ → ℕ → Bool
order_ok index i = cond (eqb i 0) true (precedes (record_in index (i - 1)) (record_in index i))

abbrev pub record_ok : List ℕ → ℕ → List ℕ → ℕ → Bool
record_ok dir count index i = entry_ok dir count (record_in index i) && order_ok index i

-- 84 by the length and the records in turn
abbrev pub each_record : List ℕ → ℕ → List ℕ → Check
each_record dir count index = each (λ i. unless (record_ok dir count index i) IndexEntries) count

abbrev pub records_check : List ℕ → ℕ → List ℕ → Check
records_check dir count index = unless (eqb (length index) (record_offset count)) IndexEntries and_then each_record dir count index
