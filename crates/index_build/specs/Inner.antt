-- What only contracts of inner functions cite: the records in the directory's order, and the bytes so far. Assumes
-- nothing.
use Rattle.std.specs.Prelude.{ℕ, zero, suc, List, [], ◌∷◌, ◌++◌, get_or, drop}
use Rattle.std.proofs.lemmas.List.Edits.{sets}
use Rattle.index.specs.declared.IndexRecord.{IndexRecord}
use Rattle.index.specs.Records.{no_record, record_at}
use Rattle.index.specs.Index.{record_offset, index_record_bytes}

-- the records of the first `n` entries, in the directory's order
unfoldable pub records_of : List ℕ → ℕ → List IndexRecord
records_of dir zero = []
records_of dir (suc n) = records_of dir n ++ (record_at dir n ∷ [])

-- the records of the first `n` entries over the first `n` records, and the records behind them
abbrev pub filled_over : List ℕ → ℕ → List IndexRecord → List IndexRecord
filled_over dir n records = records_of dir n ++ drop n records

-- the bytes of a record at the place of record `i`
abbrev pub put_record : List ℕ → ℕ → IndexRecord → List ℕ
put_record out i r = sets out (record_offset i) (index_record_bytes r)

-- the first `n` records, each at its place
unfoldable pub written : List IndexRecord → ℕ → List ℕ → List ℕ
written records zero out = out
written records (suc n) out = put_record (written records n out) n (get_or records n no_record)
