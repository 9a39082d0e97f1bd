-- One comparison, and the search by halves as one answer (W-210): what inner functions are held to. Assumes nothing.
use Rattle.std.specs.Prelude.{ℕ, zero, suc, Bool, false, cond, List, Option, Some, None, Result, Err}
use Rattle.std.specs.Bool.{then_some}
use Rattle.std.specs.declared.cmp.Ordering.{Ordering}
use Rattle.std.specs.declared.cmp.Ordering.TheVariants.{Less, Equal, Greater}
use Rattle.refusal.specs.declared.Refusal.{Refusal}
use Rattle.refusal.specs.declared.Refusal.TheVariants.{EntryMissing}
use Rattle.name.specs.Names.{same_bytes}
use Rattle.index.specs.Records.{below_from}
use Rattle.index_find.specs.declared.halves.GonePast.{GonePast}
use Rattle.index_find.specs.Finding.{name_in, number_in, past_by, compared_by, believed}

-- the name of record `i` against an asked name's eight bytes
abbrev pub comparison : List ℕ → List ℕ → ℕ → Ordering
comparison index asked i =
    cond (below_from 8 0 asked (name_in index i) false) Greater (cond (same_bytes (name_in index i) asked) Equal Less)

-- the last of `past` records where it passes a test; none if there are none
abbrev pub last_if : (ℕ → Bool) → ℕ → Option ℕ
last_if test zero = None
last_if test (suc i) = then_some (test i) i

-- the last of `count` records gone past where it is equal, and how many are compared
abbrev pub gone_by : (ℕ → Bool) → (ℕ → Bool) → ℕ → GonePast
gone_by low equal count =
    record { last = last_if equal (past_by low count 0 count); compared = compared_by low count 0 count }

-- the entry that a record leads to
abbrev pub entry_of : List ℕ → ℕ → List ℕ → List ℕ → Option ℕ → Result ℕ Refusal
entry_of dir count index name None = Err EntryMissing
entry_of dir count index name (Some i) = believed dir count name (number_in index i)
