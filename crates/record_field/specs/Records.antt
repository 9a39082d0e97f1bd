-- A record of a lump by its number, whatever its kind: `size` bytes from `size × index` on (01, refusal 60 and "A write
-- changes its record's bytes only"; W-205, refusal 61). Assumes nothing.
use Rattle.std.specs.Prelude.{ℕ, ◌*◌, ◌/◌, Bool, cond, ◌≡◌, List, Result, Ok, ltb, length, take, drop, replicate}
use Rattle.std.proofs.Math.Seq.{paste}
use Rattle.std.specs.Result.{result_and}
use Rattle.refusal.specs.Checks.{Check}
use Rattle.refusal.specs.declared.Refusal.{Refusal}
use Rattle.refusal.specs.declared.Refusal.TheVariants.{RecordBounds, RecordFields}
use Rattle.refusal.specs.Checks.{unless, ◌and_then◌}

-- record `index` of `lump` lies wholly inside it
abbrev pub inside : List ℕ → ℕ → ℕ → Bool
inside lump size index = ltb index (length lump / size)

-- 60 unless it does
abbrev pub inside_check : List ℕ → ℕ → ℕ → Check
inside_check lump size index = unless (inside lump size index) RecordBounds

-- the bytes of record `index`
abbrev pub record_bytes : List ℕ → ℕ → ℕ → List ℕ
record_bytes lump size index = take size (drop (size * index) lump)

-- the bytes of record `index`, and `other` where it is not wholly inside
abbrev pub bytes_or : List ℕ → ℕ → ℕ → List ℕ → List ℕ
bytes_or lump size index other = cond (inside lump size index) (record_bytes lump size index) other

-- the bytes of record `index`, all 0 where it is not wholly inside
abbrev pub bytes_or_zeros : List ℕ → ℕ → ℕ → List ℕ
bytes_or_zeros lump size index = bytes_or lump size index (replicate size 0)

-- record `index` of a lump, read out of its bytes by `fields_of`, or 60
abbrev pub record_at : {R : Type 0} → ℕ → (List ℕ → R) → List ℕ → ℕ → Result R Refusal
record_at size fields_of lump index = result_and (inside_check lump size index) (Ok (fields_of (record_bytes lump size index)))

-- `lump` with the first `size` of `bytes` in place of record `index`, as found where that is not wholly inside
abbrev pub replaced : List ℕ → ℕ → ℕ → List ℕ → List ℕ
replaced lump size index bytes = cond (inside lump size index) (paste lump (size * index) bytes size) lump

-- what a write of `bytes` as record `index` answers, and what it leaves of `lump`
pub record Written (lump : List ℕ) (size index : ℕ) (bytes : List ℕ) (answer : Check) (left : List ℕ) : Type 0 where
  pub answers : answer ≡ inside_check lump size index
  pub leaves : left ≡ replaced lump size index bytes

-- 60, then 61 unless the record's fields are `good`
abbrev pub good_check : Bool → List ℕ → ℕ → ℕ → Check
good_check good lump size index = inside_check lump size index and_then unless good RecordFields

-- what such a write answers, and what it leaves: as found where the fields are not good
pub record WrittenIf (good : Bool) (lump : List ℕ) (size index : ℕ) (bytes : List ℕ) (answer : Check) (left : List ℕ) : Type 0 where
  pub answers : answer ≡ good_check good lump size index
  pub leaves : left ≡ cond good (replaced lump size index bytes) lump
