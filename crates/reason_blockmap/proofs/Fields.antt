-- Laws of BLOCKMAP's fields: one word more of a list, and that all are in range exactly where 28's tests hold.
-- Assumes nothing.
use Prim.Native.Nat.{ℕ, zero, suc, ◌+◌, ◌-◌, ◌*◌, ◌/◌, ◌%◌, ◌≤◌, ◌<◌}
use mathlib.Core.Bool.{Bool, true, false, ◌&&◌, cond}
use mathlib.Core.List.{List, [], ◌∷◌}
use mathlib.Core.Path.{◌≡◌, refl, sym, ap, ◌∙◌}
use native.Mathlib.Omega.{arith}
use borrow.Author.Tests.{le-leb, lt-leb, lt-ltb, leb-true, ltb-true, eqb-true, eq-eqb, ne_eqb}
use lib.Dec.{leb, ltb, eqb}
use lib.ListN.{length}
use Rattle.refusal.proofs.Checks.{same_test}
use Rattle.map_blockmap.specs.Blockmap.{word_count, word_at, cells_of, side_ok, header_ok, list_end, list_ends, linedefs_named, all_under, list_ok}
use Rattle.map_blockmap.specs.Notes.{ends_well}
use Rattle.map_blockmap.proofs.Ending.{ends_well-list}
use Rattle.reason_range.specs.declared.Field.{Field}
use Rattle.std.specs.Prelude.{⊤, Result, Ok, Err}
use Rattle.std.specs.Result.{result_and}
use Rattle.reason_range.specs.Fields.{in_range, all_in, field_check, fields_check}
use Rattle.reason_range.proofs.Fields.{all_in-none, all_in-more}
use Rattle.wad.specs.Header.{most_bytes}
use Rattle.reason_blockmap.specs.Fields.{size_field, word_field, header_fields, number_fields, list_fields, cell_fields}

-- ---- one word more

module _ (lump : List ℕ) (linedefs : ℕ) where
  -- the field of word `at`, and those behind it, `rest`
  abbrev pub numbers_at : ℕ → List Field → List Field
  numbers_at at rest = cond (eqb (word_at lump at) list_end) [] (word_field lump at 0 (linedefs - 1) ∷ rest)

  step : (left : ℕ)
      → number_fields lump linedefs (suc left) ≡ numbers_at (word_count lump - suc left) (number_fields lump linedefs left)
  unfolding number_fields
  step left = refl

  pub numbers_more : (at : ℕ) → at < word_count lump
      → number_fields lump linedefs (word_count lump - at) ≡ numbers_at at (number_fields lump linedefs (word_count lump - suc at))
  numbers_more at h =
      let left : word_count lump - at ≡ suc (word_count lump - suc at) = omega arith in
      let place : word_count lump - suc (word_count lump - suc at) ≡ at = omega arith in
      ap (number_fields lump linedefs) left ∙ step (word_count lump - suc at)
      ∙ ap (λ (n : ℕ). numbers_at n (number_fields lump linedefs (word_count lump - suc at))) place

  nothing : number_fields lump linedefs 0 ≡ size_field lump (length lump + 2) ∷ []
  unfolding number_fields
  nothing = refl

  pub numbers_none : (n : ℕ) → word_count lump ≤ n → number_fields lump linedefs (word_count lump - n) ≡ size_field lump (length lump + 2) ∷ []
  numbers_none n h = let z : word_count lump - n ≡ 0 = omega arith in ap (number_fields lump linedefs) z ∙ nothing

-- ---- the check of the words, by the word at `at`

module _ (lump : List ℕ) (linedefs at : ℕ) {w : ℕ} (inside : at < word_count lump) (is : w ≡ word_at lump at) where
  abbrev from : ℕ → List Field
  from n = number_fields lump linedefs (word_count lump - n)

  abbrev here : Field
  here = word_field lump at 0 (linedefs - 1)

  -- by whether it is the mark
  by_mark : (b : Bool) → eqb (word_at lump at) list_end ≡ b → fields_check (from at) ≡ fields_check (cond b [] (here ∷ from (suc at)))
  by_mark b e = ap fields_check (numbers_more lump linedefs at inside ∙ ap (λ (b : Bool). cond b [] (here ∷ from (suc at))) e)

  pub check-end : w ≡ list_end → ◌≡◌ {A = Result ⊤ Field} (Ok tt) (fields_check (from at))
  check-end e = sym (by_mark true (eq-eqb (word_at lump at) list_end (sym is ∙ e)))

  number : (w ≡ list_end → ⊥) → fields_check (from at) ≡ result_and (field_check here) (fields_check (from (suc at)))
  number other = by_mark false (ne_eqb (word_at lump at) list_end (λ (q : word_at lump at ≡ list_end). other (is ∙ q)))

  pub check-here : (w ≡ list_end → ⊥) → {r : Field} → ◌≡◌ {A = Result ⊤ Field} (Err r) (field_check here)
      → ◌≡◌ {A = Result ⊤ Field} (Err r) (fields_check (from at))
  check-here other e = ap (λ (x : Result ⊤ Field). result_and x (fields_check (from (suc at)))) e ∙ sym (number other)

  pub check-later : (w ≡ list_end → ⊥) → ◌≡◌ {A = Result ⊤ Field} (Ok tt) (field_check here)
      → fields_check (from (suc at)) ≡ fields_check (from at)
  check-later other e = ap (λ (x : Result ⊤ Field). result_and x (fields_check (from (suc at)))) e ∙ sym (number other)

-- past the last word the size is at fault
pub check-none : (lump : List ℕ) (linedefs n : ℕ) → word_count lump ≤ n
    → field_check (size_field lump (length lump + 2)) ≡ fields_check (number_fields lump linedefs (word_count lump - n))
check-none lump linedefs n h =
    let short : length lump < length lump + 2 = omega arith in
    rw (numbers_none lump linedefs n h, lt-leb (length lump + 2) (length lump) short)

-- ---- two tests that hold together

-- up to the last is below the count
leb-last : (w n : ℕ) → 1 ≤ n → leb w (n - 1) ≡ ltb w n
leb-last w n h =
    same_test (leb w (n - 1)) (ltb w n)
    (λ (e : leb w (n - 1) ≡ true). let l = leb-true w (n - 1) e in lt-ltb w n (omega arith))
    (λ (e : ltb w n ≡ true). let l = ltb-true w n e in le-leb w (n - 1) (omega arith))

-- a size is even if the next even size is not above it
leb_even : (n : ℕ) → leb (n + n % 2) n ≡ eqb (n % 2) 0
leb_even n =
    same_test (leb (n + n % 2) n) (eqb (n % 2) 0)
    (λ (e : leb (n + n % 2) n ≡ true). let l = leb-true (n + n % 2) n e in eq-eqb (n % 2) 0 (omega arith))
    (λ (e : eqb (n % 2) 0 ≡ true). let l = eqb-true (n % 2) 0 e in le-leb (n + n % 2) n (omega arith))

-- so many words are twice as many bytes
leb-words : (k n : ℕ) → leb (8 + 2 * k) n ≡ leb (4 + k) (n / 2)
leb-words k n =
    same_test (leb (8 + 2 * k) n) (leb (4 + k) (n / 2))
    (λ (e : leb (8 + 2 * k) n ≡ true). let l = leb-true (8 + 2 * k) n e in le-leb (4 + k) (n / 2) (omega arith))
    (λ (e : leb (4 + k) (n / 2) ≡ true). let l = leb-true (4 + k) (n / 2) e in le-leb (8 + 2 * k) n (omega arith))

-- equal to 0 is from 0 to 0
leb-zero : (w : ℕ) → leb w 0 ≡ eqb w 0
leb-zero w =
    same_test (leb w 0) (eqb w 0)
    (λ (e : leb w 0 ≡ true). let l = leb-true w 0 e in eq-eqb w 0 (omega arith))
    (λ (e : eqb w 0 ≡ true). let l = eqb-true w 0 e in le-leb w 0 (omega arith))

-- ---- the header

-- 28's order of tests, and that of the fields
turned : (a even c d long : Bool) → (a && (c && (d && (long && (even && true))))) ≡ (a && even && c && d && long)
turned false even c d long = refl
turned true even false d long = sym (out even)
  where
    out : (b : Bool) → (b && false && d && long) ≡ false
    out true = refl
    out false = refl
turned true even true false long = sym (out even)
  where
    out : (b : Bool) → (b && true && false && long) ≡ false
    out true = refl
    out false = refl
turned true false true true true = refl
turned true false true true false = refl
turned true true true true true = refl
turned true true true true false = refl

and-true : (b : Bool) → (b && true) ≡ b
and-true true = refl
and-true false = refl

five : (a b c d e : Field)
    → all_in (a ∷ b ∷ c ∷ d ∷ e ∷ []) ≡ (in_range a && (in_range b && (in_range c && (in_range d && (in_range e && true)))))
unfolding all_in
five a b c d e = refl

pub header-fields : (lump : List ℕ) → length lump ≤ most_bytes → all_in (header_fields lump) ≡ header_ok lump
header-fields lump h =
    let n = length lump in
    let even = leb (n + n % 2) n in
    let long = leb (8 + 2 * cells_of lump) n in
    five (size_field lump 8) (word_field lump 2 1 512) (word_field lump 3 1 512) (size_field lump (8 + 2 * cells_of lump)) (size_field lump (n + n % 2)) ∙
    rw (le-leb n most_bytes h, and-true (leb 8 n), and-true even, and-true long)
    (rw (sym (leb_even n), sym (leb-words (cells_of lump) n)) (turned (leb 8 n) even (side_ok (word_at lump 2)) (side_ok (word_at lump 3)) long))

-- ---- a list

module _ (lump : List ℕ) (linedefs : ℕ) (some : 1 ≤ linedefs) where
  number_test : (w : ℕ) → (leb 0 w && leb w (linedefs - 1)) ≡ ltb w linedefs
  number_test w = rw (le-leb 0 w (omega arith)) (leb-last w linedefs some)

  all-by : (b : Bool) (f : Field) (rest : List Field) → all_in (cond b [] (f ∷ rest)) ≡ cond b true (in_range f && all_in rest)
  all-by true f rest = all_in-none
  all-by false f rest = all_in-more f rest

  numbers_fields : (left : ℕ) → all_in (number_fields lump linedefs left) ≡ ends_well lump linedefs left
  unfolding number_fields ends_well
  numbers_fields zero = let h : length lump < length lump + 2 = omega arith in rw (all_in-more (size_field lump (length lump + 2)) [], lt-leb (length lump + 2) (length lump) h)
  numbers_fields (suc left) =
      let at = word_count lump - suc left in
      let w = word_at lump at in
      all-by (eqb w list_end) (word_field lump at 0 (linedefs - 1)) (number_fields lump linedefs left)
      ∙ (λ i. cond (eqb w list_end) true (number_test w i && numbers_fields left i))

  grouped : (a b c rest : Bool) → ((a && b) && (c && rest)) ≡ (a && b && c && rest)
  grouped true true c rest = refl
  grouped true false c rest = refl
  grouped false b c rest = refl

  pub cell-fields : (i : ℕ) → 1 ≤ word_count lump → all_in (cell_fields lump linedefs i) ≡ list_ok lump linedefs (word_at lump (4 + i))
  cell-fields i h =
      let offset = word_at lump (4 + i) in
      all_in-more (word_field lump (4 + i) (4 + cells_of lump) (word_count lump - 1)) (list_fields lump linedefs offset)
      ∙ rw (all_in-more (word_field lump offset 0 0) (number_fields lump linedefs (word_count lump - (offset + 1))), leb-last offset (word_count lump) h, le-leb 0 (word_at lump offset) (omega arith), leb-zero (word_at lump offset), numbers_fields (word_count lump - (offset + 1)), ends_well-list lump linedefs (word_count lump - (offset + 1)))
      (grouped (leb (4 + cells_of lump) offset) (ltb offset (word_count lump)) (eqb (word_at lump offset) 0)
      (list_ends lump (word_count lump - (offset + 1)) && all_under linedefs (linedefs_named lump offset)))
