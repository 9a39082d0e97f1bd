-- Where 28 is answered, not all fields of the header and that cell are in range, and the first that is not holds what stands in
-- the lump: `BlockmapReasoned`. Assumes nothing.
use Prim.Native.Nat.{ℕ, zero, suc, ◌+◌, ◌-◌, ◌*◌, ◌%◌, ◌≤◌, ◌<◌}
use mathlib.Core.Bool.{Bool, true, false, ◌&&◌, cond, and-false, and-eq-true_iff, true≢false}
use mathlib.Core.List.{List, [], ◌∷◌, ◌++◌}
use mathlib.Core.Logic.{◌⊎◌, inl, inr}
use mathlib.Core.Path.{◌≡◌, refl, sym, ap, subst, ◌∙◌}
use native.Mathlib.Nat.{mul-le-mul}
use native.Mathlib.Omega.{arith}
use borrow.Author.Tests.{leb-true, ltb-true, lt-ltb}
use lib.Dec.{leb, ltb, eqb}
use lib.ListN.{length}
use Rattle.endian.specs.Unsigned.{Bytes}
use Rattle.refusal.specs.Checks.{Check}
use Rattle.std.specs.Prelude.{⊤, Result, Ok, Err}
use Rattle.refusal.specs.declared.Refusal.TheVariants.{Blockmap}
use Rattle.refusal.specs.Checks.{unless, ◌and_then◌, each}
use Rattle.refusal.specs.Table.{record_of}
use Rattle.reason_range.specs.declared.Field.{Field}
use Rattle.reason_range.specs.Fields.{in_range, all_in, first_out, no_field, fields_check, named_by, FieldFits}
use Rattle.reason_range.proofs.Fields.{first_out-none, first_out-more, all_in-none, all_in-more, named-check, first_out_lem}
use Rattle.map_blockmap.specs.Blockmap.{word_count, word_at, cells_of, header_ok, list_end, list_ok, cell_check}
use Rattle.map_blockmap.proofs.Ending.{header-long}
use Rattle.wad.specs.Header.{most_bytes}
use Rattle.reason_blockmap.specs.Fields.{FitsIf, size_field, word_field, length_fields, header_fields, number_fields, list_fields, cell_fields, fields_if_cell, blockmap_fields}
use Rattle.reason_blockmap.specs.Reasons.{SizeTold, WordTold, BlockmapReasoned}
use Rattle.reason_blockmap.proofs.Fields.{header-fields, cell-fields}

-- ---- which cell is refused

-- the cell that a refusal names
abbrev number_in : Check → ℕ
number_in (Ok _) = 0
number_in (Err r) = record_of r

module _ (test : ℕ → Bool) where
  abbrev check_of : ℕ → Check
  check_of i = unless (test i) (Blockmap i)

  named_here : (n i : ℕ) (b : Bool) → test n ≡ b → unless b (Blockmap n) ≡ Err (Blockmap i) → (i < suc n) × (test i ≡ false)
  named_here n i true t e = let z : ◌≡◌ {A = ℕ} 0 1 = cc in absurd (omega arith)
  named_here n i false t e =
      let same : n ≡ i = ap number_in e in
      (omega arith, subst (λ (k : ℕ). test k ≡ false) same t)

  named-first : (n i : ℕ) (a : Check) → (a ≡ Err (Blockmap i) → (i < n) × (test i ≡ false))
      → a and_then check_of n ≡ Err (Blockmap i) → (i < suc n) × (test i ≡ false)
  named-first n i (Ok _) before e = named_here n i (test n) refl e
  named-first n i (Err r) before e = let h = before e in (omega (arith, h.0), h.1)

  each-named : (n i : ℕ) → each check_of n ≡ Err (Blockmap i) → (i < n) × (test i ≡ false)
  unfolding each
  each-named zero i e = let z : ◌≡◌ {A = ℕ} 0 1 = cc in absurd (omega arith)
  each-named (suc n) i e = named-first n i (each check_of n) (each-named n i) e

-- ---- not all are in range

all_in_append : (fs gs : List Field) → all_in (fs ++ gs) ≡ (all_in fs && all_in gs)
all_in_append [] gs = ap (λ (b : Bool). b && all_in gs) (sym all_in-none)
all_in_append (f ∷ fs) gs =
    all_in-more f (fs ++ gs) ∙ ap (λ (b : Bool). in_range f && b) (all_in_append fs gs)
    ∙ grouped (in_range f) (all_in fs) (all_in gs) ∙ ap (λ (b : Bool). b && all_in gs) (sym (all_in-more f fs))
  where
    grouped : (a b c : Bool) → (a && (b && c)) ≡ ((a && b) && c)
    grouped true b c = refl
    grouped false b c = refl

module _ (lump : List ℕ) (linedefs i : ℕ) (small : length lump ≤ most_bytes) (some : 1 ≤ linedefs) where
  cell-long : header_ok lump ≡ true → 1 ≤ word_count lump
  cell-long e = let h = header-long lump e in omega arith

  not-all : (b : Bool) → header_ok lump ≡ b
      → unless b (Blockmap 0) and_then each (cell_check lump linedefs) (cells_of lump) ≡ Err (Blockmap i)
      → all_in (blockmap_fields lump linedefs i) ≡ false
  not-all false h e =
      all_in_append (header_fields lump) (fields_if_cell lump linedefs i)
      ∙ ap (λ (b : Bool). b && all_in (fields_if_cell lump linedefs i)) (header-fields lump small ∙ h)
  not-all true h e =
      let bad = each-named (λ (k : ℕ). list_ok lump linedefs (word_at lump (4 + k))) (cells_of lump) i e in
      let there = ap (λ (b : Bool). all_in (cond b (cell_fields lump linedefs i) [])) (lt-ltb i (cells_of lump) bad.0) in
      all_in_append (header_fields lump) (fields_if_cell lump linedefs i)
      ∙ ap (λ (b : Bool). all_in (header_fields lump) && b) (there ∙ cell-fields lump linedefs some i (cell-long h) ∙ bad.1)
      ∙ and-false (all_in (header_fields lump))

-- ---- what holds of the size and of each word inside the lump holds of the first field out of its range

low : (f : Field) → in_range f ≡ true → f.least ≤ f.number
low f e = leb-true f.least f.number ((and-eq-true_iff (leb f.least f.number) (leb f.number f.most)).0 e).0

high : (f : Field) → in_range f ≡ true → f.number ≤ f.most
high f e = leb-true f.number f.most ((and-eq-true_iff (leb f.least f.number) (leb f.number f.most)).0 e).1

module _ (P : Field → Type 0) (none : P no_field) (lump : List ℕ) (linedefs : ℕ) (small : length lump ≤ most_bytes)
    (size : (least : ℕ) → least ≤ 33554432 → P (size_field lump least))
    (word : (k least most : ℕ) → k < word_count lump → least ≤ 33554432 → most ≤ 33554432 → P (word_field lump k least most))
    (number : (k : ℕ) → k < word_count lump → P (word_field lump k 0 (linedefs - 1))) where
  of_none : P (first_out [])
  of_none = subst P (sym first_out-none) none

  -- one more field in front
  of_more : (f : Field) (fs : List Field) → P f → (in_range f ≡ true → P (first_out fs)) → P (first_out (f ∷ fs))
  of_more f fs here later = subst P (sym (first_out-more f fs)) (either (in_range f) refl)
    where
      either : (b : Bool) → in_range f ≡ b → P (cond b (first_out fs) f)
      either true e = later e
      either false e = here

  -- up to the mark
  of_before : (b : Bool) (fs : List Field) → P (first_out fs) → P (first_out (cond b [] fs))
  of_before true fs t = of_none
  of_before false fs t = t

  of_numbers : (left : ℕ) → left ≤ word_count lump → P (first_out (number_fields lump linedefs left))
  unfolding number_fields
  of_numbers zero h = of_more (size_field lump (length lump + 2)) [] (size (length lump + 2) (omega arith)) (λ _. of_none)
  of_numbers (suc left) h =
      let at = word_count lump - suc left in
      let f = word_field lump at 0 (linedefs - 1) in
      of_before (eqb (word_at lump at) list_end) (f ∷ number_fields lump linedefs left)
      (of_more f (number_fields lump linedefs left) (number at (omega arith)) (λ _. of_numbers left (omega arith)))

  of_cell : (i : ℕ) → 4 + i < word_count lump → 4 + cells_of lump ≤ word_count lump → P (first_out (cell_fields lump linedefs i))
  of_cell i h room =
      let offset = word_at lump (4 + i) in
      let f = word_field lump (4 + i) (4 + cells_of lump) (word_count lump - 1) in
      of_more f (list_fields lump linedefs offset) (word (4 + i) (4 + cells_of lump) (word_count lump - 1) h (omega arith) (omega arith))
      (λ (e : in_range f ≡ true).
      let most : offset ≤ word_count lump - 1 = high f e in
      of_more (word_field lump offset 0 0) (number_fields lump linedefs (word_count lump - (offset + 1)))
      (word offset 0 0 (omega arith) (omega arith) (omega arith))
      (λ _. of_numbers (word_count lump - (offset + 1)) (omega arith)))

  of_if_cell : (i : ℕ) → 8 + 2 * cells_of lump ≤ length lump → P (first_out (fields_if_cell lump linedefs i))
  of_if_cell i h = by (ltb i (cells_of lump)) refl
    where
      by : (b : Bool) → ltb i (cells_of lump) ≡ b → P (first_out (cond b (cell_fields lump linedefs i) []))
      by true e = let l = ltb-true i (cells_of lump) e in of_cell i (omega arith) (omega arith)
      by false e = of_none

  of_lengths : (i : ℕ) → cells_of lump ≤ 512 * 512 → P (first_out (length_fields lump ++ fields_if_cell lump linedefs i))
  of_lengths i few =
      let even = length lump + length lump % 2 in
      let need = size_field lump (8 + 2 * cells_of lump) in
      of_more need (size_field lump even ∷ fields_if_cell lump linedefs i) (size (8 + 2 * cells_of lump) (omega arith))
      (λ (q : in_range need ≡ true).
      of_more (size_field lump even) (fields_if_cell lump linedefs i) (size even (omega arith)) (λ _. of_if_cell i (low need q)))

  of_blockmap : (i : ℕ) → P (first_out (blockmap_fields lump linedefs i))
  of_blockmap i =
      let columns = word_field lump 2 1 512 in
      let rows = word_field lump 3 1 512 in
      let rest = length_fields lump ++ fields_if_cell lump linedefs i in
      of_more (size_field lump 8) (columns ∷ rows ∷ rest) (size 8 (omega arith))
      (λ (e : in_range (size_field lump 8) ≡ true).
      let long : 8 ≤ length lump = low (size_field lump 8) e in
      of_more columns (rows ∷ rest) (word 2 1 512 (omega arith) (omega arith) (omega arith))
      (λ (c : in_range columns ≡ true).
      of_more rows rest (word 3 1 512 (omega arith) (omega arith) (omega arith))
      (λ (r : in_range rows ≡ true). of_lengths i (mul-le-mul (high columns c) (high rows r)))))

-- it holds what stands there
module _ (lump : List ℕ) (linedefs : ℕ) where
  abbrev Told : Field → Type 0
  Told f = in_range f ≡ false → SizeTold lump f ⊎ WordTold lump f

  told-word : (k least most : ℕ) → k < word_count lump → Told (word_field lump k least most)
  told-word k least most h _ = inr (record { inside = omega arith; word = refl })

  told : (i : ℕ) → length lump ≤ most_bytes → Told (first_out (blockmap_fields lump linedefs i))
  told i small =
      of_blockmap Told (λ (e : in_range no_field ≡ false). absurd (true≢false e)) lump linedefs small
      (λ least _ _. inl (record { offset = refl; size = refl })) (λ k least most h _ _. told-word k least most h)
      (λ k h. told-word k 0 (linedefs - 1) h) i

-- its numbers fit 32 bits
word_fits : (lump : List ℕ) (k least most : ℕ) → Bytes lump → length lump ≤ most_bytes → k < word_count lump
    → least < 4294967296 → most < 4294967296 → FieldFits (word_field lump k least most)
word_fits lump k least most bytes small h l m =
    let a = bytes (2 * k) in
    let b = bytes (2 * k + 1) in
    record { offset = omega arith; number = omega arith; least = l; most = m }

fields_fit : (lump : List ℕ) (linedefs i : ℕ) → Bytes lump → FitsIf lump linedefs (first_out (blockmap_fields lump linedefs i))
fields_fit lump linedefs i bytes small few =
    of_blockmap FieldFits (record { offset = omega arith; number = omega arith; least = omega arith; most = omega arith }) lump linedefs small
    (λ least h. record { offset = omega arith; number = omega arith; least = omega arith; most = omega arith })
    (λ k least most h l m. word_fits lump k least most bytes small h (omega arith) (omega arith))
    (λ k h. word_fits lump k 0 (linedefs - 1) bytes small h (omega arith) (omega arith)) i

pub named_fits : (lump : List ℕ) (linedefs i : ℕ) → Bytes lump → (r : Result ⊤ Field) → r ≡ fields_check (blockmap_fields lump linedefs i)
    → FitsIf lump linedefs (named_by r)
named_fits lump linedefs i bytes r e =
    let named = named-check (blockmap_fields lump linedefs i) in
    subst (FitsIf lump linedefs) (sym (ap named_by e ∙ named)) (fields_fit lump linedefs i bytes)

pub blockmap_reasoned : BlockmapReasoned
blockmap_reasoned =
    record {
      header = λ lump small. sym (header-fields lump small);
      cell = λ lump linedefs i some good. let h = header-long lump good in sym (cell-fields lump linedefs some i (omega arith));
      refused = λ lump linedefs i small some e.
          let first = first_out_lem (blockmap_fields lump linedefs i) (not-all lump linedefs i small some (header_ok lump) refl e) in
          record { first = first; holds = told lump linedefs i small first.out };
    }
