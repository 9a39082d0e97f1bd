-- An index of the right head has the length and the records that are asked for exactly if it is the file's index. Assumes nothing.
use Prim.Native.Nat.{ℕ, zero, suc, ◌+◌, ◌-◌, ◌*◌, ◌/◌, ◌%◌, ◌≤◌, ◌<◌}
use mathlib.Core.Bool.{Bool, true, false, cond}
use mathlib.Core.List.{List, [], ◌∷◌, ◌++◌}
use mathlib.Core.Path.{◌≡◌, refl, sym, ap, ◌∙◌, subst}
use native.Mathlib.Nat.{le_of_suc-le-suc, mul-suc}
use native.Mathlib.Omega.{arith}
use borrow.Author.Tests.{ltb-true, lt-ltb, eqb-true, eq-eqb, ne_eqb}
use lib.Dec.{ltb, eqb}
use lib.ListN.{length, get_or, take, drop, length-drop, take-append-drop}
use lib.Seq.{take_all, take-add, drop-drop}
use Rattle.index.proofs.Sorting.{precedes_trans}
use Rattle.endian.specs.Unsigned.{Bytes, u16_at, u16_bytes, u32_bytes}
use Rattle.endian.proofs.Unsigned.{u16_at-fits}
use Rattle.refusal.specs.Checks.{Check}
use Rattle.std.specs.Prelude.{Ok, Err}
use Rattle.refusal.specs.declared.Refusal.{Refusal}
use Rattle.refusal.specs.declared.Refusal.TheVariants.{IndexEntries}
use Rattle.refusal.specs.Checks.{unless}
use Rattle.refusal.proofs.Checks.{both, and_then_pass, and_then_by, unless_pass, unless-named, each_pass, each-by, each_all}
use Rattle.layout.specs.Rows.{laid_out}
use Rattle.layout.proofs.LaidOut.{laid_none, laid_suc, laid_same}
use Rattle.name.specs.Names.{same_bytes}
use Rattle.name.proofs.Bytes.{same_equal, equal_same}
use Rattle.wad.specs.Slices.{part}
use Rattle.wad.specs.Header.{head_of, entry_count}
use Rattle.wad.specs.Entries.{directory_of, entry_name}
use Rattle.index.specs.declared.IndexRecord.{IndexRecord}
use Rattle.index.specs.Records.{no_record, padded, precedes, index_of}
use Rattle.index.specs.Index.{version_place, record_offset, index_head, index_record_bytes, sorted_records, index_bytes}
use Rattle.index.specs.Promises.{Ascending, OfEntries}
use Rattle.index.proofs.Orders.{not_both}
use Rattle.index.proofs.Holds.{index_holds}
use Rattle.index.proofs.Bytes.{index_size, name-at, number-at}
use Rattle.index_check.specs.Inner.{record_in, entry_ok, order_ok, record_ok, each_record, records_check}
use Rattle.index_check.proofs.Reading.{number-part}
use Rattle.index_check.proofs.Heads.{Headed}

-- parts of one size are laid out
laid_take : (f : ℕ → List ℕ) (size n : ℕ) (xs : List ℕ) → ((i : ℕ) → i < n → part xs (size * i) size ≡ f i) → take (size * n) xs ≡ laid_out f n
laid_take f size zero xs h = let none : size * 0 ≡ 0 = omega arith in rw none (sym (laid_none f))
laid_take f size (suc n) xs h =
    let first = laid_take f size n xs (λ i l. h i (omega arith)) in
    let last = h n (omega arith) in
    ap (λ (k : ℕ). take k xs) (mul-suc size n) ∙ take-add (size * n) size xs ∙ (λ i. first i ++ last i) ∙ sym (laid_suc f n)

order-suc : (index : List ℕ) (i : ℕ) → order_ok index (suc i) ≡ precedes (record_in index i) (record_in index (suc i))
order-suc index i =
    let later : suc i - 1 ≡ i = omega arith in
    ap (λ (b : Bool). cond b true (precedes (record_in index (suc i - 1)) (record_in index (suc i)))) (ne_eqb (suc i) 0 (λ e. absurd (omega arith)))
    ∙ ap (λ (k : ℕ). precedes (record_in index k) (record_in index (suc i))) later

-- ---- records that are as asked

module _ (dir : List ℕ) (count : ℕ) (index : List ℕ) where
  -- the records from `i` on, `n` of them
  abbrev rows_from : ℕ → ℕ → List IndexRecord
  rows_from i zero = []
  rows_from i (suc n) = record_in index i ∷ rows_from (suc i) n

  rows-length : (i n : ℕ) → length (rows_from i n) ≡ n
  rows-length i zero = refl
  rows-length i (suc n) = ap suc (rows-length (suc i) n)

  rows_at : (i n k : ℕ) → k < n → get_or (rows_from i n) k no_record ≡ record_in index (i + k)
  rows_at i zero k h = absurd (omega arith)
  rows_at i (suc n) zero h = let e : i ≡ i + 0 = omega arith in ap (record_in index) e
  rows_at i (suc n) (suc k) h =
      let e : suc i + k ≡ i + suc k = omega arith in rows_at (suc i) n k (le_of_suc-le-suc h) ∙ ap (record_in index) e

  row_is : (k : ℕ) → k < count → get_or (rows_from 0 count) k no_record ≡ record_in index k
  row_is k h = let e : 0 + k ≡ k = omega arith in rows_at 0 count k h ∙ ap (record_in index) e

  module _ (good : (i : ℕ) → i < count → record_ok dir count index i ≡ true) where
    next : (i : ℕ) → suc i < count → precedes (record_in index i) (record_in index (suc i)) ≡ true
    next i h = sym (order-suc index i) ∙ (both (entry_ok dir count (record_in index (suc i))) (order_ok index (suc i)) (good (suc i) h)).1

    chain : (i d : ℕ) → i + suc d < count → precedes (record_in index i) (record_in index (i + suc d)) ≡ true
    chain i zero h =
        let e : suc i ≡ i + 1 = omega arith in
        subst (λ (j : ℕ). precedes (record_in index i) (record_in index j) ≡ true) e (next i (omega arith))
    chain i (suc d) h =
        let e : suc (i + suc d) ≡ i + suc (suc d) = omega arith in
        subst (λ (j : ℕ). precedes (record_in index i) (record_in index j) ≡ true) e
        (precedes_trans (record_in index i) (record_in index (i + suc d)) (record_in index (suc (i + suc d))) (chain i d (omega arith)) (next (i + suc d) (omega arith)))

    rows_ascend : Ascending (rows_from 0 count)
    rows_ascend i j h l =
        let n = rows-length 0 count in
        let e : i + suc (j - i - 1) ≡ j = omega arith in
        rw (row_is i (omega (arith, n, l, h)), row_is j (omega (arith, n, l)))
        (subst (λ (k : ℕ). precedes (record_in index i) (record_in index k) ≡ true) e (chain i (j - i - 1) (omega (arith, e, n, l))))

    rows-entries : OfEntries dir count (rows_from 0 count)
    rows-entries i h =
        let n = rows-length 0 count in
        let l : i < count = omega (arith, n, h) in
        let r = record_in index i in
        let tests = both (ltb r.number count) (same_bytes r.name (padded (entry_name dir r.number))) (both (entry_ok dir count r) (order_ok index i) (good i l)).0 in
        let named = same_equal r.name (padded (entry_name dir r.number)) tests.1 in
        (r.number, (ltb-true r.number count tests.0, row_is i l ∙ (λ k. record { name = named k; number = r.number })))

    rows-sorted : rows_from 0 count ≡ index_of dir count
    rows-sorted = (index_holds dir count).only (rows_from 0 count) (rows-length 0 count) rows_ascend rows-entries

    sorted_at : (i : ℕ) → i < count → record_in index i ≡ get_or (index_of dir count) i no_record
    sorted_at i h = sym (row_is i h) ∙ ap (λ (xs : List IndexRecord). get_or xs i no_record) rows-sorted

-- ---- the bytes of an index

module _ (wad index : List ℕ) (bytes : Bytes index) (head : Headed (entry_count (head_of wad)) (length wad) index) (version : u16_at index version_place ≡ 1) where
  abbrev dir : List ℕ
  dir = directory_of wad

  abbrev count : ℕ
  count = entry_count (head_of wad)

  two : (at : ℕ) → at + 2 ≤ 11 → part index at 2 ≡ u16_bytes (u16_at index at)
  two at h = let long = head.long in number-part index at bytes (omega arith)

  length-bytes : part index 7 4 ≡ u32_bytes (length wad)
  length-bytes =
      let of = head.of in
      let fits = u16_at-fits index 7 bytes in
      let low : length wad % 65536 ≡ u16_at index 7 = omega arith in
      let high : length wad / 65536 ≡ u16_at index 9 = omega arith in
      take-add 2 2 (drop 7 index) ∙ ap (λ (xs : List ℕ). part index 7 2 ++ take 2 xs) (drop-drop 2 7 index)
      ∙ rw (two 7 (omega arith), two 9 (omega arith), low, high)

  head_bytes : take 11 index ≡ index_head wad
  head_bytes =
      let mark = head.mark in
      let versions = two 3 (omega arith) ∙ ap u16_bytes version in
      let counts = two 5 (omega arith) ∙ ap u16_bytes head.counts in
      take-add 7 4 index ∙ ap (λ (xs : List ℕ). xs ++ part index 7 4) (take-add 5 2 index)
      ∙ ap (λ (xs : List ℕ). xs ++ part index 5 2 ++ part index 7 4) (take-add 3 2 index)
      ∙ rw (mark, versions, counts, length-bytes)

  row-bytes : (i : ℕ) → record_offset i + 10 ≤ length index → part index (record_offset i) 10 ≡ index_record_bytes (record_in index i)
  row-bytes i h =
      take-add 8 2 (drop (record_offset i) index)
      ∙ ap (λ (xs : List ℕ). part index (record_offset i) 8 ++ take 2 xs) (drop-drop 8 (record_offset i) index)
      ∙ ap (λ (xs : List ℕ). part index (record_offset i) 8 ++ xs) (number-part index (record_offset i + 8) bytes (omega arith))

  rows-bytes : length index ≡ record_offset count
      → drop 11 index ≡ laid_out (λ i. index_record_bytes (record_in index i)) count
  rows-bytes size =
      let rest = length-drop 11 index in
      sym (take_all (10 * count) (drop 11 index) (omega arith))
      ∙ laid_take (λ i. index_record_bytes (record_in index i)) 10 count (drop 11 index)
      (λ i h. ap (take 10) (drop-drop (10 * i) 11 index) ∙ row-bytes i (omega arith))

  good_equal : length index ≡ record_offset count → ((i : ℕ) → i < count → record_ok dir count index i ≡ true) → index ≡ index_bytes wad
  good_equal size good =
      let rows = rows-bytes size
      ∙ laid_same (λ i. index_record_bytes (record_in index i)) (λ i. index_record_bytes (get_or (sorted_records wad) i no_record)) count
      (λ i h. ap index_record_bytes (sorted_at dir count index good i h)) in
      sym (take-append-drop 11 index) ∙ (λ i. head_bytes i ++ rows i)

  passes_equal : records_check dir count index ≡ Ok tt → index ≡ index_bytes wad
  passes_equal e =
      let two = and_then_pass (unless (eqb (length index) (record_offset count)) IndexEntries) (each_record dir count index) e in
      let size = eqb-true (length index) (record_offset count) (unless_pass (eqb (length index) (record_offset count)) IndexEntries two.0) in
      good_equal size
      (λ i h.
      unless_pass (record_ok dir count index i) IndexEntries
      (each_pass (λ k. unless (record_ok dir count index k) IndexEntries) count two.1 i h))

-- ---- the index itself

module _ (wad : List ℕ) where
  abbrev entries : List ℕ
  entries = directory_of wad

  abbrev many : ℕ
  many = entry_count (head_of wad)

  abbrev at : ℕ → IndexRecord
  at i = get_or (sorted_records wad) i no_record

  in_index : (i : ℕ) → i < many → record_in (index_bytes wad) i ≡ at i
  in_index i h = let name = name-at wad i h in let number = number-at wad i h in λ k. record { name = name k; number = number k }

  index_entry : (i : ℕ) → i < many → entry_ok entries many (record_in (index_bytes wad) i) ≡ true
  index_entry i h =
      let holds = index_holds entries many in
      let (k, (low, is)) = holds.entries i (omega (arith, holds.long, h)) in
      ap (entry_ok entries many) (in_index i h ∙ is) ∙ rw (lt-ltb k many low) (equal_same (padded (entry_name entries k)))

  index_order : (i : ℕ) → i < many → order_ok (index_bytes wad) i ≡ true
  index_order zero h = refl
  index_order (suc i) h =
      let holds = index_holds entries many in
      let before = in_index i (omega arith) in
      let here = in_index (suc i) h in
      order-suc (index_bytes wad) i ∙ (λ k. precedes (before k) (here k)) ∙ holds.ascending i (suc i) (omega arith) (omega (arith, holds.long, h))

  index_passes : records_check entries many (index_bytes wad) ≡ Ok tt
  index_passes =
      rw (eq-eqb (length (index_bytes wad)) (record_offset many) (index_size wad))
      (each_all (λ k. unless (record_ok entries many (index_bytes wad) k) IndexEntries) many
      (λ i h. rw (index_entry i h, index_order i h)))

-- ---- both ways

refused-by : (dir : List ℕ) (count : ℕ) (index : List ℕ) (r : Refusal) → records_check dir count index ≡ Err r → IndexEntries ≡ r
refused-by dir count index r e =
    and_then_by (unless (eqb (length index) (record_offset count)) IndexEntries) (each_record dir count index) e
    (λ p. unless-named (eqb (length index) (record_offset count)) IndexEntries p)
    (λ p.
    let (i, (h, q)) = each-by (λ k. unless (record_ok dir count index k) IndexEntries) count p in
    unless-named (record_ok dir count index i) IndexEntries q)

pub records_equal : (wad index : List ℕ) → Bytes index → Headed (entry_count (head_of wad)) (length wad) index → u16_at index version_place ≡ 1
    → records_check (directory_of wad) (entry_count (head_of wad)) index ≡ unless (same_bytes index (index_bytes wad)) IndexEntries
records_equal wad index bytes head version =
    by (same_bytes index (index_bytes wad)) refl (records_check (directory_of wad) (entry_count (head_of wad)) index) refl
  where
    by : (b : Bool) → same_bytes index (index_bytes wad) ≡ b → (c : Check) → records_check (directory_of wad) (entry_count (head_of wad)) index ≡ c
        → c ≡ unless b IndexEntries
    by true e c q =
        sym q ∙ ap (records_check (directory_of wad) (entry_count (head_of wad))) (same_equal index (index_bytes wad) e) ∙ index_passes wad
    by false e (Ok _) q =
        let is = passes_equal wad index bytes head version q in
        not_both (ap (λ (xs : List ℕ). same_bytes xs (index_bytes wad)) is ∙ equal_same (index_bytes wad)) e
    by false e (Err r) q = ap Err (sym (refused-by (directory_of wad) (entry_count (head_of wad)) index r q))
