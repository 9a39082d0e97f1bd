-- The listed records are those that must be copied, for every size of a record. Assumes nothing.
use Prim.Native.Nat.{ℕ, zero, suc, ◌+◌, ◌*◌, ◌≤◌, ◌<◌}
use mathlib.Core.Bool.{Bool, true, false, not, cond, ◌||◌}
use mathlib.Core.List.{List, [], ◌∷◌, ◌++◌}
use mathlib.Core.Logic.{◌⊎◌, inl, inr, ⊎_elim}
use mathlib.Core.Path.{◌≡◌, refl, sym, ap, ◌∙◌}
use native.Mathlib.Nat.{le_trans, le_of_suc-le-suc, eq-or-lt_of_le, mul-suc}
use native.Mathlib.Omega.{arith}
use borrow.Author.Tests.{leb-true, leb-false, eqb-false, ne_eqb, not-true, not-false}
use lib.Dec.{leb, eqb}
use lib.ListN.{length, get_or, take, drop, length-append, length-drop, get_or-append}
use lib.Seq.{take-add, take_all, length-take-le, take-append-le, drop-append-le, get_or-append-add}
use Rattle.layout.specs.Rows.{laid_out}
use Rattle.layout.proofs.LaidOut.{laid_none, laid_suc, laid_same, part_at}
use Rattle.record_field.specs.Records.{record_bytes}
use Rattle.node_route.specs.Heights.{member}
use Rattle.node_route.proofs.Repeats.{or_neither, member-left, member_right, member_append, member_head, member_cons, at_member}
use Rattle.name.specs.Names.{same_bytes}
use Rattle.name.proofs.Bytes.{same_equal, equal_same}
use Rattle.difference.specs.Records.{count_in, changed, changes}
use Rattle.difference.proofs.Comparing.{record_inside}
use Rattle.theorem_difference.specs.Promises.{copied, without, Missing, Different, Copies}

-- ---- the numbers below `n` that pass a test

module _ (test : ℕ → Bool) where
  abbrev numbers : ℕ → List ℕ
  numbers n = laid_out (λ i. cond (test i) (i ∷ []) []) n

  one_in : (i n : ℕ) → member i (cond (test n) (n ∷ []) []) ≡ true → (i ≡ n) × (test n ≡ true)
  one_in i n m = by (test n) refl m
    where
      by : (b : Bool) → test n ≡ b → member i (cond b (n ∷ []) []) ≡ true → (i ≡ n) × (b ≡ true)
      by true e m = (⊎_elim (λ (h : i ≡ n). h) (λ (h : member i [] ≡ true). let z : ◌≡◌ {A = ℕ} 0 1 = cc in absurd (omega arith)) (member_cons i n [] m), refl)
      by false e m = let z : ◌≡◌ {A = ℕ} 0 1 = cc in absurd (omega arith)

  pub numbers_in : (i n : ℕ) → member i (numbers n) ≡ true → (i < n) × (test i ≡ true)
  numbers_in i zero m = let e = laid_none (λ i. cond (test i) (i ∷ []) []) in let z : ◌≡◌ {A = ℕ} 0 1 = cc in absurd (omega arith)
  numbers_in i (suc n) m =
      ⊎_elim
      (λ (h : member i (numbers n) ≡ true). let p = numbers_in i n h in (omega (arith, p.0), p.1))
      (λ (h : member i (cond (test n) (n ∷ []) []) ≡ true).
      let p = one_in i n h in (omega (arith, p.0), ap test p.0 ∙ p.1))
      (member_append i (numbers n) (cond (test n) (n ∷ []) []) (ap (member i) (sym (laid_suc (λ i. cond (test i) (i ∷ []) []) n)) ∙ m))

  pub in_numbers : (i n : ℕ) → i < n → test i ≡ true → member i (numbers n) ≡ true
  in_numbers i zero h t = absurd (omega arith)
  in_numbers i (suc n) h t =
      rw (laid_suc (λ i. cond (test i) (i ∷ []) []) n)
      (⊎_elim
      (λ (q : i ≡ n). member_right i (numbers n) (cond (test n) (n ∷ []) []) (rw (← q, t) (member_head i i [] refl)))
      (λ (q : i < n). member-left i (numbers n) (cond (test n) (n ∷ []) []) (in_numbers i n q t))
      (eq-or-lt_of_le (le_of_suc-le-suc h)))

  -- each larger than those before it
  pub numbers_ascend : (n i j : ℕ) → i < j → j < length (numbers n) → get_or (numbers n) i 0 < get_or (numbers n) j 0
  numbers_ascend zero i j h l = let e = ap length (laid_none (λ i. cond (test i) (i ∷ []) [])) in absurd (omega arith)
  numbers_ascend (suc n) i j h l =
      let more = laid_suc (λ i. cond (test i) (i ∷ []) []) n in
      rw more (by (test n) (rw more at l) (numbers_ascend n i j h) (λ k. (numbers_in (get_or (numbers n) i 0) n (at_member (numbers n) i k)).0))
    where
      by : (b : Bool) → j < length (numbers n ++ cond b (n ∷ []) []) → (j < length (numbers n) → get_or (numbers n) i 0 < get_or (numbers n) j 0)
          → (i < length (numbers n) → get_or (numbers n) i 0 < n)
          → get_or (numbers n ++ cond b (n ∷ []) []) i 0 < get_or (numbers n ++ cond b (n ∷ []) []) j 0
      by b l rest low =
          let long = length-append (numbers n) (cond b (n ∷ []) []) in
          let few : length (cond b (n ∷ []) []) ≤ 1 = one b in
          ⊎_elim
          (λ (q : j ≡ length (numbers n)).
          let here = get_or-append (numbers n) (cond b (n ∷ []) []) 0 i (omega arith) in
          let there : get_or (numbers n ++ cond b (n ∷ []) []) j 0 ≡ n =
          ap (λ (k : ℕ). get_or (numbers n ++ cond b (n ∷ []) []) k 0) (omega (arith, q))
          ∙ get_or-append-add (numbers n) (cond b (n ∷ []) []) 0 0 ∙ last b (omega (arith, long, l, q)) in
          rw (here, there) (low (omega arith)))
          (λ (q : j < length (numbers n)).
          let here = get_or-append (numbers n) (cond b (n ∷ []) []) 0 i (omega arith) in
          let there = get_or-append (numbers n) (cond b (n ∷ []) []) 0 j q in
          rw (here, there) (rest q))
          (eq-or-lt_of_le (omega (arith, long, few, l)))
        where
          one : (b : Bool) → length (cond b (n ∷ []) []) ≤ 1
          one true = omega arith
          one false = omega arith

          last : (b : Bool) → 0 < length (cond b (n ∷ []) []) → get_or (cond b (n ∷ []) []) 0 0 ≡ n
          last true h = refl
          last false h = absurd (omega arith)

-- ---- the records of a lump, one after the other

records_laid : (lump : List ℕ) (size n : ℕ) → laid_out (record_bytes lump size) n ≡ take (size * n) lump
records_laid lump size zero =
    let none : 0 ≡ size * 0 = omega arith in laid_none (record_bytes lump size) ∙ ap (λ (k : ℕ). take k lump) none
records_laid lump size (suc n) =
    laid_suc (record_bytes lump size) n
    ∙ ap (λ (xs : List ℕ). xs ++ record_bytes lump size n) (records_laid lump size n)
    ∙ sym (take-add (size * n) size lump)
    ∙ ap (λ (k : ℕ). take k lump) (sym (mul-suc size n))

-- ---- a list without one of its numbers

member-without : (i : ℕ) (list : List ℕ) → member i (without i list) ≡ false
member-without i [] = refl
member-without i (x ∷ xs) = by (eqb x i) refl (member-without i xs)
  where
    by : (t : Bool) → eqb x i ≡ t → member i (without i xs) ≡ false → member i (cond t (without i xs) (x ∷ without i xs)) ≡ false
    by true e rest = rest
    by false e rest =
        let other : i ≡ x → ⊥ = λ q. eqb-false x i e (sym q) in
        rw (ne_eqb i x other) rest

-- ---- what is copied

module _ (size : ℕ) (new : List ℕ) (parts : size * count_in size new ≡ length new) where
  module _ (buffer : List ℕ) (long : length new ≤ length buffer) where
    in_buffer : (i : ℕ) → i < count_in size new → size * i + size ≤ length buffer
    in_buffer i h = le_trans (record_inside size new i h) long

    part_length : (lump : List ℕ) (i : ℕ) → size * i + size ≤ length lump → length (record_bytes lump size i) ≡ size
    part_length lump i h = length-take-le size (drop (size * i) lump) (omega (arith, length-drop (size * i) lump, h))

    -- each record of what is copied stands at its own place
    copied_at : (list : List ℕ) (i : ℕ) → i < count_in size new
        → record_bytes (copied size buffer new list) size i ≡ cond (member i list) (record_bytes new size i) (record_bytes buffer size i)
    copied_at list i h =
        part_at (λ i. cond (member i list) (record_bytes new size i) (record_bytes buffer size i)) size (count_in size new) (λ i h. by (member i list) i h) i h
      where
        by : (t : Bool) (i : ℕ) → i < count_in size new → length (cond t (record_bytes new size i) (record_bytes buffer size i)) ≡ size
        by true i h = part_length new i (record_inside size new i h)
        by false i h = part_length buffer i (in_buffer i h)

module _ (size : ℕ) (old new : List ℕ) where
  -- a record of the old lump, whatever stands behind the lump
  old_record : (behind : List ℕ) (i : ℕ) → i < count_in size old → record_bytes (old ++ behind) size i ≡ record_bytes old size i
  old_record behind i h =
      let there = record_inside size old i h in
      let rest = length-drop (size * i) old in
      rw (drop-append-le (size * i) old behind (omega (arith, there)), take-append-le size (drop (size * i) old) behind (omega (arith, there, rest)))

  unchanged : (behind : List ℕ) (i : ℕ) → changed size old new i ≡ false → record_bytes (old ++ behind) size i ≡ record_bytes new size i
  unchanged behind i e =
      let p = or_neither (leb (count_in size old) i) (not (same_bytes (record_bytes old size i) (record_bytes new size i))) e in
      old_record behind i (leb-false (count_in size old) i p.0)
      ∙ same_equal (record_bytes old size i) (record_bytes new size i) (not-false (same_bytes (record_bytes old size i) (record_bytes new size i)) p.1)

  copied_record : (behind : List ℕ) (i : ℕ) → i < count_in size new
      → cond (member i (changes size old new)) (record_bytes new size i) (record_bytes (old ++ behind) size i) ≡ record_bytes new size i
  copied_record behind i h = by (member i (changes size old new)) (changed size old new i) refl refl
    where
      by : (m t : Bool) → member i (changes size old new) ≡ m → changed size old new i ≡ t
          → cond m (record_bytes new size i) (record_bytes (old ++ behind) size i) ≡ record_bytes new size i
      by true t e q = refl
      by false true e q =
          let in' = in_numbers (changed size old new) i (count_in size new) h q in let z : ◌≡◌ {A = ℕ} 0 1 = cc in absurd (omega arith)
      by false false e q = unchanged behind i q

  pub copies : size * count_in size new ≡ length new → Copies size old new (changes size old new)
  copies parts =
      record {
        whole = λ behind long.
            laid_same _ (record_bytes new size) (count_in size new) (λ i h. copied_record behind i h)
            ∙ records_laid new size (count_in size new) ∙ take_all (size * count_in size new) new (omega arith);
        inside = λ i m. (numbers_in (changed size old new) i (count_in size new) m).0;
        needed = λ i m behind long.
            let p = numbers_in (changed size old new) i (count_in size new) m in
            left_out_lem i p.0 p.1 behind long (leb (count_in size old) i) refl;
        ascending = numbers_ascend (changed size old new) (count_in size new);
      }
    where
      left_out_lem : (i : ℕ) → i < count_in size new → changed size old new i ≡ true → (behind : List ℕ) → length new ≤ length (old ++ behind)
          → (t : Bool) → leb (count_in size old) i ≡ t
          → Different size (copied size (old ++ behind) new (without i (changes size old new))) new i ⊎ Missing size old i
      left_out_lem i h q behind long true e = inr (leb-true (count_in size old) i e)
      left_out_lem i h q behind long false e =
          inl (λ same.
          let here =
          copied_at size new parts (old ++ behind) long (without i (changes size old new)) i h
          ∙ ap (λ (b : Bool). cond b (record_bytes new size i) (record_bytes (old ++ behind) size i)) (member-without i (changes size old new))
          ∙ old_record behind i (leb-false (count_in size old) i e) in
          let no : same_bytes (record_bytes old size i) (record_bytes new size i) ≡ false =
          not-true (same_bytes (record_bytes old size i) (record_bytes new size i))
          (sym (ap (λ (b : Bool). b || not (same_bytes (record_bytes old size i) (record_bytes new size i))) e) ∙ q) in
          let yes = ap (λ (xs : List ℕ). same_bytes xs (record_bytes new size i)) (sym here ∙ same) ∙ equal_same (record_bytes new size i) in
          let z : ◌≡◌ {A = ℕ} 0 1 = cc in omega arith)
