-- No seg is drawn twice, where no subsector takes a seg that another has. Assumes nothing.
use Prim.Native.Nat.{ℕ, zero, suc, ◌+◌, ◌-◌, ◌≤◌, ◌<◌}
use mathlib.Core.Bool.{Bool, true, false, ◌||◌}
use mathlib.Core.List.{List, [], ◌∷◌, ◌++◌}
use mathlib.Core.Logic.{⊎_elim}
use mathlib.Core.Path.{◌≡◌, refl, sym, ◌∙◌}
use native.Mathlib.Decide.{dec_lt}
use native.Mathlib.Nat.{eq-or-lt_of_le, le_of_suc-le-suc}
use native.Mathlib.Omega.{arith}
use borrow.Author.Tests.{le-leb, lt-ltb}
use Rattle.node_route.specs.Heights.{member, repeats}
use Rattle.node_route.proofs.Repeats.{Repeated, in_first, in_second, in_both, or_left, or_right, or_neither, member_cons, member_head, member_tail, member_append, repeats_append}
use Rattle.hazard.specs.Segs.{subsector_in, has_seg, taken_below, some_from, takes_again}
use Rattle.hazard.proofs.SegsTaken.{some-suc, taken_suc}
use Rattle.theorem_draw.specs.Pictures.{numbers_on, segs_drawn}

not-true-false : (b : Bool) → b ≡ true → b ≡ false → ⊥
not-true-false b t f = let z : ◌≡◌ {A = ℕ} 0 1 = cc in omega arith

-- ---- numbers in a row

member_numbers : (first n s : ℕ) → member s (numbers_on first n) ≡ true → (first ≤ s) × (s < first + n)
member_numbers first zero s e = let z : ◌≡◌ {A = ℕ} 0 1 = cc in absurd (omega arith)
member_numbers first (suc n) s e =
    ⊎_elim
    (λ (h : s ≡ first). (omega arith, omega arith))
    (λ (h : member s (numbers_on (suc first) n) ≡ true). let p = member_numbers (suc first) n s h in (omega (arith, p.0), omega (arith, p.1)))
    (member_cons s first (numbers_on (suc first) n) e)

numbers_once : (first n : ℕ) → repeats (numbers_on first n) ≡ false
numbers_once first zero = refl
numbers_once first (suc n) = by (member first (numbers_on (suc first) n)) refl (numbers_once (suc first) n)
  where
    by : (b : Bool) → member first (numbers_on (suc first) n) ≡ b → repeats (numbers_on (suc first) n) ≡ false
        → (b || repeats (numbers_on (suc first) n)) ≡ false
    by true e r = let low = (member_numbers (suc first) n first e).0 in absurd (omega arith)
    by false e r = r

-- ---- no number in a range passes a test

some-not : (test : ℕ → Bool) (first n : ℕ) → some_from test first n ≡ false → (i : ℕ) → i < n → test (first + i) ≡ false
some-not test first zero e i h = absurd (omega arith)
some-not test first (suc n) e i h =
    let p = or_neither (some_from test first n) (test (first + n)) (sym (some-suc test first n) ∙ e) in
    ⊎_elim
    (λ (q : i ≡ n). rw q p.1)
    (λ (l : i < n). some-not test first n p.0 i l)
    (eq-or-lt_of_le (le_of_suc-le-suc h))

-- ---- segs of two subsectors

module _ (lump : List ℕ) (count : ℕ) (none : (k : ℕ) → k < count → takes_again lump k ≡ false) where
  has : (k s : ℕ) → member s (numbers_on (subsector_in lump k).first (subsector_in lump k).number) ≡ true → has_seg (subsector_in lump k) s ≡ true
  has k s e =
      let p = member_numbers (subsector_in lump k).first (subsector_in lump k).number s e in
      rw (le-leb (subsector_in lump k).first s p.0, lt-ltb s ((subsector_in lump k).first + (subsector_in lump k).number) p.1)

  -- a seg of a subsector before `k` is taken
  taken : (j k s : ℕ) → j < k → has_seg (subsector_in lump j) s ≡ true → taken_below lump k s ≡ true
  taken j zero s h e = absurd (omega arith)
  taken j (suc k) s h e =
      taken_suc lump k s
      ∙ ⊎_elim
      (λ (q : j ≡ k). or_right (taken_below lump k s) (has_seg (subsector_in lump k) s) (rw q at e))
      (λ (l : j < k). or_left (taken_below lump k s) (has_seg (subsector_in lump k) s) (taken j k s l e))
      (eq-or-lt_of_le (le_of_suc-le-suc h))

  apart : (j k s : ℕ) → j < k → k < count → member s (numbers_on (subsector_in lump j).first (subsector_in lump j).number) ≡ true
      → member s (numbers_on (subsector_in lump k).first (subsector_in lump k).number) ≡ true → ⊥
  apart j k s h l e q =
      let first = (subsector_in lump k).first in
      let p = member_numbers first (subsector_in lump k).number s q in
      let place : first + (s - first) ≡ s = omega (arith, p.0) in
      let free = some-not (taken_below lump k) first (subsector_in lump k).number (none k l) (s - first) (omega (arith, p.0, p.1)) in
      not-true-false (taken_below lump k s) (taken j k s h (has j s e)) (rw place at free)

  -- a seg that is drawn is one of a subsector of the list
  drawn-by : (ks : List ℕ) (s : ℕ) → member s (segs_drawn lump ks) ≡ true
      → (k : ℕ) × ((member k ks ≡ true) × (member s (numbers_on (subsector_in lump k).first (subsector_in lump k).number) ≡ true))
  drawn-by [] s e = let z : ◌≡◌ {A = ℕ} 0 1 = cc in absurd (omega arith)
  drawn-by (k ∷ ks) s e =
      ⊎_elim
      (λ (h : member s (numbers_on (subsector_in lump k).first (subsector_in lump k).number) ≡ true). (k, (member_head k k ks refl, h)))
      (λ (h : member s (segs_drawn lump ks) ≡ true). let (j, (m, q)) = drawn-by ks s h in (j, (member_tail j k ks m, q)))
      (member_append s (numbers_on (subsector_in lump k).first (subsector_in lump k).number) (segs_drawn lump ks) e)

  -- of two different subsectors one is the later
  neither : (j k s : ℕ) → (j ≡ k → ⊥) → j < count → k < count
      → member s (numbers_on (subsector_in lump j).first (subsector_in lump j).number) ≡ true
      → member s (numbers_on (subsector_in lump k).first (subsector_in lump k).number) ≡ true → ⊥
  neither j k s d hj hk e q = by (dec_lt j k)
    where
      by : Dec (j < k) → ⊥
      by (yes h) = apart j k s h hk e q
      by (no h) = apart k j s (omega arith) hj q e

  pub drawn-once : (ks : List ℕ) → repeats ks ≡ false → ((k : ℕ) → member k ks ≡ true → k < count) → repeats (segs_drawn lump ks) ≡ false
  drawn-once [] e low = refl
  drawn-once (k ∷ ks) e low =
      let p = or_neither (member k ks) (repeats ks) e in
      by (repeats (numbers_on (subsector_in lump k).first (subsector_in lump k).number ++ segs_drawn lump ks)) refl p.0
      (drawn-once ks p.1 (λ j m. low j (member_tail j k ks m)))
    where
      segs : List ℕ
      segs = numbers_on (subsector_in lump k).first (subsector_in lump k).number

      twice : member k ks ≡ false → repeats (segs_drawn lump ks) ≡ false → Repeated segs (segs_drawn lump ks) → ⊥
      twice m r (in_first q) = not-true-false (repeats segs) q (numbers_once (subsector_in lump k).first (subsector_in lump k).number)
      twice m r (in_second q) = not-true-false (repeats (segs_drawn lump ks)) q r
      twice m r (in_both s q t) =
          let (j, (in', u)) = drawn-by ks s t in
          neither k j s (λ (same : k ≡ j). not-true-false (member j ks) in' (rw same at m)) (low k (member_head k k ks refl)) (low j (member_tail j k ks in')) q u

      by : (b : Bool) → repeats (segs ++ segs_drawn lump ks) ≡ b → member k ks ≡ false → repeats (segs_drawn lump ks) ≡ false → b ≡ false
      by true q m r = absurd (twice m r (repeats_append segs (segs_drawn lump ks) q))
      by false q m r = refl

  -- the segs of good subsectors are the map's
  pub drawn-low : (segs : ℕ) (ks : List ℕ) → ((k : ℕ) → member k ks ≡ true → (subsector_in lump k).first + (subsector_in lump k).number ≤ segs)
      → (s : ℕ) → member s (segs_drawn lump ks) ≡ true → s < segs
  drawn-low segs ks good s e =
      let (k, (m, q)) = drawn-by ks s e in
      let inside = (member_numbers (subsector_in lump k).first (subsector_in lump k).number s q).1 in
      let end = good k m in
      omega arith
