-- Laws of segs that two subsectors have: one number more of a range, and what is noted of the subsectors before one.
-- Assumes nothing.
use Prim.Native.Nat.{ℕ, zero, suc, ◌+◌, ◌-◌, ◌≤◌, ◌<◌}
use mathlib.Core.Bool.{Bool, true, false, ◌&&◌, ◌||◌}
use mathlib.Core.List.{List}
use mathlib.Core.Logic.{⊎_elim}
use mathlib.Core.Path.{◌≡◌, refl, sym, ap, ◌∙◌}
use native.Mathlib.Nat.{eq-or-lt_of_le, le_of_suc-le-suc}
use native.Mathlib.Numerals.{add-one}
use native.Mathlib.Omega.{arith}
use borrow.Author.Tests.{eqb-true, eqb-false, le-leb, lt-ltb, le-ltb, leb-true, ltb-true, ltb-false}
use lib.Dec.{leb, ltb, eqb}
use lib.ListN.{length, replicate, length-replicate}
use Rattle.bits.specs.Bits.{is_noted, with_note}
use Rattle.bits.proofs.Bits.{note-more, length-note, note-none}
use Rattle.hazard.specs.Segs.{subsector_in, has_seg, taken_below, some_from, takes_again}
use Rattle.hazard.specs.Inner.{Taken, Took, NotedTo, TookRange}

-- ---- the test holds of some number

module _ (test : ℕ → Bool) (first : ℕ) where
  pub some-none : some_from test first 0 ≡ false
  unfolding some_from
  some-none = refl

  pub some-suc : (n : ℕ) → some_from test first (suc n) ≡ (some_from test first n || test (first + n))
  unfolding some_from
  some-suc n = refl

  -- one number that passes the test is enough
  pub some-kept : (i n : ℕ) → some_from test first i ≡ true → i ≤ n → some_from test first n ≡ true
  some-kept i zero e h = let z : i ≡ 0 = omega arith in rw z at e
  some-kept i (suc n) e h =
      ⊎_elim
      (λ (q : i ≡ suc n). rw q at e)
      (λ (l : i < suc n). rw (some-suc n, some-kept i n e (le_of_suc-le-suc l)))
      (eq-or-lt_of_le h)

-- two tests that agree on the numbers
pub some_same : (test test' : ℕ → Bool) (first n : ℕ) → ((i : ℕ) → first ≤ i → i < first + n → test i ≡ test' i)
    → some_from test first n ≡ some_from test' first n
some_same test test' first zero same = some-none test first ∙ sym (some-none test' first)
some_same test test' first (suc n) same =
    some-suc test first n
    ∙ (λ i. some_same test test' first n (λ k low high. same k low (omega arith)) i || same (first + n) (omega arith) (omega arith) i)
    ∙ sym (some-suc test' first n)

-- ---- the segs of a range are noted

-- one more seg of a range
range_more : (first seg n : ℕ) (a : Bool) → first ≤ seg
    → (eqb n seg || (a || (leb first n && ltb n seg))) ≡ (a || (leb first n && ltb n (seg + 1)))
range_more first seg n true low = by (eqb n seg)
  where
    by : (b : Bool) → (b || true) ≡ true
    by true = refl
    by false = refl
range_more first seg n false low = by (eqb n seg) refl
  where
    by : (b : Bool) → eqb n seg ≡ b → (b || (leb first n && ltb n seg)) ≡ (leb first n && ltb n (seg + 1))
    by true e =
        let q = eqb-true n seg e in
        rw (q, le-leb first seg low, lt-ltb seg (seg + 1) (omega arith))
    by false e =
        let apart = eqb-false n seg e in
        ap (λ (b : Bool). leb first n && b) (below apart (ltb n seg) refl)
      where
        below : (n ≡ seg → ⊥) → (b : Bool) → ltb n seg ≡ b → b ≡ ltb n (seg + 1)
        below apart true q = let h = ltb-true n seg q in sym (lt-ltb n (seg + 1) (omega arith))
        below apart false q = let h = ltb-false n seg q in sym (le-ltb n (seg + 1) (omega arith))

module _ (first : ℕ) (before : List ℕ) where
  pub range_none : length before ≡ 16384 → NotedTo first first before before
  range_none long =
      record {
        places = long;
        none = (let z : first - first ≡ 0 = omega arith in ap (some_from (is_noted 16384 before) first) z ∙ some-none (is_noted 16384 before) first);
        noted = λ seg h. empty seg (is_noted 16384 before seg);
      }
    where
      outside : (seg : ℕ) (b : Bool) → leb first seg ≡ b → (b && ltb seg first) ≡ false
      outside seg true e = let h = leb-true first seg e in le-ltb seg first h
      outside seg false e = refl

      empty : (seg : ℕ) (a : Bool) → a ≡ (a || (leb first seg && ltb seg first))
      empty seg true = refl
      empty seg false = sym (outside seg (leb first seg) refl)

  module _ (seg : ℕ) (low : first ≤ seg) (after : List ℕ) (n : NotedTo first seg before after) where
    -- its note is the one from before
    own : seg < 131072 → is_noted 16384 after seg ≡ is_noted 16384 before seg
    own h = n.noted seg h ∙ rw (le-ltb seg seg (omega arith), le-leb first seg low) (or_false (is_noted 16384 before seg))
      where
        or_false : (a : Bool) → (a || false) ≡ a
        or_false true = refl
        or_false false = refl

    more : seg < 131072 → some_from (is_noted 16384 before) first (seg + 1 - first) ≡ is_noted 16384 after seg
    more h =
        let count : seg + 1 - first ≡ suc (seg - first) = omega arith in
        let last : first + (seg - first) ≡ seg = omega arith in
        ap (some_from (is_noted 16384 before) first) count ∙ some-suc (is_noted 16384 before) first (seg - first)
        ∙ rw (n.none, last) (sym (own h))

    pub range_again : seg < 131072 → (end : ℕ) → seg < end → is_noted 16384 after seg ≡ true
        → some_from (is_noted 16384 before) first (end - first) ≡ true
    range_again h end l e = some-kept (is_noted 16384 before) first (seg + 1 - first) (end - first) (more h ∙ e) (omega arith)

    pub range_on : seg < 131072 → is_noted 16384 after seg ≡ false → NotedTo first (seg + 1) before (with_note 16384 after seg)
    range_on h e =
        record {
          places = length-note 16384 after seg ∙ n.places;
          none = more h ∙ e;
          noted = λ k l.
              note-more 16384 after seg k (rw n.places (omega arith)) ∙ ap (λ (b : Bool). eqb k seg || b) (n.noted k l)
              ∙ range_more first seg k (is_noted 16384 before k) low;
        }

-- ---- the segs of the subsectors before one

module _ (lump : List ℕ) where
  taken_none : (seg : ℕ) → taken_below lump 0 seg ≡ false
  unfolding taken_below
  taken_none seg = refl

  pub taken_suc : (k seg : ℕ) → taken_below lump (suc k) seg ≡ (taken_below lump k seg || has_seg (subsector_in lump k) seg)
  unfolding taken_below
  taken_suc k seg = refl

  pub nothing_taken : Taken lump 0 (replicate 16384 0)
  nothing_taken =
      record {
        places = length-replicate {A = ℕ} 16384 0;
        noted = λ seg h. note-none 16384 seg (omega arith) ∙ sym (taken_none seg);
      }

  module _ (k : ℕ) (taken : List ℕ) (t : Taken lump k taken) (first end : ℕ) (from : first ≡ (subsector_in lump k).first)
      (to : end ≡ (subsector_in lump k).first + (subsector_in lump k).number) (high : end < 131072) where
    pub taken_again : some_from (is_noted 16384 taken) first (end - first) ≡ takes_again lump k
    taken_again =
        let count : end - first ≡ (subsector_in lump k).number = omega arith in
        some_same (is_noted 16384 taken) (taken_below lump k) first (end - first) (λ i low l. t.noted i (omega arith))
        ∙ (λ i. some_from (taken_below lump k) (from i) (count i))

    pub taken_more : (after : List ℕ) → NotedTo first end taken after → Taken lump (k + 1) after
    taken_more after n =
        record {
          places = n.places;
          noted = λ seg h.
              n.noted seg h ∙ ap (λ (b : Bool). b || (leb first seg && ltb seg end)) (t.noted seg h)
              ∙ (λ i. taken_below lump k seg || (leb (from i) seg && ltb seg (to i)))
              ∙ sym (taken_suc k seg) ∙ ap (λ (n : ℕ). taken_below lump n seg) (sym (add-one k));
        }

    -- the answer on the range is the answer on the subsector
    pub took : (r : Bool) (after : List ℕ) → TookRange first end taken r after → Took lump k r after
    took true after e = sym taken_again ∙ e
    took false after n = (sym taken_again ∙ n.none, taken_more after n)
