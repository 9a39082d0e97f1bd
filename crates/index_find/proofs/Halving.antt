-- The rule of halves: how many it compares, and where it ends over a row of records of which the first are not above.
-- Assumes nothing.
use Prim.Native.Nat.{ℕ, zero, suc, ◌+◌, ◌-◌, ◌*◌, ◌/◌, ◌^◌, ◌≤◌, ◌<◌, zero-le, suc-le-suc}
use mathlib.Core.Bool.{Bool, true, false, cond}
use mathlib.Core.Logic.{◌⊎◌, inl, inr, ⊎_elim}
use mathlib.Core.Path.{◌≡◌, refl}
use native.Mathlib.Omega.{arith}
use borrow.Author.Tests.{ltb-true, ltb-false, eqb-true, eqb-false, eq-eqb}
use lib.Dec.{ltb, eqb}
use Rattle.index_find.specs.Finding.{past_by, compared_by}

under_or_not : (i m : ℕ) → (i < m) ⊎ (m ≤ i)
under_or_not i m = by (ltb i m) refl
  where
    by : (b : Bool) → ltb i m ≡ b → (i < m) ⊎ (m ≤ i)
    by true e = inl (ltb-true i m e)
    by false e = inr (ltb-false i m e)

before_or_after : (i m : ℕ) → (i ≤ m) ⊎ (m + 1 ≤ i)
before_or_after i m =
    ⊎_elim (λ (h : i < m + 1). inl (omega arith)) (λ (h : m + 1 ≤ i). inr h) (under_or_not i (m + 1))

module _ (low : ℕ → Bool) where
  pub past-none : (past left : ℕ) → past_by low 0 past left ≡ past
  unfolding past_by
  past-none past left = refl

  pub past-step : (fuel past left : ℕ) → past_by low (suc fuel) past left
      ≡ cond (eqb left 0) past
      (cond (low (past + left / 2)) (past_by low fuel (past + left / 2 + 1) (left - left / 2 - 1)) (past_by low fuel past (left / 2)))
  unfolding past_by
  past-step fuel past left = refl

  pub compared_none : (past left : ℕ) → compared_by low 0 past left ≡ 0
  unfolding compared_by
  compared_none past left = refl

  pub compared_step : (fuel past left : ℕ) → compared_by low (suc fuel) past left
      ≡ cond (eqb left 0) 0
      (suc (cond (low (past + left / 2)) (compared_by low fuel (past + left / 2 + 1) (left - left / 2 - 1)) (compared_by low fuel past (left / 2))))
  unfolding compared_by
  compared_step fuel past left = refl

  -- ---- each comparison halves what is left

  pub compared_few : (bits fuel past left : ℕ) → left < 2 ^ bits → compared_by low fuel past left ≤ bits
  compared_few bits zero past left h = rw (compared_none past left) zero-le
  compared_few zero (suc fuel) past left h =
      let none : left ≡ 0 = omega arith in
      rw (compared_step fuel past left, eq-eqb left 0 none) zero-le
  compared_few (suc bits) (suc fuel) past left h =
      let e : 2 ^ suc bits ≡ 2 * 2 ^ bits = omega arith in
      let after = compared_few bits fuel (past + left / 2 + 1) (left - left / 2 - 1) (omega arith) in
      let before = compared_few bits fuel past (left / 2) (omega arith) in
      rw (compared_step fuel past left) (by (eqb left 0) (low (past + left / 2)) after before)
    where
      by : (b c : Bool) → compared_by low fuel (past + left / 2 + 1) (left - left / 2 - 1) ≤ bits → compared_by low fuel past (left / 2) ≤ bits
          → cond b 0 (suc (cond c (compared_by low fuel (past + left / 2 + 1) (left - left / 2 - 1)) (compared_by low fuel past (left / 2)))) ≤ suc bits
      by true c p q = zero-le
      by false true p q = suc-le-suc p
      by false false p q = suc-le-suc q

  -- ---- where it ends

  -- of the records from `past` on, `left` of them, those before `r` are not above, and those from it on are
  pub record Ends (past left r : ℕ) : Type 0 where
    pub least : past ≤ r
    pub most : r ≤ past + left
    pub under : (i : ℕ) → past ≤ i → i < r → low i ≡ true
    pub over : (i : ℕ) → r ≤ i → i < past + left → low i ≡ false

  -- a record that is not above has none above before it
  module _ (end : ℕ) (falls : (i j : ℕ) → i < j → j < end → low j ≡ true → low i ≡ true) where
    falls-not : (i j : ℕ) → i ≤ j → j < end → low i ≡ false → low j ≡ false
    falls-not i j h l e = by (low j) refl
      where
        by : (b : Bool) → low j ≡ b → b ≡ false
        by false q = refl
        by true q =
            let same : i ≡ j → ⊥ = λ p. (let z : ◌≡◌ {A = ℕ} 0 1 = cc in omega arith) in
            let up = falls i j (omega arith) l q in
            let z : ◌≡◌ {A = ℕ} 0 1 = cc in absurd (omega arith)

    falls_to : (i j : ℕ) → i ≤ j → j < end → low j ≡ true → low i ≡ true
    falls_to i j h l e = by (low i) refl
      where
        by : (b : Bool) → low i ≡ b → b ≡ true
        by true q = refl
        by false q = let above = falls-not i j h l q in let z : ◌≡◌ {A = ℕ} 0 1 = cc in absurd (omega arith)

    pub past-ends : (fuel past left : ℕ) → left ≤ fuel → past + left ≤ end → Ends past left (past_by low fuel past left)
    past-ends zero past left h room =
        rw (past-none past left)
        (record { least = omega arith; most = omega arith; under = λ i a b. absurd (omega arith); over = λ i a b. absurd (omega arith) })
    past-ends (suc fuel) past left h room =
        rw (past-step fuel past left) (by (eqb left 0) refl (low (past + left / 2)) refl
        (λ n. past-ends fuel (past + left / 2 + 1) (left - left / 2 - 1) (omega arith) (omega arith)) (λ n. past-ends fuel past (left / 2) (omega arith) (omega arith)))
      where
        by : (b : Bool) → eqb left 0 ≡ b → (c : Bool) → low (past + left / 2) ≡ c
            → (0 < left → Ends (past + left / 2 + 1) (left - left / 2 - 1) (past_by low fuel (past + left / 2 + 1) (left - left / 2 - 1)))
            → (0 < left → Ends past (left / 2) (past_by low fuel past (left / 2)))
            → Ends past left (cond b past (cond c (past_by low fuel (past + left / 2 + 1) (left - left / 2 - 1)) (past_by low fuel past (left / 2))))
        by true e c q after before =
            let none = eqb-true left 0 e in
            record { least = omega arith; most = omega arith; under = λ i a b. absurd (omega arith); over = λ i a b. absurd (omega arith) }
        by false e true q after before =
            let some = eqb-false left 0 e in
            let r = after (omega arith) in
            let least = r.least in
            let most = r.most in
            record {
              least = omega arith;
              most = omega arith;
              under = λ i a b.
                  ⊎_elim (λ (n : i ≤ past + left / 2). falls_to i (past + left / 2) n (omega arith) q) (λ (n : past + left / 2 + 1 ≤ i). r.under i n b)
                  (before_or_after i (past + left / 2));
              over = λ i a b. r.over i a (omega arith);
            }
        by false e false q after before =
            let some = eqb-false left 0 e in
            let r = before (omega arith) in
            let least = r.least in
            let most = r.most in
            record {
              least = omega arith;
              most = omega arith;
              under = λ i a b. r.under i a b;
              over = λ i a b.
                  ⊎_elim (λ (n : i < past + left / 2). r.over i a n) (λ (n : past + left / 2 ≤ i). falls-not (past + left / 2) i n (omega arith) q)
                  (under_or_not i (past + left / 2));
            }
