-- Laws of the count of nodes that the search has not met yet. Assumes nothing.
use Prim.Native.Nat.{ℕ, zero, suc, ◌<◌}
use mathlib.Core.Bool.{Bool, true, false, cond}
use mathlib.Core.Logic.{◌⊎◌, inl, inr, ⊎_elim}
use mathlib.Core.Path.{◌≡◌, refl, sym, ap, ◌∙◌}
use native.Mathlib.Decide.{ℕ_discrete}
use native.Mathlib.Nat.{not-suc-le-zero, le_of_suc-le-suc, le_step, le_refl, eq-or-lt_of_le}
use native.Mathlib.Omega.{arith}
use borrow.Author.Tests.{eq-eqb, ne_eqb}
use lib.Dec.{eqb}
use Rattle.node_graph.specs.Searching.{unmet}

-- two numbers are the same or not
pub same_or_not : (i j : ℕ) → (i ≡ j) ⊎ (i ≡ j → ⊥)
same_or_not i j = by (ℕ_discrete i j)
  where
    by : Dec (i ≡ j) → (i ≡ j) ⊎ (i ≡ j → ⊥)
    by (yes e) = inl e
    by (no n) = inr n

unmet-more : (mark : ℕ → ℕ) (n : ℕ) → unmet mark (suc n) ≡ cond (eqb (mark n) 0) (suc (unmet mark n)) (unmet mark n)
unfolding unmet
unmet-more mark n = refl

unmet-none : (mark : ℕ → ℕ) → unmet mark 0 ≡ 0
unfolding unmet
unmet-none mark = refl

-- as long as no mark is met yet, all are counted
pub unmet-all : (mark : ℕ → ℕ) (n : ℕ) → ((i : ℕ) → i < n → mark i ≡ 0) → unmet mark n ≡ n
unmet-all mark zero all = unmet-none mark
unmet-all mark (suc n) all =
    rw (unmet-more mark n, eq-eqb (mark n) 0 (all n (le_refl (suc n))))
    (ap suc (unmet-all mark n (λ i h. all i (le_step h))))

-- a node that is not met yet is counted
pub unmet-some : (mark : ℕ → ℕ) (v : ℕ) → mark v ≡ 0 → (n : ℕ) → v < n → 0 < unmet mark n
unmet-some mark v new zero h = absurd (not-suc-le-zero h)
unmet-some mark v new (suc n) h =
    ⊎_elim
    (λ (e : v ≡ n). let zeroed : mark n ≡ 0 = rw e at new in rw (unmet-more mark n, eq-eqb (mark n) 0 zeroed) (omega arith))
    (λ (l : v < n). rw (unmet-more mark n) (more (eqb (mark n) 0) (unmet mark n) (unmet-some mark v new n l)))
    (eq-or-lt_of_le (le_of_suc-le-suc h))
  where
    more : (b : Bool) (k : ℕ) → 0 < k → 0 < cond b (suc k) k
    more true k l = omega arith
    more false k l = l

module _ (mark next : ℕ → ℕ) where
  -- the count goes by which marks are 0
  pub unmet-same : (n : ℕ) → ((i : ℕ) → i < n → eqb (next i) 0 ≡ eqb (mark i) 0) → unmet next n ≡ unmet mark n
  unmet-same zero same = unmet-none next ∙ sym (unmet-none mark)
  unmet-same (suc n) same =
      let before = unmet-same n (λ i h. same i (le_step h)) in
      rw (unmet-more mark n, unmet-more next n, same n (le_refl (suc n)), before)

  module _ (v : ℕ) (new : mark v ≡ 0) (put : next v ≡ 0 → ⊥) where
    less_by : (n : ℕ) (b : Bool) → unmet mark n ≡ suc (unmet next n)
        → cond b (suc (unmet mark n)) (unmet mark n) ≡ suc (cond b (suc (unmet next n)) (unmet next n))
    less_by n true e = ap suc e
    less_by n false e = e

    -- a node that is met is counted no more
    pub unmet_less : (n : ℕ) → v < n → ((i : ℕ) → i < n → (i ≡ v → ⊥) → next i ≡ mark i)
        → unmet mark n ≡ suc (unmet next n)
    unmet_less zero h other = absurd (not-suc-le-zero h)
    unmet_less (suc n) h other =
        ⊎_elim
        (λ (e : v ≡ n).
        let zeroed : mark n ≡ 0 = rw e at new in
        let kept : next n ≡ 0 → ⊥ = rw e at put in
        let before = unmet-same n (λ i l. ap (λ (m : ℕ). eqb m 0) (other i (le_step l) (λ q. omega arith))) in
        rw (unmet-more mark n, unmet-more next n, eq-eqb (mark n) 0 zeroed, ne_eqb (next n) 0 kept, before))
        (λ (l : v < n).
        let before = unmet_less n l (λ i k. other i (le_step k)) in
        let same = other n (le_refl (suc n)) (λ q. omega arith) in
        rw (unmet-more mark n, unmet-more next n, same) (less_by n (eqb (mark n) 0) before))
        (eq-or-lt_of_le (le_of_suc-le-suc h))
