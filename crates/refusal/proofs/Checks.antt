-- Laws of checks in a row: what an early return and a loop over `each` have to show, once for all layers.
-- Assumes nothing.
use Prim.Native.Nat.{ℕ, zero, suc, ◌+◌, ◌≤◌, ◌<◌}
use mathlib.Core.Bool.{Bool, true, false, ◌&&◌, and-eq-true_iff}
use mathlib.Core.Path.{◌≡◌, refl, sym, ap, ◌∙◌}
use native.Mathlib.Numerals.{add-one}
use mathlib.Core.Logic.{⊎_elim}
use native.Mathlib.Nat.{not-suc-le-zero, le_of_suc-le-suc, eq-or-lt_of_le}
use native.Mathlib.Omega.{arith}
use Rattle.refusal.specs.declared.Refusal.{Refusal}
use Rattle.refusal.specs.Checks.{Check}
use Rattle.std.specs.Prelude.{⊤, Result, Ok, Err}
use Rattle.refusal.specs.Checks.{unless, ◌and_then◌, each}

-- ---- tests

-- a test is not both
pub not_both : (b : Bool) → b ≡ true → b ≡ false → ⊥
not_both b t f = let z : ◌≡◌ {A = ℕ} 0 1 = cc in omega arith

-- two tests that hold together are the same
pub same_test : (a b : Bool) → (a ≡ true → b ≡ true) → (b ≡ true → a ≡ true) → a ≡ b
same_test true b f g = sym (f refl)
same_test false true f g = g refl
same_test false false f g = refl

-- ---- a row

-- both of two tests that hold together
pub both : (a b : Bool) → (a && b) ≡ true → (a ≡ true) × (b ≡ true)
both a b e = (and-eq-true_iff a b).0 e

pub unless_pass : {E : Type 0} (b : Bool) (e : E) → unless b e ≡ Ok tt → b ≡ true
unless_pass true e p = refl
unless_pass false e p = let z : ◌≡◌ {A = ℕ} 0 1 = cc in absurd (omega arith)

pub unless-refused : {E : Type 0} (b : Bool) (e : E) {e' : E} → unless b e ≡ Err e' → b ≡ false
unless-refused true e p = let z : ◌≡◌ {A = ℕ} 0 1 = cc in absurd (omega arith)
unless-refused false e p = refl

pub refused-then : {E : Type 0} {a : Result ⊤ E} {e : E} (y : Result ⊤ E) → a ≡ Err e → Err e ≡ a and_then y
refused-then {E} y q = sym (ap (λ (a : Result ⊤ E). a and_then y) q)

pub pass_then : {E : Type 0} {a x y : Result ⊤ E} → a ≡ Ok tt → x ≡ y → x ≡ a and_then y
pass_then {E} {a} {x} {y} p q = q ∙ sym (ap (λ (a : Result ⊤ E). a and_then y) p)

-- a check that passes changes nothing after another
pub before_pass : (a : Check) → a ≡ a and_then Ok tt
before_pass (Ok _) = refl
before_pass (Err r) = refl

pub and_then_pass : {E : Type 0} (a b : Result ⊤ E) → a and_then b ≡ Ok tt → (a ≡ Ok tt) × (b ≡ Ok tt)
and_then_pass (Ok _) b p = (refl, p)
and_then_pass (Err e) b p = let z : ◌≡◌ {A = ℕ} 0 1 = cc in absurd (omega arith)

-- the refusal of a refused check
abbrev refusal_in : Refusal → Check → Refusal
refusal_in r (Ok _) = r
refusal_in r (Err s) = s

pub refused-same : {r s : Refusal} → ◌≡◌ {A = Check} (Err r) (Err s) → r ≡ s
refused-same {r} e = ap (refusal_in r) e

pub unless-named : (b : Bool) (r : Refusal) {s : Refusal} → unless b r ≡ Err s → r ≡ s
unless-named true r e = let z : ◌≡◌ {A = ℕ} 0 1 = cc in absurd (omega arith)
unless-named false r e = refused-same e

-- a row is refused by its first check or by its second
pub and_then_by : {E X : Type 0} (a b : Result ⊤ E) {e : E} → a and_then b ≡ Err e → (a ≡ Err e → X) → (b ≡ Err e → X) → X
and_then_by (Ok _) b p first second = second p
and_then_by (Err e') b p first second = first p

-- ---- a scan

module _ {E : Type 0} (f : ℕ → Result ⊤ E) where
  pub each_none : each f 0 ≡ Ok tt
  unfolding each
  each_none = refl

  each-suc : (n : ℕ) → each f (suc n) ≡ each f n and_then f n
  unfolding each
  each-suc n = refl

  pub each_more : (i : ℕ) {x : Result ⊤ E} → each f i ≡ Ok tt → x ≡ f i → x ≡ Ok tt → each f (i + 1) ≡ Ok tt
  each_more i e q p = rw (add-one i, each-suc i, e) (sym q ∙ p)

  -- checks that all pass
  pub each_all : (n : ℕ) → ((i : ℕ) → i < n → f i ≡ Ok tt) → each f n ≡ Ok tt
  each_all zero h = each_none
  each_all (suc n) h = rw (each-suc n, each_all n (λ i l. h i (omega arith))) (h n (omega arith))

  each-refused : (n : ℕ) {r : E} → each f n ≡ Err r → each f (suc n) ≡ Err r
  each-refused n e = rw (each-suc n, e)

  -- a refusal among the first stays the answer, however many follow
  pub each-kept : (i n : ℕ) {r : E} → each f i ≡ Err r → i ≤ n → each f n ≡ Err r
  each-kept i zero e h = let z : i ≡ 0 = omega arith in rw z at e
  each-kept i (suc n) {r} e h =
      ⊎_elim
      (λ (q : i ≡ suc n). rw q at e)
      (λ (l : i < suc n). each-refused n (each-kept i n e (le_of_suc-le-suc l)))
      (eq-or-lt_of_le h)

  pub each-stop : (i n : ℕ) {x : Result ⊤ E} {r : E}
      → each f i ≡ Ok tt → x ≡ f i → x ≡ Err r → i < n → Err r ≡ each f n
  each-stop i n {x} {r} e q p h = sym (each-kept (suc i) n (rw (each-suc i, e) (sym q ∙ p)) h)

  pub each-done : (i n : ℕ) → each f i ≡ Ok tt → i ≤ n → n ≤ i → Ok tt ≡ each f n
  each-done i n e h k = let q : i ≡ n = omega arith in sym (rw q at e)

  -- a scan that passes says that each of its checks passes
  pub each_pass : (n : ℕ) → each f n ≡ Ok tt → (i : ℕ) → i < n → f i ≡ Ok tt
  each_pass zero e i h = absurd (not-suc-le-zero h)
  each_pass (suc n) e i h =
      let both = and_then_pass (each f n) (f n) (sym (each-suc n) ∙ e) in
      ⊎_elim (λ (q : i ≡ n). rw q both.1) (λ (l : i < n). each_pass n both.0 i l) (eq-or-lt_of_le (le_of_suc-le-suc h))

  -- a scan that is refused is refused by one of its checks
  pub each-by : (n : ℕ) {r : E} → each f n ≡ Err r → (i : ℕ) × ((i < n) × (f i ≡ Err r))
  each-by zero e = let z : ◌≡◌ {A = ℕ} 0 1 = (let p = each_none in cc) in absurd (omega arith)
  each-by (suc n) {r} e =
      and_then_by {X = (i : ℕ) × ((i < suc n) × (f i ≡ Err r))} (each f n) (f n) (sym (each-suc n) ∙ e)
      (λ q. let (i, (h, t)) = each-by n q in (i, (omega arith, t)))
      (λ q. (n, (omega arith, q)))
