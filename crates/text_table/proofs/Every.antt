-- Laws of a test of each number below another. Assumes nothing.
use Prim.Native.Nat.{ℕ, zero, suc, ◌+◌, ◌-◌, ◌≤◌, ◌<◌}
use mathlib.Core.Bool.{Bool, true, false, ◌&&◌, and-false, and-true}
use mathlib.Core.Logic.{⊎_elim}
use mathlib.Core.Path.{◌≡◌, refl, sym, ap, ◌∙◌}
use native.Mathlib.Nat.{eq-or-lt_of_le, le-pred_of_lt}
use native.Mathlib.Numerals.{add-one}
use native.Mathlib.Omega.{arith}
use Rattle.text_table.specs.Names.{every}

module _ (test : ℕ → Bool) where
  every-step : (n : ℕ) → every test (suc n) ≡ (every test n && test n)
  unfolding every
  every-step n = refl

  pub every-none : true ≡ every test 0
  unfolding every
  every-none = refl

  pub every_more : (k : ℕ) → true ≡ every test k → test k ≡ true → true ≡ every test (k + 1)
  every_more k h e =
      h ∙ sym (and-true (every test k)) ∙ ap (λ (b : Bool). every test k && b) (sym e) ∙ sym (ap (every test) (add-one k) ∙ every-step k)

  pub every-stop : (k n : ℕ) → k < n → test k ≡ false → false ≡ every test n
  every-stop k zero h e = absurd (omega arith)
  every-stop k (suc n) h e =
      ⊎_elim
      (λ (q : k ≡ n). sym (and-false (every test n)) ∙ ap (λ (b : Bool). every test n && b) (sym e ∙ ap test q) ∙ sym (every-step n))
      (λ (q : k < n). ap (λ (b : Bool). b && test n) (every-stop k n q e) ∙ sym (every-step n))
      (eq-or-lt_of_le (le-pred_of_lt h))

  pub every-done : (k n : ℕ) → true ≡ every test k → k ≤ n → n ≤ k → true ≡ every test n
  every-done k n h low high = let e : k ≡ n = omega arith in h ∙ ap (every test) e

  -- by the last of some numbers
  every-last : (k : ℕ) {b : Bool} → 0 < k → test (k - 1) ≡ b → every test k ≡ (every test (k - 1) && b)
  every-last k h e =
      let q : k ≡ suc (k - 1) = omega (arith, h) in
      ap (every test) q ∙ every-step (k - 1) ∙ ap (λ (x : Bool). every test (k - 1) && x) e

  pub every-fails : (k : ℕ) → 0 < k → test (k - 1) ≡ false → every test k ≡ false
  every-fails k h e = every-last k h e ∙ and-false (every test (k - 1))

  pub every-passes : (k : ℕ) → 0 < k → test (k - 1) ≡ true → every test k ≡ every test (k - 1)
  every-passes k h e = every-last k h e ∙ and-true (every test (k - 1))

pub every-same : (f g : ℕ → Bool) (n : ℕ) → ((k : ℕ) → k < n → f k ≡ g k) → every f n ≡ every g n
unfolding every
every-same f g zero h = refl
every-same f g (suc n) h = λ i. every-same f g n (λ k l. h k (omega (arith, l))) i && h n (omega arith) i
