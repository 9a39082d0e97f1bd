-- Laws of a scan that looks at the next places first: it ends among them, or goes on behind them. Assumes nothing.
use Prim.Native.Nat.{ℕ, zero, suc, ◌+◌, ◌-◌, ◌≤◌, ◌<◌}
use mathlib.Core.Bool.{Bool, cond}
use mathlib.Core.Path.{◌≡◌, sym, ap, ◌∙◌, subst}
use native.Mathlib.Omega.{arith}
use Rattle.text_byte.specs.Spans.{span_end}
use Rattle.text_byte.proofs.Spans.{by_test}

module _ (test : ℕ → Bool) where
  -- one place more, by the test's value there
  next : (n at : ℕ) {b : Bool} → test at ≡ b → span_end test at (suc n) ≡ cond b (span_end test (at + 1) n) at
  unfolding span_end
  next n at e = ap (λ (x : Bool). cond x (span_end test (at + 1) n) at) e

  alike : {at to m n : ℕ} → at ≡ to → m ≡ n → span_end test at m ≡ span_end test to n
  alike p q = λ i. span_end test (p i) (q i)

  none : (at : ℕ) → span_end test at 0 ≡ at
  unfolding span_end
  none at = λ i. at

-- where one of the first `m` places fails, those behind them change nothing
ends_front : (test : ℕ → Bool) (n m at : ℕ) → m ≤ n → span_end test at m < at + m → span_end test at n ≡ span_end test at m
ends_front test n zero at l h = let z = none test at in absurd (omega (arith, h, z))
ends_front test zero (suc m) at l h = absurd (omega (arith, l))
ends_front test (suc n) (suc m) at l h =
    by_test (test at)
    (λ t. let s = subst (λ (x : ℕ). x < at + suc m) (next test m at t) h in
    next test n at t ∙ ends_front test n m (at + 1) (omega (arith, l)) (omega (arith, s)) ∙ sym (next test m at t))
    (λ t. next test n at t ∙ sym (next test m at t))

-- where none of them fails, the scan goes on behind them
passes_front : (test : ℕ → Bool) (n m at : ℕ) → m ≤ n → at + m ≤ span_end test at m → span_end test at n ≡ span_end test (at + m) (n - m)
passes_front test n zero at l h = alike test (omega arith) (omega arith)
passes_front test zero (suc m) at l h = absurd (omega (arith, l))
passes_front test (suc n) (suc m) at l h =
    by_test (test at)
    (λ t. let s = subst (λ (x : ℕ). at + suc m ≤ x) (next test m at t) h in
    next test n at t ∙ passes_front test n m (at + 1) (omega (arith, l)) (omega (arith, s)) ∙ alike test (omega arith) (omega arith))
    (λ t. let s = subst (λ (x : ℕ). at + suc m ≤ x) (next test m at t) h in absurd (omega (arith, s)))

-- of the places from `from` up to `end` those before `near` are looked at first
module _ (test : ℕ → Bool) (from near end : ℕ) where
  span_near : from ≤ near → near ≤ end → span_end test from (near - from) < near → span_end test from (end - from) ≡ span_end test from (near - from)
  span_near a b h = ends_front test (end - from) (near - from) from (omega (arith, a, b)) (omega (arith, a, h))

  span_far : from ≤ near → near ≤ end → near ≤ span_end test from (near - from) → span_end test from (end - from) ≡ span_end test near (end - near)
  span_far a b h =
      passes_front test (end - from) (near - from) from (omega (arith, a, b)) (omega (arith, a, h))
      ∙ alike test (omega (arith, a)) (omega (arith, a, b))

  pub first_near : {to : ℕ} → from ≤ near → near ≤ end → to ≡ span_end test from (near - from) → to < near → to ≡ span_end test from (end - from)
  first_near a b e h = e ∙ sym (span_near a b (subst (λ (x : ℕ). x < near) e h))

  pub first_far : {passed to : ℕ} → from ≤ near → near ≤ end → passed ≡ span_end test from (near - from) → near ≤ passed
      → to ≡ span_end test near (end - near) → to ≡ span_end test from (end - from)
  first_far a b e h f = f ∙ sym (span_far a b (subst (λ (x : ℕ). near ≤ x) e h))
