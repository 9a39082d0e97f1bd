-- Laws of the scans over places: one place more, a stop, the end, how far one reaches, and what it passes. Assumes nothing.
use Prim.Native.Nat.{ℕ, zero, suc, ◌+◌, ◌-◌, ◌≤◌, ◌<◌, max}
use mathlib.Core.Bool.{Bool, true, false, ◌||◌, cond, true≢false}
use mathlib.Core.Path.{◌≡◌, refl, sym, ap, ◌∙◌, subst}
use native.Mathlib.Omega.{arith}
use borrow.Author.Tests.{ltb-true, ltb-false}
use lib.Dec.{ltb}
use Rattle.text_byte.specs.Spans.{span_end}

-- `n` places left, of which one is inside
pub left : (at end : ℕ) → at < end → end - at ≡ suc (end - (at + 1))
left at end h = omega arith

-- none left
pub none : (at end : ℕ) → end ≤ at → end - at ≡ 0
none at end h = omega arith

-- one place more, by the test's value there
pub step : (test : ℕ → Bool) (at n : ℕ) {b : Bool} → test at ≡ b → span_end test at (suc n) ≡ cond b (span_end test (at + 1) n) at
unfolding span_end
step test at n e = ap (λ (x : Bool). cond x (span_end test (at + 1) n) at) e

module _ (test : ℕ → Bool) (at end : ℕ) where
  nothing : span_end test at 0 ≡ at
  unfolding span_end
  nothing = refl

  pub span_more : {b : Bool} → at < end → b ≡ test at → b ≡ true → span_end test at (end - at) ≡ span_end test (at + 1) (end - (at + 1))
  span_more h e t = ap (span_end test at) (left at end h) ∙ step test at (end - (at + 1)) (sym e ∙ t)

  pub span_stop : {b : Bool} → at < end → b ≡ test at → b ≡ false → span_end test at (end - at) ≡ at
  span_stop h e t = ap (span_end test at) (left at end h) ∙ step test at (end - (at + 1)) (sym e ∙ t)

  pub span_done : end ≤ at → span_end test at (end - at) ≡ at
  span_done h = ap (span_end test at) (none at end h) ∙ nothing

-- what holds of both, each under its test, holds of the choice
pub cond_on : {A : Type 0} (P : A → Type 0) (b : Bool) {x y : A} → (b ≡ true → P x) → (b ≡ false → P y) → P (cond b x y)
cond_on P true f g = f refl
cond_on P false f g = g refl

-- `to` is one of the places from `at` on, or the place behind `n` of them
abbrev pub Reach : ℕ → ℕ → ℕ → Type 0
Reach at n to = (at ≤ to) × (to ≤ at + n)

pub reach_step : (at n : ℕ) {to : ℕ} → Reach (at + 1) n to → Reach at (suc n) to
reach_step at n r = (omega arith, omega arith)

pub span_reach : (test : ℕ → Bool) (at n : ℕ) → Reach at n (span_end test at n)
unfolding span_end
span_reach test at zero = (omega arith, omega arith)
span_reach test at (suc n) =
    let r = span_reach test (at + 1) n in
    cond_on (Reach at (suc n)) (test at) (λ _. reach_step at n r) (λ _. (omega arith, omega arith))

-- by a test's two values
pub by_test : (b : Bool) {G : Type 0} → (b ≡ true → G) → (b ≡ false → G) → G
by_test true f g = f refl
by_test false f g = g refl

-- a span that ends before the last place ends where the test fails
pub span_stops : (test : ℕ → Bool) (n at : ℕ) → span_end test at n < at + n → test (span_end test at n) ≡ false
unfolding span_end
span_stops test zero at h = absurd (omega (arith, h))
span_stops test (suc n) at h =
    cond_on (λ (x : ℕ). x < at + suc n → test x ≡ false) (test at) (λ _ l. span_stops test n (at + 1) (omega (arith, l))) (λ e _. e) h

-- where a loop over the places ends that leaves the span's end as it is
pub span_exit : (test : ℕ → Bool) (from at end : ℕ) → span_end test from (end - from) ≡ span_end test at (end - at) → end ≤ at → (from ≤ end → at ≤ end)
    → at ≡ max from end
span_exit test from at end same low high =
    by_test (ltb from end)
    (λ e. let l = ltb-true from end e in let h = high (omega (arith, l)) in omega (arith, l, h, low))
    (λ e. let l = ltb-false from end e in
    let here = sym (span_done test from end l) ∙ same ∙ span_done test at end low in
    omega (arith, l, here))

-- each place that is passed over passes the test
pub span_passes : (test : ℕ → Bool) (n at j : ℕ) → at ≤ j → j < span_end test at n → test j ≡ true
unfolding span_end
span_passes test zero at j h k = absurd (omega (arith, h, k))
span_passes test (suc n) at j h k =
    by_test (test at)
    (λ t. by_test (ltb at j)
    (λ l. let o = ltb-true at j l in span_passes test n (at + 1) j (omega arith) (subst (λ (x : ℕ). j < x) (step test at n t) k))
    (λ l. let o = ltb-false at j l in let here : at ≡ j = omega arith in subst (λ (x : ℕ). test x ≡ true) here t))
    (λ t. absurd (omega (arith, h, subst (λ (x : ℕ). j < x) (step test at n t) k)))

-- where all pass, it ends behind them
pub span_all : (test : ℕ → Bool) (n at : ℕ) → ((j : ℕ) → at ≤ j → j < at + n → test j ≡ true) → span_end test at n ≡ at + n
unfolding span_end
span_all test zero at f = omega arith
span_all test (suc n) at f =
    step test at n (f at (omega arith) (omega arith))
    ∙ span_all test n (at + 1) (λ (j : ℕ) (a : at + 1 ≤ j) (b : j < at + 1 + n). f j (omega arith) (omega arith)) ∙ omega arith

-- where place `at + i` is the first to fail, it ends there
pub span_found : (test : ℕ → Bool) (n at i : ℕ) → ((k : ℕ) → k < i → test (at + k) ≡ true) → i < n → test (at + i) ≡ false
    → span_end test at n ≡ at + i
unfolding span_end
span_found test zero at i f h e = absurd (omega (arith, h))
span_found test (suc n) at zero f h e = let here : at + 0 ≡ at = omega arith in step test at n (ap test (sym here) ∙ e) ∙ sym here
span_found test (suc n) at (suc i) f h e =
    let here : at ≡ at + 0 = omega arith in
    let onward : (k : ℕ) → at + 1 + k ≡ at + suc k = λ k. omega arith in
    step test at n (ap test here ∙ f 0 (omega arith))
    ∙ span_found test n (at + 1) i (λ k l. ap test (onward k) ∙ f (suc k) (omega arith)) (omega (arith, h)) (ap test (onward i) ∙ e) ∙ onward i

-- by a wider test it ends at the same place, if that fails it
pub span_wider : (test wider : ℕ → Bool) → ((j : ℕ) → test j ≡ true → wider j ≡ true) → (n at : ℕ) → wider (span_end test at n) ≡ false
    → span_end wider at n ≡ span_end test at n
unfolding span_end
span_wider test wider w zero at e = refl
span_wider test wider w (suc n) at e =
    by_test (test at)
    (λ t. step wider at n (w at t)
    ∙ span_wider test wider w n (at + 1) (subst (λ (x : ℕ). wider x ≡ false) (step test at n t) e) ∙ sym (step test at n t))
    (λ t. step wider at n (subst (λ (x : ℕ). wider x ≡ false) (step test at n t) e) ∙ sym (step test at n t))

pub neither : (x y : Bool) → (x || y) ≡ false → (x ≡ false) × (y ≡ false)
neither true y e = absurd (true≢false e)
neither false y e = (refl, e)
