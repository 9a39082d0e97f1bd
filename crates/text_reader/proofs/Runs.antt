-- Laws of a run, step after step: a loop holds what is left of it. Assumes nothing.
use Prim.Native.Nat.{ℕ, zero, suc, ◌+◌, ◌-◌, ◌≤◌, ◌<◌}
use mathlib.Core.Bool.{Bool, true, false, cond}
use mathlib.Core.Path.{◌≡◌, refl, sym, ap, ◌∙◌, subst}
use native.Mathlib.Omega.{arith}
use Rattle.text_byte.proofs.Spans.{cond_on}
use Rattle.text_reader.specs.Runs.{runs}

module _ {S : Type 0} (going : S → Bool) (step : S → S) (at : S → ℕ) (end : ℕ) where
  -- the run from `s` on answers `answer`, with steps enough while it goes on
  pub record Rest (s answer : S) : Type 0 where
    pub most : ℕ
    pub same : runs going step most s ≡ answer
    pub enough : going s ≡ true → (0 < most) × (end < most + at s)

  pub rest-first : (s : S) → Rest s (runs going step (suc end) s)
  rest-first s = record { most = suc end; same = refl; enough = λ _. (omega arith, omega arith) }

  stays : (n : ℕ) {s : S} → going s ≡ false → runs going step n s ≡ s
  unfolding runs
  stays zero e = refl
  stays (suc n) {s} e = ap (λ (b : Bool). cond b (runs going step n (step s)) s) e

  -- where it stops is the answer
  pub rest-done : {s answer : S} → Rest s answer → going s ≡ false → s ≡ answer
  rest-done r e = sym (stays r.most e) ∙ r.same

  -- one step of one that goes on, to a later place inside the text
  pub rest_more : {s answer next : S} → Rest s answer → going s ≡ true → next ≡ step s
      → (going (step s) ≡ true → (at s < at (step s)) × (at (step s) ≤ end)) → Rest next answer
  unfolding runs
  rest_more {s} {answer} {next} r e q h = subst (λ (x : S). Rest x answer) (sym q) (by r.most r.same (r.enough e))
    where
      by : (n : ℕ) → runs going step n s ≡ answer → (0 < n) × (end < n + at s) → Rest (step s) answer
      by zero t k = absurd (omega arith)
      by (suc n) t k = record {
        most = n;
        same = sym (ap (λ (b : Bool). cond b (runs going step n (step s)) s) e) ∙ t;
        enough = λ g. let l = h g in (omega arith, omega arith);
      }

  -- a measure: what is left of the text, while it goes on
  abbrev pub left : S → ℕ
  left s = cond (going s) (suc (end - at s)) 0

  pub left_less : {s next : S} → going s ≡ true → next ≡ step s
      → (going (step s) ≡ true → (at s < at (step s)) × (at (step s) ≤ end)) → left next < left s
  left_less {s} {next} e q h =
      subst (λ (x : S). left x < left s) (sym q)
      (subst (λ (b : Bool). left (step s) < cond b (suc (end - at s)) 0) (sym e)
      (cond_on (λ (n : ℕ). n < suc (end - at s)) (going (step s)) (λ g. let l = h g in omega arith) (λ _. omega arith)))

  -- what holds at the start, and is kept by each step, holds at the end
  pub runs-keep : (P : S → Type 0) → ((s : S) → going s ≡ true → P s → P (step s)) → (n : ℕ) {s : S} → P s → P (runs going step n s)
  unfolding runs
  runs-keep P f zero p = p
  runs-keep P f (suc n) {s} p = cond_on P (going s) (λ e. runs-keep P f n (f s e p)) (λ _. p)

  -- a run whose steps go on to later places inside the text comes to an end
  module _ (onward : (s : S) → going (step s) ≡ true → (at s < at (step s)) × (at (step s) ≤ end)) where
    pub runs-end : (n : ℕ) (s : S) → (going s ≡ true → (0 < n) × (end < n + at s)) → going (runs going step n s) ≡ false
    unfolding runs
    runs-end zero s h = by (going s) refl
      where
        by : (b : Bool) → going s ≡ b → going s ≡ false
        by true e = let k = h e in absurd (omega arith)
        by false e = e
    runs-end (suc n) s h =
        cond_on (λ (x : S). going x ≡ false) (going s)
        (λ e. let k = h e in runs-end n (step s) (λ g. let l = onward s g in (omega arith, omega arith)))
        (λ e. e)

-- a run seen through a map that keeps its steps
cond_map : {A B : Type 0} (f : A → B) (b : Bool) (x y : A) → f (cond b x y) ≡ cond b (f x) (f y)
cond_map f true x y = refl
cond_map f false x y = refl

module _ {S T : Type 0} (going : S → Bool) (step : S → S) (going' : T → Bool) (step' : T → T) (f : S → T)
    (same : (s : S) → going s ≡ going' (f s)) (steps : (s : S) → f (step s) ≡ step' (f s)) where
  pub runs_map : (n : ℕ) (s : S) → f (runs going step n s) ≡ runs going' step' n (f s)
  unfolding runs
  runs_map zero s = refl
  runs_map (suc n) s =
      cond_map f (going s) (runs going step n (step s)) s
      ∙ (λ i. cond (same s i) ((runs_map n (step s) ∙ ap (runs going' step' n) (steps s)) i) (f s))
