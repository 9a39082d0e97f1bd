-- A loop over `each`: what it knows at its head, and what that tells of its answers. Assumes nothing.
use Prim.Native.Nat.{ℕ, ◌+◌, ◌≤◌, ◌<◌}
use mathlib.Core.Bool.{Bool, true, false, not}
use mathlib.Core.Path.{◌≡◌, refl, sym, ap, ◌∙◌}
use native.Mathlib.Omega.{arith}
use borrow.Author.Tests.{not-true, not-false}
use Rattle.std.specs.Prelude.{⊤, Result, Ok, Err}
use Rattle.refusal.specs.Checks.{unless, each}
use Rattle.refusal.proofs.Checks.{each_none, each_more, each-stop, each-done}

-- the loop ends at `end`, which is `n`, and the checks before `i` pass
pub record Scanned {E : Type 0} (f : ℕ → Result ⊤ E) (n end i : ℕ) : Type 0 where
  pub ends : end ≡ n
  pub inside : i ≤ end
  pub passes : each f i ≡ Ok tt

pub scanned_none : {E : Type 0} {f : ℕ → Result ⊤ E} {n : ℕ} → Scanned f n n 0
scanned_none {E} {f} = record { ends = refl; inside = omega arith; passes = each_none f }

module _ {E : Type 0} {f : ℕ → Result ⊤ E} {n end i : ℕ} (s : Scanned f n end i) where
  pub scanned_more : {x : Result ⊤ E} → i < end → x ≡ f i → x ≡ Ok tt → Scanned f n end (i + 1)
  scanned_more h q p = record { ends = s.ends; inside = omega arith; passes = each_more f i s.passes q p }

  pub scanned_stop : {x : Result ⊤ E} {r : E} → i < end → x ≡ f i → x ≡ Err r → Err r ≡ each f n
  scanned_stop h q p = each-stop f i n s.passes q p (omega (arith, s.ends))

  -- the same of a loop that goes on by `?`
  pub scanned_passed : i < end → ◌≡◌ {A = Result ⊤ E} (Ok tt) (f i) → Scanned f n end (i + 1)
  scanned_passed h q = scanned_more h q refl

  pub scanned_refused : {r : E} → i < end → ◌≡◌ {A = Result ⊤ E} (Err r) (f i) → ◌≡◌ {A = Result ⊤ E} (Err r) (each f n)
  scanned_refused h q = scanned_stop h q refl

  pub scanned_done : end ≤ i → Ok tt ≡ each f n
  scanned_done h = each-done f i n s.passes (omega (arith, s.ends, s.inside)) (omega (arith, s.ends))

  -- ---- where check `i` is one test

  pub tested_more : {b ok : Bool} (r : E) → i < end → b ≡ ok → not b ≡ false → f i ≡ unless ok r → Scanned f n end (i + 1)
  tested_more {b} r h q t d = scanned_more h (ap (λ (x : Bool). unless x r) q ∙ sym d) (ap (λ (x : Bool). unless x r) (not-false b t))

  pub tested_stop : {b ok : Bool} {r : E} → i < end → b ≡ ok → not b ≡ true → f i ≡ unless ok r → Err r ≡ each f n
  tested_stop {b} {ok} {r} h q t d = scanned_stop h (ap (λ (x : Bool). unless x r) q ∙ sym d) (ap (λ (x : Bool). unless x r) (not-true b t))
