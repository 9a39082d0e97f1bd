-- Which numbers a check can give: a bound on the parts of a row or a scan is a bound on the whole. Assumes nothing.
use Prim.Native.Nat.{ℕ, zero, suc, ◌≤◌, ◌<◌}
use mathlib.Core.Bool.{Bool, true, false}
use mathlib.Core.Path.{◌≡◌, refl, ap}
use native.Mathlib.Omega.{arith}
use Rattle.refusal.specs.declared.Refusal.{Refusal}
use Rattle.refusal.specs.Checks.{Check}
use Rattle.std.specs.Prelude.{Ok, Err}
use Rattle.refusal.specs.Table.{number_of}
use Rattle.refusal.specs.Checks.{unless, ◌and_then◌, each}

-- no refusal of the check has a larger number
abbrev pub AtMost : ℕ → Check → Type 0
AtMost most check = (r : Refusal) → check ≡ Err r → number_of r ≤ most

-- the number of a refused check
abbrev number_in : Check → ℕ
number_in (Ok _) = 0
number_in (Err r) = number_of r

module _ {most : ℕ} where
  pub unless_at_most : (b : Bool) (s : Refusal) → number_of s ≤ most → AtMost most (unless b s)
  unless_at_most true s h r e = let z : ◌≡◌ {A = ℕ} 0 1 = cc in absurd (omega arith)
  unless_at_most false s h r e = rw (ap number_in e) at h

  pub and_then_at_most : (a b : Check) → AtMost most a → AtMost most b → AtMost most (a and_then b)
  and_then_at_most (Ok _) b h k = k
  and_then_at_most (Err s) b h k = h

  pub each_at_most : (f : ℕ → Check) → ((i : ℕ) → AtMost most (f i)) → (n : ℕ) → AtMost most (each f n)
  unfolding each
  each_at_most f h zero r e = let z : ◌≡◌ {A = ℕ} 0 1 = cc in absurd (omega arith)
  each_at_most f h (suc n) r e = and_then_at_most (each f n) (f n) (each_at_most f h n) (h n) r e

-- a refusal with a larger number is the second check's
pub and_then_late : {most : ℕ} (a b : Check) {r : Refusal} → AtMost most a → a and_then b ≡ Err r → most < number_of r
    → (a ≡ Ok tt) × (b ≡ Err r)
and_then_late (Ok _) b h e k = (refl, e)
and_then_late (Err s) b {r} h e k = let p = h s refl in let q : number_of s ≡ number_of r = ap number_in e in absurd (omega arith)

pub at_most_more : {low high : ℕ} (a : Check) → low ≤ high → AtMost low a → AtMost high a
at_most_more a k h r e = let p = h r e in omega arith
