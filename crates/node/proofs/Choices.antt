-- Tests and numbers over the two choices: some choice passes, none does, the larger of two. Assumes nothing.
use Prim.Native.Nat.{ℕ, max, ◌≤◌}
use mathlib.Core.Bool.{Bool, true, false, ◌||◌}
use mathlib.Core.Path.{◌≡◌, refl}
use native.Mathlib.Nat.{le-max_left, le-max_right, max-eq_left, max-eq_right}
use native.Mathlib.Decide.{dec_le}
use native.Mathlib.Omega.{arith}
use Rattle.node.specs.declared.Choice.{Choice}
use Rattle.node.specs.declared.Choice.TheVariants.{Right, Left}

module _ (f : Choice → Bool) where
  some-by : (r : Bool) → f Right ≡ r → (r || f Left) ≡ true → (c : Choice) × (f c ≡ true)
  some-by true q e = (Right, q)
  some-by false q e = (Left, e)

  pub some_choice : (f Right || f Left) ≡ true → (c : Choice) × (f c ≡ true)
  some_choice e = some-by (f Right) refl e

  pub choice_some : (c : Choice) → f c ≡ true → (f Right || f Left) ≡ true
  choice_some Right e = rw e
  choice_some Left e = right_by (f Right)
    where
      right_by : (r : Bool) → (r || f Left) ≡ true
      right_by true = refl
      right_by false = e

  none-by : (r : Bool) → f Right ≡ r → (r || f Left) ≡ false → (c : Choice) → f c ≡ false
  none-by true q e c = let z : ◌≡◌ {A = ℕ} 0 1 = cc in absurd (omega arith)
  none-by false q e Right = q
  none-by false q e Left = e

  pub no_choice : (f Right || f Left) ≡ false → (c : Choice) → f c ≡ false
  no_choice e = none-by (f Right) refl e

  pub choice_none : ((c : Choice) → f c ≡ false) → (f Right || f Left) ≡ false
  choice_none h = rw (h Right, h Left)

module _ (f : Choice → ℕ) where
  pub le_larger : (c : Choice) → f c ≤ max (f Right) (f Left)
  le_larger Right = le-max_left (f Right) (f Left)
  le_larger Left = le-max_right (f Right) (f Left)

  pub larger_is : (c : Choice) × (max (f Right) (f Left) ≡ f c)
  larger_is = larger_by (dec_le (f Right) (f Left))
    where
      larger_by : Dec (f Right ≤ f Left) → (c : Choice) × (max (f Right) (f Left) ≡ f c)
      larger_by (yes h) = (Left, max-eq_right h)
      larger_by (no h) = (Right, max-eq_left (omega arith))
