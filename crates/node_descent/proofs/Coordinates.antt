-- Signed numbers of 16 bits, their differences and the products of these, at 64 bits: each fits, and a value that is passed
-- on is the value. Assumes nothing.
use Prim.Native.Nat.{suc, ◌-◌, ◌^◌, ◌≤◌, ◌<◌}
use mathlib.Core.Bool.{Bool}
use mathlib.Core.Path.{◌≡◌, refl, ◌∙◌}
use native.Mathlib.Nat.{le_trans, lt_of_le_of_lt}
use native.Mathlib.Omega.{arith}
use borrow.Author.Tests.{ne_eqb}
use lib.Dec.{eqb, lit<}
use lib.IntN.{ℤ, pos, negsuc, nat_abs, ◌-ℤ◌, ◌*ℤ◌}
use lib.Signed.{mag, le_z}
use mir.Syntax.{Width, w16, w64}
use mir.Val.{to_z, of_z, hbits, SFits}
use mir.ValLaws.{to_z-of_z}
use Rattle.endian.proofs.Magnitude.{mag_nat_abs, nat_abs_mag, nat_abs_sub, mag_mul}
use Rattle.node_descent.specs.Side.{is_zero}

-- a call's result that is read again
pub read_again : (w : Width) {z v : ℤ} → mag z < 2 ^ hbits w → z ≡ v → to_z w (of_z w z) ≡ v
read_again w {z} {v} ok e = to_z-of_z w z (record { sfits = ok }) ∙ e

pub widened : (z : ℤ) → SFits w16 z → SFits w64 z
widened z h = let small : mag z < 32768 = h.sfits in record { sfits = omega arith }

module _ (a b : ℤ) (fa : SFits w16 a) (fb : SFits w16 b) where
  nat_abs_difference : nat_abs (a -ℤ b) ≤ 65537
  nat_abs_difference =
      let la : nat_abs a ≤ 32768 = nat_abs_mag a fa.sfits in
      let lb : nat_abs b ≤ 32768 = nat_abs_mag b fb.sfits in
      omega (arith, nat_abs_sub a b)

  pub difference_fits : SFits w64 (a -ℤ b)
  difference_fits =
      let h = le_trans (mag_nat_abs (a -ℤ b)) nat_abs_difference in
      record { sfits = omega arith }

  pub product_fits : (d : ℤ) → SFits w16 d → SFits w64 ((a -ℤ b) *ℤ d)
  product_fits d fd =
      let ld : nat_abs d ≤ 32768 = nat_abs_mag d fd.sfits in
      record { sfits = lt_of_le_of_lt (mag_mul (a -ℤ b) d nat_abs_difference ld) (lit< tt) }

  -- a product that was computed from values passed on
  pub product_again : (d : ℤ) → SFits w16 d → {z : ℤ} → mag z < 2 ^ hbits w64
      → z ≡ (to_z w16 (of_z w16 a) -ℤ to_z w16 (of_z w16 b)) *ℤ to_z w16 (of_z w16 d) → to_z w64 (of_z w64 z) ≡ (a -ℤ b) *ℤ d
  product_again d fd ok e = read_again w64 ok (rw (to_z-of_z w16 a fa, to_z-of_z w16 b fb, to_z-of_z w16 d fd) at e)

  -- a test of values passed on
  pub le_z_again : {t : Bool} → le_z (to_z w16 (of_z w16 a)) (to_z w16 (of_z w16 b)) ≡ t → le_z a b ≡ t
  le_z_again e = rw (to_z-of_z w16 a fa, to_z-of_z w16 b fb) at e

-- the test of the bits is that of the number
pub is_zero_of_z : (z : ℤ) → SFits w16 z → eqb (of_z w16 z) 0 ≡ is_zero z
is_zero_of_z (pos n) h = refl
is_zero_of_z (negsuc n) h = let small : n < 32768 = h.sfits in ne_eqb (65536 - suc n) 0 (λ e. omega arith)
