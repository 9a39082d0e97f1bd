-- How large sums, differences and products of signed numbers are: what shows that products of coordinates fit a machine's
-- number. Assumes nothing.
use Prim.Native.Nat.{ℕ, zero, suc, ◌+◌, ◌-◌, ◌*◌, ◌≤◌, ◌<◌}
use mathlib.Core.Bool.{Bool, true, false, cond}
use mathlib.Core.Path.{◌≡◌, refl}
use native.Mathlib.Nat.{le_refl, le_trans, le_of_eq, mul-le-mul}
use native.Mathlib.Omega.{arith}
use lib.Dec.{ltb}
use lib.IntN.{ℤ, pos, negsuc, neg_ℤ, nat_abs, ◌+ℤ◌, ◌-ℤ◌, ◌*ℤ◌}
use lib.Signed.{mag}

pub mag_nat_abs : (z : ℤ) → mag z ≤ nat_abs z
mag_nat_abs (pos n) = le_refl n
mag_nat_abs (negsuc n) = omega arith

pub nat_abs_mag : (z : ℤ) {half : ℕ} → mag z < half → nat_abs z ≤ half
nat_abs_mag (pos n) h = omega arith
nat_abs_mag (negsuc n) h = h

nat_abs_neg : (z : ℤ) → nat_abs (neg_ℤ z) ≡ nat_abs z
nat_abs_neg (pos zero) = refl
nat_abs_neg (pos (suc n)) = refl
nat_abs_neg (negsuc n) = refl

nat_abs_by : (a b : ℕ) (t : Bool) → nat_abs (cond t (negsuc (b - suc a)) (pos (a - b))) ≤ suc (a + b)
nat_abs_by a b true = omega arith
nat_abs_by a b false = omega arith

pub nat_abs_add : (a b : ℤ) → nat_abs (a +ℤ b) ≤ nat_abs a + nat_abs b + 1
nat_abs_add (pos a) (pos b) = omega arith
nat_abs_add (pos a) (negsuc b) = le_trans (nat_abs_by a (suc b) (ltb a (suc b))) (omega arith)
nat_abs_add (negsuc a) (pos b) = le_trans (nat_abs_by b (suc a) (ltb b (suc a))) (omega arith)
nat_abs_add (negsuc a) (negsuc b) = omega arith

pub nat_abs_sub : (a b : ℤ) → nat_abs (a -ℤ b) ≤ nat_abs a + nat_abs b + 1
nat_abs_sub a b = rw (nat_abs_neg b) at (nat_abs_add a (neg_ℤ b))

pub nat_abs_mul : (a b : ℤ) → nat_abs (a *ℤ b) ≡ nat_abs a * nat_abs b
nat_abs_mul (pos a) (pos b) = refl
nat_abs_mul (pos a) (negsuc b) = nat_abs_neg (pos (a * suc b))
nat_abs_mul (negsuc a) (pos b) = nat_abs_neg (pos (suc a * b))
nat_abs_mul (negsuc a) (negsuc b) = refl

-- a product is no larger than the product of what bounds its factors
pub mag_mul : (a b : ℤ) {m n : ℕ} → nat_abs a ≤ m → nat_abs b ≤ n → mag (a *ℤ b) ≤ m * n
mag_mul a b h k = le_trans (mag_nat_abs (a *ℤ b)) (le_trans (le_of_eq (nat_abs_mul a b)) (mul-le-mul h k))
