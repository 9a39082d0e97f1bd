-- The characters of a name as bits of one number: a test of all 256 bytes, computed once. Assumes nothing.
use Prim.Native.Nat.{ℕ, zero, suc, ◌-◌, ◌/◌, ◌%◌, ◌^◌, ◌<◌}
use mathlib.Core.Bool.{Bool, true, false, not, ◌&&◌, cond, and-eq-true_iff}
use mathlib.Core.Logic.{⊎_elim}
use mathlib.Core.Path.{◌≡◌, refl, sym}
use native.Mathlib.Nat.{eq-or-lt_of_le, le_of_suc-le-suc, not-suc-le-zero}
use native.Mathlib.Omega.{arith}
use lib.Dec.{ltb, eqb}
use Rattle.name.specs.Names.{character_ok}

-- bit `c - 45` of the table, for bytes from 45 to 95
abbrev pub in_table : ℕ → Bool
in_table c = cond (ltb c 45) false (cond (ltb 95 c) false (eqb (1688849859223545 / 2 ^ (c - 45) % 2) 1))

abbrev alike : Bool → Bool → Bool
alike true b = b
alike false b = not b

alike_same : (a b : Bool) → alike a b ≡ true → a ≡ b
alike_same true b e = sym e
alike_same false true e = let z : ◌≡◌ {A = ℕ} 0 1 = cc in absurd (omega arith)
alike_same false false e = refl

-- the test holds of 0 to `n - 1`
abbrev all_below : ℕ → (ℕ → Bool) → Bool
all_below zero ok = true
all_below (suc n) ok = ok n && all_below n ok

all_below_at : (n : ℕ) (ok : ℕ → Bool) → all_below n ok ≡ true → (i : ℕ) → i < n → ok i ≡ true
all_below_at zero ok e i h = absurd (not-suc-le-zero h)
all_below_at (suc n) ok e i h =
    let two = (and-eq-true_iff (ok n) (all_below n ok)).0 e in
    ⊎_elim (λ (q : i ≡ n). rw q two.0) (λ (l : i < n). all_below_at n ok two.1 i l) (eq-or-lt_of_le (le_of_suc-le-suc h))

all-bytes : all_below 256 (λ c. alike (in_table c) (character_ok c)) ≡ true
all-bytes = refl

pub table_is : (c : ℕ) → c < 256 → in_table c ≡ character_ok c
table_is c h = alike_same (in_table c) (character_ok c) (all_below_at 256 (λ b. alike (in_table b) (character_ok b)) all-bytes c h)
