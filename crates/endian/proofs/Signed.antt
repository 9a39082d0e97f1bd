-- Laws of signed numbers: the definition is the machine's own reading of the bits, bits and number determine each other, and
-- a test on a number that is not negative is a test on its bits. Assumes nothing.
use Prim.Native.Nat.{ℕ, suc, ◌+◌, ◌-◌, ◌^◌, ◌<◌, ◌≤◌}
use mathlib.Core.Bool.{Bool, true, false, ◌&&◌, cond, and-false}
use mathlib.Core.Path.{◌≡◌, refl, sym, ap, ◌∙◌, subst, subst⁻¹}
use native.Mathlib.Omega.{arith}
use borrow.Author.Tests.{lt-ltb, le-ltb, ltb-true, ltb-false, lt-leb}
use lib.Dec.{T, ltb, leb}
use lib.IntN.{ℤ, pos, negsuc, nat_abs}
use lib.Signed.{mag, lt_z, non_neg}
use mir.Syntax.{Width, w8, w16, w32, w64, w128}
use mir.Val.{to_z, of_z, sel, bits, hbits, Fits, SFits}
use mir.ValLaws.{to_z_pos, half_full}
use Rattle.endian.specs.Signed.{signed, bits_of, between, natural}

-- ---- the machine's reading

sel-cond : (b : Bool) (x y : ℤ) → sel b x y ≡ cond b x y
sel-cond true x y = refl
sel-cond false x y = refl

halves : (w : Width) → 2 ^ bits w ≡ 2 ^ hbits w + 2 ^ hbits w
halves w8 = refl
halves w16 = refl
halves w32 = refl
halves w64 = refl
halves w128 = refl

pub to_z_signed : (w : Width) (n : ℕ) → to_z w n ≡ signed (2 ^ hbits w) n
to_z_signed w n = rw (← halves w) (sel-cond (ltb n (2 ^ hbits w)) (pos n) (negsuc (2 ^ bits w - suc n)))

pub of_z_bits_of : (w : Width) (z : ℤ) → of_z w z ≡ bits_of (2 ^ hbits w) z
of_z_bits_of w (pos n) = refl
of_z_bits_of w (negsuc n) = ap (λ (k : ℕ). k - suc n) (halves w)

-- ---- bits and number determine each other

pub signed_low : (half n : ℕ) → n < half → signed half n ≡ pos n
signed_low half n h = rw (lt-ltb n half h)

pub signed_high : (half n : ℕ) → half ≤ n → signed half n ≡ negsuc (half + half - suc n)
signed_high half n h = rw (le-ltb n half h)

bits-signed-by : (half n : ℕ) → n < half + half → (b : Bool) → bits_of half (cond b (pos n) (negsuc (half + half - suc n))) ≡ n
bits-signed-by half n h true = refl
bits-signed-by half n h false = omega arith

pub bits-signed : (half n : ℕ) → n < half + half → bits_of half (signed half n) ≡ n
bits-signed half n h = bits-signed-by half n h (ltb n half)

pub signed-bits : (half : ℕ) (z : ℤ) → mag z < half → signed half (bits_of half z) ≡ z
signed-bits half (pos n) h = signed_low half n h
signed-bits half (negsuc n) h =
    let high : half ≤ half + half - suc n = omega arith in
    let back : half + half - suc (half + half - suc n) ≡ n = omega arith in
    signed_high half (half + half - suc n) high ∙ ap negsuc back

-- ---- what a signed number is where it is tested for a range

between-by : (half n least most : ℕ) → most < half → (b : Bool) → ltb n half ≡ b
    → between (cond b (pos n) (negsuc (half + half - suc n))) least most ≡ (leb least n && leb n most)
between-by half n least most h true e = refl
between-by half n least most h false e =
    let l : half ≤ n = ltb-false n half e in
    let k : most < n = omega arith in
    rw (lt-leb n most k) (sym (and-false (leb least n)))

pub between-signed : (half n least most : ℕ) → most < half → between (signed half n) least most ≡ (leb least n && leb n most)
between-signed half n least most h = between-by half n least most h (ltb n half) refl

pub natural-signed : (half n : ℕ) → n < half → natural (signed half n) ≡ n
natural-signed half n h = ap natural (signed_low half n h)

pub natural_negative : (half n : ℕ) → half ≤ n → natural (signed half n) ≡ 0
natural_negative half n h = ap natural (signed_high half n h)

-- ---- the bits of a number through its complement, as the code computes them

-- the complement of a negative number's bits
pub record Complement (w : Width) (z : ℤ) : Type 0 where
  pub less : ℕ
  pub is : z ≡ negsuc less
  pub small : less < 2 ^ hbits w
  pub reads : to_z w ((2 ^ bits w - 1) - of_z w z) ≡ pos less

pub complement : (w : Width) (z : ℤ) → SFits w z → lt_z z (pos 0) ≡ true → Complement w z
complement w (pos n) f e = let l : n < 0 = ltb-true n 0 e in absurd (omega arith)
complement w (negsuc n) f e =
    let s : n < 2 ^ hbits w = f.sfits in
    let t : n < 2 ^ bits w = half_full w s in
    let back : (2 ^ bits w - 1) - (2 ^ bits w - suc n) ≡ n = omega arith in
    record { less = n; is = refl; small = s; reads = ap (to_z w) back ∙ to_z_pos w n s }

pub natural_cast : (w : Width) {x : ℤ} {n : ℕ} → x ≡ pos n → n < 2 ^ hbits w → T (non_neg x) × Fits w (nat_abs x)
natural_cast w {x} {n} e h =
    subst⁻¹ (λ (y : ℤ). T (non_neg y) × Fits w (nat_abs y)) e (tt, record { fits = half_full w h })

-- a number that is not negative is its own bits
pub record NotNegative (w : Width) (z : ℤ) : Type 0 where
  pub count : ℕ
  pub is : z ≡ pos count
  pub small : count < 2 ^ hbits w
  pub reads : to_z w (of_z w z) ≡ pos count

pub not_negative : (w : Width) (z : ℤ) → SFits w z → lt_z z (pos 0) ≡ false → NotNegative w z
not_negative w (pos n) f e = record { count = n; is = refl; small = f.sfits; reads = to_z_pos w n f.sfits }
not_negative w (negsuc n) f e = absurd (subst (λ (b : Bool). T b) e tt)
