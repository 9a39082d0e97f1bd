-- Laws of numbers: one more digit, the cap of what is counted, the bound of fifteen, and what the tests of words say. Assumes nothing.
use Prim.Native.Nat.{ℕ, zero, suc, ◌+◌, ◌-◌, ◌*◌, ◌^◌, ◌≤◌, ◌<◌, min}
use mathlib.Core.Bool.{Bool, true, false, ◌&&◌, ◌||◌, not, and_assoc, and-eq-true_iff}
use mathlib.Core.List.{List}
use mathlib.Core.Path.{◌≡◌, refl, sym, ap, ◌∙◌}
use native.Mathlib.Nat.{mul-le-mul_left, mul-le-mul_right, min-eq_left, min-eq_right, pow-zero, pow-succ', mul_assoc, mul_left_comm, mul-one, pow-le-pow_right}
use native.Mathlib.Omega.{arith}
use borrow.Author.Tests.{leb-true, leb-false, ltb-true, eqb-true}
use lib.Dec.{leb, ltb, eqb}
use lib.IntN.{pos, neg_ℤ}
use lib.ListN.{length, get_or}
use lib.Pow.{pow-add}
use mir.Syntax.{w32}
use mir.Val.{to_z}
use mir.ValLaws.{to_z-neg}
use Rattle.text_byte.specs.Bytes.{within}
use Rattle.text_byte.proofs.Spans.{cond_on}
use Rattle.text_byte.proofs.Bytes.{within-true}
use Rattle.text_value.specs.Numbers.{zero_digit, small_x, decimal_point, digit_of, digits_from, digits_end, hex_end, hex_ok, whole_ok, decimal_ok, decimal_fits}
use Rattle.text_value.specs.Inner.Digits.{is_hex, is_point}

abbrev pub cap : ℕ
cap = 9007199254740992

pub digit_of-small : (b : ℕ) → digit_of b ≤ 15
digit_of-small b =
    cond_on (λ (x : ℕ). x ≤ 15) (within 48 57 b) (λ e. let h = within-true 48 57 b e in omega arith)
    (λ _. cond_on (λ (x : ℕ). x ≤ 15) (within 65 70 b) (λ e. let h = within-true 65 70 b e in omega arith)
    (λ _. cond_on (λ (x : ℕ). x ≤ 15) (within 97 102 b) (λ e. let h = within-true 97 102 b e in omega arith) (λ _. omega arith)))

-- a step of a capped count is the capped step
pub capped_step : (base n d : ℕ) → 0 < base → min (base * min n cap + d) cap ≡ min (base * n + d) cap
capped_step base n d h = by (leb n cap) refl
  where
    by : (b : Bool) → leb n cap ≡ b → min (base * min n cap + d) cap ≡ min (base * n + d) cap
    by true e = ap (λ (x : ℕ). min (base * x + d) cap) (min-eq_left (leb-true n cap e))
    by false e =
        let large : cap ≤ n = omega (arith, leb-false n cap e) in
        let one : 1 * cap ≤ base * cap = mul-le-mul_right cap h in
        let more : base * cap ≤ base * n = mul-le-mul_left base large in
        ap (λ (x : ℕ). min (base * x + d) cap) (min-eq_right large) ∙ omega arith

module _ (word : List ℕ) (base before at : ℕ) where
  pub digits_none : (n : ℕ) → n ≡ 0 → digits_from word base before at n ≡ before
  unfolding digits_from
  digits_none n e = ap (digits_from word base before at) e

  digits_step : (n : ℕ) → digits_from word base before at (suc n) ≡ base * digits_from word base before at n + digit_of (get_or word (at + n) 0)
  unfolding digits_from
  digits_step n = refl

  -- one more digit, at `i`
  pub digits_more : (i : ℕ) {n d r : ℕ} → 0 < base → at ≤ i → n ≡ min (digits_from word base before at (i - at)) cap
      → d ≡ digit_of (get_or word i 0) → r ≡ min (base * n + d) cap → r ≡ min (digits_from word base before at (i + 1 - at)) cap
  digits_more i h low e q t =
      let m = i - at in
      let place : at + m ≡ i = omega arith in
      let count : i + 1 - at ≡ suc m = omega arith in
      t ∙ (λ k. min (base * e k + q k) cap)
      ∙ capped_step base (digits_from word base before at m) (digit_of (get_or word i 0)) h
      ∙ ap (λ (p : ℕ). min (base * digits_from word base before at m + digit_of (get_or word p 0)) cap) (sym place)
      ∙ ap (λ (x : ℕ). min x cap) (sym (digits_step m))
      ∙ ap (λ (x : ℕ). min (digits_from word base before at x) cap) (sym count)

-- decimal digits: below 2 × 10 to the power of their count, with those before them
pub digits_bound : (word : List ℕ) (before at n : ℕ) → digits_from word 10 before at n + 2 ≤ (before + 2) * 10 ^ n
unfolding digits_from
digits_bound word before at zero = rw (pow-zero, mul-one) (omega arith)
digits_bound word before at (suc n) =
    let ih = digits_bound word before at n in
    let small = digit_of-small (get_or word (at + n) 0) in
    rw (pow-succ' 10 n, mul_left_comm (before + 2) 10 (10 ^ n)) (omega arith)

-- up to fifteen of them do not reach the cap
pub fifteen : (word : List ℕ) (at next a f : ℕ) → a + f ≤ 15 → digits_from word 10 (digits_from word 10 0 at a) next f ≤ cap
fifteen word at next a f h =
    let w = digits_from word 10 0 at a in
    let first : w + 2 ≤ 2 * 10 ^ a = digits_bound word 0 at a in
    let all = digits_bound word w next f in
    let times : (w + 2) * 10 ^ f ≤ 2 * 10 ^ a * 10 ^ f = mul-le-mul_right (10 ^ f) first in
    let sum : 2 * 10 ^ a * 10 ^ f ≡ 2 * 10 ^ (a + f) = mul_assoc 2 (10 ^ a) (10 ^ f) ∙ ap (λ (x : ℕ). 2 * x) (sym (pow-add 10 a f)) in
    let most : 10 ^ (a + f) ≤ 10 ^ 15 = pow-le-pow_right (omega arith) h in
    omega arith

-- so that counting with a cap counts them all
pub fifteen_capped : (word : List ℕ) (at next a f : ℕ) {w d : ℕ} → a + f ≤ 15 → w ≡ min (digits_from word 10 0 at a) cap
    → d ≡ min (digits_from word 10 w next f) cap → d ≡ digits_from word 10 (digits_from word 10 0 at a) next f
fifteen_capped word at next a f h e q =
    let first = digits_none word 10 (digits_from word 10 0 at a) next 0 refl in
    let low = fifteen word at next a 0 (omega arith) in
    let whole = e ∙ min-eq_left (omega (arith, first)) in
    q ∙ ap (λ (x : ℕ). min (digits_from word 10 x next f) cap) whole ∙ min-eq_left (fifteen word at next a f h)

pub fits-true : (word : List ℕ) (at point : ℕ) → decimal_fits word at point ≡ true → (length word - at ≤ 16) × (length word - point ≤ 7)
fits-true word at point e =
    let p = (and-eq-true_iff (leb (length word - at) 16) (leb (length word - point) 7)).0 e in
    (leb-true (length word - at) 16 p.0, leb-true (length word - point) 7 p.1)

pub both_below : (a b c : ℕ) → (ltb a b && ltb b c) ≡ true → (a < b) × (b < c)
both_below a b c e =
    let p = (and-eq-true_iff (ltb a b) (ltb b c)).0 e in
    (ltb-true a b p.0, ltb-true b c p.1)

-- the 0x form: its mark, as it was tested, and digits up to the end
pub hex_ok-is : (word : List ℕ) {b : Bool} → is_hex word ≡ b → hex_ok word ≡ (b && eqb (hex_end word 2) (length word))
hex_ok-is word e =
    let all = eqb (hex_end word 2) (length word) in
    sym (and_assoc (eqb (get_or word 0 0) zero_digit && eqb (get_or word 1 0) small_x) (ltb 2 (length word)) all) ∙ ap (◌&& all) e

-- a decimal: its point, as it was tested, and digits up to the end
pub decimal_ok-is : (word : List ℕ) (at point : ℕ) {b : Bool} → is_point word at point ≡ b
    → decimal_ok word at point ≡ (b && eqb (digits_end word (point + 1)) (length word))
decimal_ok-is word at point e =
    let all = eqb (digits_end word (point + 1)) (length word) in
    sym (and_assoc (ltb at point && ltb point (length word)) (eqb (get_or word point 0) decimal_point) all) ∙ ap (◌&& all) e

pub is_point-true : (word : List ℕ) (at point : ℕ) → is_point word at point ≡ true → (at < point) × (point < length word)
is_point-true word at point e =
    both_below at point (length word) ((and-eq-true_iff (ltb at point && ltb point (length word)) (eqb (get_or word point 0) decimal_point)).0 e).0

-- the digits of a whole number end with the word
pub whole_ok-end : (word : List ℕ) (at behind : ℕ) → whole_ok word at behind ≡ true → behind ≡ length word
whole_ok-end word at behind e =
    let all = ltb at (length word) && eqb behind (length word) in
    let p = ((and-eq-true_iff all (not (eqb (get_or word at 0) zero_digit) || eqb (length word) (at + 1))).0 e).0 in
    eqb-true behind (length word) ((and-eq-true_iff (ltb at (length word)) (eqb behind (length word))).0 p).1

-- the machine's complement of one less is the negative
pub to_z_negative : (n : ℕ) → (n ≡ 0 → ⊥) → n ≤ 2147483648 → to_z w32 (4294967295 - (n - 1)) ≡ neg_ℤ (pos n)
to_z_negative zero h k = absurd (h refl)
to_z_negative (suc n) h k =
    let e : 4294967295 - (suc n - 1) ≡ 4294967296 - suc n = omega arith in
    ap (to_z w32) e ∙ to_z-neg w32 n k
