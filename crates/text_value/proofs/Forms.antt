-- Which form a word has, by what was seen of it: 0x, digits up to the end, or a point. Assumes nothing.
use Prim.Native.Nat.{ℕ, ◌-◌, ◌<◌, min}
use mathlib.Core.Bool.{Bool, true, false, ◌&&◌, cond, and-false, and-eq-true_iff}
use mathlib.Core.List.{List}
use mathlib.Core.Path.{◌≡◌, refl, sym, ap, ◌∙◌}
use native.Mathlib.Omega.{arith}
use borrow.Author.Tests.{ltb-true, eqb-true, ne_eqb}
use lib.Dec.{ltb, eqb}
use lib.ListN.{length, get_or}
use Rattle.std.specs.Prelude.{Err}
use Rattle.text_byte.specs.Bytes.{is_digit}
use Rattle.text_byte.proofs.Spans.{span_more, span_stop}
use Rattle.text_value.specs.Numbers.{zero_digit, small_x, minus_sign, digits_from, digits_end, hex_ok, whole_ok, behind_sign}
use Rattle.text_value.specs.Inner.Digits.{is_hex, is_point}
use Rattle.text_value.proofs.Numbers.{cap, hex_ok-is, decimal_ok-is, whole_ok-end}
use Rattle.text_value.specs.declared.Misread.TheVariants.{NoValue}
use Rattle.text_value.specs.Values.{Reading, whole_read, digits_read, number_read}
use Rattle.text_value.specs.Inner.Forms.{hex_read, point_read}
use Rattle.text_value.proofs.Capped.{whole_read_capped}

-- digits from `at` on up to the end, counted with a cap
pub digits_whole : (word : List ℕ) (minus : Bool) (base at : ℕ) {end n : ℕ} {r : Reading} → end ≡ length word
    → n ≡ min (digits_from word base 0 at (end - at)) cap → r ≡ whole_read minus n → r ≡ whole_read minus (digits_from word base 0 at (length word - at))
digits_whole word minus base at e count read =
    read ∙ ap (whole_read minus) (count ∙ ap (λ (k : ℕ). min (digits_from word base 0 at (k - at)) cap) e)
    ∙ whole_read_capped minus (digits_from word base 0 at (length word - at))

-- a whole number or a decimal, by where its digits end
module _ (word : List ℕ) (minus : Bool) (at behind : ℕ) where
  pub whole-form : {n : ℕ} {r : Reading} → whole_ok word at behind ≡ true → n ≡ min (digits_from word 10 0 at (behind - at)) cap
      → r ≡ whole_read minus n → r ≡ digits_read word minus at behind
  whole-form ok count read = simp ok (digits_whole word minus 10 at (whole_ok-end word at behind ok) count read)

  pub point_form : whole_ok word at behind ≡ false → is_point word at behind ≡ true → point_read word minus at behind ≡ digits_read word minus at behind
  point_form whole e = simp (whole, decimal_ok-is word at behind e)

  pub no_form : whole_ok word at behind ≡ false → is_point word at behind ≡ false → Err NoValue ≡ digits_read word minus at behind
  no_form whole e = simp (whole, decimal_ok-is word at behind e)

module _ (word : List ℕ) where
  -- the first bytes of the 0x form
  hex_bytes : is_hex word ≡ true → (get_or word 0 0 ≡ zero_digit) × ((get_or word 1 0 ≡ small_x) × (2 < length word))
  hex_bytes e =
      let p = (and-eq-true_iff (eqb (get_or word 0 0) zero_digit && eqb (get_or word 1 0) small_x) (ltb 2 (length word))).0 e in
      let q = (and-eq-true_iff (eqb (get_or word 0 0) zero_digit) (eqb (get_or word 1 0) small_x)).0 p.0 in
      (eqb-true (get_or word 0 0) zero_digit q.0, (eqb-true (get_or word 1 0) small_x q.1, ltb-true 2 (length word) p.1))

  -- a word that begins with 0x is no other number: its digits end at the x
  hex_alone : is_hex word ≡ true → number_read word ≡ Err NoValue
  hex_alone e =
      let h = hex_bytes e in
      let at : behind_sign (get_or word 0 0) ≡ 0 = ap behind_sign h.0 in
      let ends : digits_end word 0 ≡ 1 =
      span_more (λ i. is_digit (get_or word i 0)) 0 (length word) (omega (arith, h.1.1)) refl (ap is_digit h.0)
      ∙ span_stop (λ i. is_digit (get_or word i 0)) 1 (length word) (omega (arith, h.1.1)) refl (ap is_digit h.1.0) in
      let behind : digits_end word (behind_sign (get_or word 0 0)) ≡ 1 = ap (digits_end word) at ∙ ends in
      let whole : whole_ok word 0 1 ≡ false = simp (ne_eqb 1 (length word) (λ q. omega (arith, q, h.1.1)), and-false) in
      let point : is_point word 0 1 ≡ false = simp (h.1.0, and-false) in
      let minus = eqb (get_or word 0 0) minus_sign in
      (λ i. digits_read word minus (at i) (behind i)) ∙ sym (no_form word minus 0 1 whole point)

  abbrev hex_or : Bool → Reading → Reading
  hex_or ok r = cond ok (whole_read false (digits_from word 16 0 2 (length word - 2))) r

  pub hex_form : is_hex word ≡ true → hex_read word ≡ hex_or (hex_ok word) (number_read word)
  hex_form e = λ i. hex_or (sym (hex_ok-is word e) i) (sym (hex_alone e) i)
