-- The case of letters in identifiers and keywords changes nothing. Assumes nothing.
use Prim.Native.Nat.{ℕ, zero, suc, ◌-◌, ◌<◌}
use mathlib.Core.Bool.{Bool, true, false, not, ◌&&◌, ◌||◌, cond, and-false, and-eq-true_iff}
use mathlib.Core.List.{List}
use mathlib.Core.Path.{◌≡◌, refl, sym, ap, ◌∙◌, subst}
use native.Mathlib.Omega.{arith}
use borrow.Author.Tests.{eqb-true, ne_eqb, lt-leb, ltb-true, ltb-false}
use lib.Dec.{eqb, ltb, leb}
use lib.ListN.{get_or, length}
use Rattle.std.specs.Prelude.{Err, position}
use Rattle.text_byte.specs.Bytes.{within, is_digit, is_letter, is_name_byte}
use Rattle.text_byte.specs.Spans.{span_end}
use Rattle.text_byte.proofs.Bytes.{within-true, either}
use Rattle.text_byte.proofs.Spans.{span_stop, span_done}
use Rattle.text_value.specs.declared.Misread.TheVariants.{NoValue}
use Rattle.text_value.specs.Numbers.{zero_digit, plus_sign, minus_sign, digits_from, digits_end, hex_ok, hex_end, small_x, behind_sign}
use Rattle.text_value.specs.Values.{Reading, is_true, is_false, whole_read, digits_read, number_read, word_read}
use Rattle.text_table.specs.declared.scope.Scope.{Scope}
use Rattle.text_table.specs.Table.{Row, kind_names, fields_of}
use Rattle.text_table.specs.Names.{every, is_name, field_named, kind_named}
use Rattle.text_table.specs.Scopes.{scope_of}
use Rattle.text_name.specs.Identifiers.{identifier_ok}
use Rattle.theorem_text.specs.Tokens.{SameLetters}
use Rattle.theorem_text.proofs.Readings.{cond_both, SameReading, same_flag, same_none}

-- the same name of the table
module _ {v w : List ℕ} (s : SameLetters v w) where
  is_name_lem : (name : List ℕ) → is_name v false name ≡ is_name w false name
  is_name_lem name = λ j. eqb (s.long j) (length name) && every (λ k. eqb (s.letters k j) (get_or name k 0)) (s.long j)

  pub field-named : (scope : Scope) → field_named scope v ≡ field_named scope w
  field-named scope = λ j. position (λ (r : Row). is_name_lem r.name j) (fields_of scope)

  pub kind-named : kind_named v ≡ kind_named w
  kind-named = λ j. scope_of (position (λ (n : List ℕ). is_name_lem n j) kind_names)

  pub true_same : is_true v ≡ is_true w
  true_same = λ j. (eqb (s.long j) 4 && eqb (s.letters 0 j) 116) && (eqb (s.letters 1 j) 114 && (eqb (s.letters 2 j) 117 && eqb (s.letters 3 j) 101))

  pub false_same : is_false v ≡ is_false w
  false_same =
      λ j. (eqb (s.long j) 5 && eqb (s.letters 0 j) 102)
      && (eqb (s.letters 1 j) 97 && (eqb (s.letters 2 j) 108 && (eqb (s.letters 3 j) 115 && eqb (s.letters 4 j) 101)))

-- a letter is no digit and no sign
letter_high : (b : ℕ) → is_letter b ≡ true → 64 < b
letter_high b e =
    either (within 65 90 b || within 97 122 b) (eqb b 95) e
    (λ h. either (within 65 90 b) (within 97 122 b) h (λ k. let p = within-true 65 90 b k in omega (arith, p.0)) (λ k. let p = within-true 97 122 b k in omega (arith, p.0)))
    (λ h. let p = eqb-true b 95 h in omega (arith, p))

-- no digit at all is no whole number
none-whole : (n : ℕ) (r : Bool) → ((ltb 0 n && eqb 0 n) && r) ≡ false
none-whole zero r = refl
none-whole (suc n) r = ap (λ (x : Bool). (ltb 0 (suc n) && x) && r) (ne_eqb 0 (suc n) (λ e. omega (arith, e))) ∙ ap (λ (x : Bool). x && r) (and-false (ltb 0 (suc n)))

-- a word that begins with a letter is no number
module _ (v : List ℕ) (h : 64 < get_or v 0 0) where
  no_digit : is_digit (get_or v 0 0) ≡ false
  no_digit = ap (λ (x : Bool). leb 48 (get_or v 0 0) && x) (lt-leb (get_or v 0 0) 57 (omega (arith, h))) ∙ and-false (leb 48 (get_or v 0 0))

  no_hex : hex_ok v ≡ false
  no_hex = ap (λ (x : Bool). (x && eqb (get_or v 1 0) small_x) && (ltb 2 (length v) && eqb (hex_end v 2) (length v))) (ne_eqb (get_or v 0 0) zero_digit (λ e. omega (arith, e, h)))

  no_sign : behind_sign (get_or v 0 0) ≡ 0
  no_sign =
      λ j. cond (ne_eqb (get_or v 0 0) plus_sign (λ e. omega (arith, e, h)) j || ne_eqb (get_or v 0 0) minus_sign (λ e. omega (arith, e, h)) j) 1 0

  no_digits : digits_end v 0 ≡ 0
  no_digits = by (ltb 0 (length v)) refl
    where
      by : (x : Bool) → ltb 0 (length v) ≡ x → digits_end v 0 ≡ 0
      by true e = span_stop (λ i. is_digit (get_or v i 0)) 0 (length v) (ltb-true 0 (length v) e) refl no_digit
      by false e = span_done (λ i. is_digit (get_or v i 0)) 0 (length v) (ltb-false 0 (length v) e)

  no_number : number_read v ≡ Err NoValue
  no_number =
      let minus = eqb (get_or v 0 0) minus_sign in
      ap (λ (at : ℕ). digits_read v minus at (digits_end v at)) no_sign
      ∙ ap (λ (behind : ℕ). digits_read v minus 0 behind) no_digits
      ∙ ap (λ (x : Bool). cond x (whole_read minus (digits_from v 10 0 0 (length v - 0))) (Err NoValue)) (none-whole (length v) (not (eqb (get_or v 0 0) zero_digit) || eqb (length v) 1))

-- so is what it says, if it is an identifier
pub letters_read : (a b : List ℕ) {v w : List ℕ} → SameLetters v w → SameReading a b (word_read v) (word_read w)
letters_read a b {v} {w} s =
    cond_both (SameReading a b) (true_same s) (same_flag true)
    (cond_both (SameReading a b) (false_same s) (same_flag false) (subst (λ (r : Reading). SameReading a b r (rest w)) (sym (no_value v s.first))
    (subst (SameReading a b (Err NoValue)) (sym (no_value w s.second)) same_none)))
  where
    rest : List ℕ → Reading
    rest x = cond (hex_ok x) (whole_read false (digits_from x 16 0 2 (length x - 2))) (number_read x)

    no_value : (x : List ℕ) → identifier_ok x ≡ true → rest x ≡ Err NoValue
    no_value x e =
        let h = letter_high (get_or x 0 0) ((and-eq-true_iff (is_letter (get_or x 0 0)) (eqb (span_end (λ i. is_name_byte (get_or x i 0)) 0 (length x)) (length x))).0 e).0 in
        ap (λ (y : Bool). cond y (whole_read false (digits_from x 16 0 2 (length x - 2))) (number_read x)) (no_hex x h) ∙ no_number x h
