-- The values of a text map (02, W-206): a whole number, a decimal, a quoted string or a keyword. Assumes nothing.
use Rattle.std.specs.Prelude.{ℕ, ◌+◌, ◌-◌, Bool, true, false, ◌&&◌, cond, List, Result, Ok, Err, leb, eqb, length, get_or}
use Rattle.text_token.specs.declared.Token.{Token}
use Rattle.text_byte.specs.Bytes.{lower_at}
use Rattle.text_token.specs.Tokens.{word_form, string_form, form_of, word_of}
use Rattle.text_value.specs.declared.Value.TheVariants.{Whole, Decimal, Text, Flag}
use Rattle.text_value.specs.declared.Value.{Value}
use Rattle.text_value.specs.declared.Misread.{Misread}
use Rattle.text_value.specs.declared.Misread.TheVariants.{WholePast, DecimalPast, NoValue}
use Rattle.text_value.specs.Numbers.{digits_from, digits_end, hex_ok, whole_ok, decimal_ok, minus_sign, behind_sign, signed, most_of, decimal_fits, decimal_digits, quotient}

-- what stands where a value is wanted: a value, or why there is none
abbrev pub Reading : Type 0
Reading = Result Value Misread

-- `true`, in any case of its letters
abbrev pub is_true : List ℕ → Bool
is_true word =
    (eqb (length word) 4 && eqb (lower_at word 0) 116)
    && (eqb (lower_at word 1) 114 && (eqb (lower_at word 2) 117 && eqb (lower_at word 3) 101))

-- `false`, in any case of its letters
abbrev pub is_false : List ℕ → Bool
is_false word =
    (eqb (length word) 5 && eqb (lower_at word 0) 102)
    && (eqb (lower_at word 1) 97 && (eqb (lower_at word 2) 108 && (eqb (lower_at word 3) 115 && eqb (lower_at word 4) 101)))

-- a whole number that fits 32 signed bits
abbrev pub whole_read : Bool → ℕ → Reading
whole_read minus n = cond (leb n (most_of minus)) (Ok (Whole (signed minus n))) (Err WholePast)

-- a decimal with its point at `point`
abbrev pub decimal_read : List ℕ → Bool → ℕ → ℕ → Reading
decimal_read word minus at point =
    cond (decimal_fits word at point)
    (Ok (Decimal (quotient minus (decimal_digits word at point) (length word - (point + 1))))) (Err DecimalPast)

-- a whole number or a decimal behind its sign; the digits end at `behind`
abbrev pub digits_read : List ℕ → Bool → ℕ → ℕ → Reading
digits_read word minus at behind =
    cond (whole_ok word at behind) (whole_read minus (digits_from word 10 0 at (length word - at)))
    (cond (decimal_ok word at behind) (decimal_read word minus at behind) (Err NoValue))

-- a number with its sign
abbrev pub number_read : List ℕ → Reading
number_read word =
    let at = behind_sign (get_or word 0 0) in
    digits_read word (eqb (get_or word 0 0) minus_sign) at (digits_end word at)

-- a word as a value: a keyword, the 0x form, which has no sign, or a number
abbrev pub word_read : List ℕ → Reading
word_read word =
    cond (is_true word) (Ok (Flag true))
    (cond (is_false word) (Ok (Flag false))
    (cond (hex_ok word) (whole_read false (digits_from word 16 0 2 (length word - 2)))
    (number_read word)))

-- a token as a value; a string is its places in the text, after the opening quote and of the closing one
abbrev pub token_read : List ℕ → Token → Reading
token_read text t =
    cond (eqb (form_of t) string_form) (Ok (Text (t.start + 1) t.end))
    (cond (eqb (form_of t) word_form) (word_read (word_of text t)) (Err NoValue))
