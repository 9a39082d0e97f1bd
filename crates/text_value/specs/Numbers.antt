-- The numbers of a text map (02, W-206; document 002, `integer` and `float`): whole numbers, the 0x form and decimals, each a word.
-- Other than document 002: a 0 alone is allowed, 0 before other digits of a whole number and an exponent are not. Assumes nothing.
use Rattle.std.specs.Prelude.{ℕ, zero, suc, ◌+◌, ◌-◌, ◌*◌, ◌^◌, Bool, ◌&&◌, ◌||◌, not, cond, List, leb, ltb, eqb, ℤ, pos, neg_ℤ, Float, length, get_or}
use Rattle.std.specs.Float.{binary64}
use Rattle.std.specs.Float.Ieee.{div, neg, of_int}
use Rattle.text_byte.specs.Bytes.{within, is_digit, is_hex_digit}
use Rattle.text_byte.specs.Spans.{span_end}

-- the bytes 0, x, + and -, and the point
abbrev pub zero_digit : ℕ
zero_digit = 48

abbrev pub small_x : ℕ
small_x = 120

abbrev pub plus_sign : ℕ
plus_sign = 43

abbrev pub minus_sign : ℕ
minus_sign = 45

abbrev pub decimal_point : ℕ
decimal_point = 46

-- the digit that a byte is, 10 to 15 for A to F and a to f; 0 for a byte that is none
abbrev pub digit_of : ℕ → ℕ
digit_of b = cond (within 48 57 b) (b - 48) (cond (within 65 70 b) (b - 55) (cond (within 97 102 b) (b - 87) 0))

-- the number whose digits in a base are those of `before` and then the `n` digits from `at` on
unfoldable pub digits_from : List ℕ → ℕ → ℕ → ℕ → ℕ → ℕ
digits_from word base before at zero = before
digits_from word base before at (suc n) = base * digits_from word base before at n + digit_of (get_or word (at + n) 0)

-- behind the digits from `at` on
abbrev pub digits_end : List ℕ → ℕ → ℕ
digits_end word at = span_end (λ i. is_digit (get_or word i 0)) at (length word - at)

-- the same of hexadecimal digits
abbrev pub hex_end : List ℕ → ℕ → ℕ
hex_end word at = span_end (λ i. is_hex_digit (get_or word i 0)) at (length word - at)

-- 0x and hexadecimal digits, at least one
abbrev pub hex_ok : List ℕ → Bool
hex_ok word =
    (eqb (get_or word 0 0) zero_digit && eqb (get_or word 1 0) small_x) && (ltb 2 (length word) && eqb (hex_end word 2) (length word))

-- from `at` on digits only, at least one, and 0 is not first among several; the digits end at `behind`
abbrev pub whole_ok : List ℕ → ℕ → ℕ → Bool
whole_ok word at behind =
    (ltb at (length word) && eqb behind (length word)) && (not (eqb (get_or word at 0) zero_digit) || eqb (length word) (at + 1))

-- from `at` on digits, at least one, up to `point`; the point there; and digits up to the end, if any
abbrev pub decimal_ok : List ℕ → ℕ → ℕ → Bool
decimal_ok word at point =
    (ltb at point && ltb point (length word)) && (eqb (get_or word point 0) decimal_point && eqb (digits_end word (point + 1)) (length word))

-- a sign, + or -
abbrev pub is_sign : ℕ → Bool
is_sign b = eqb b plus_sign || eqb b minus_sign

-- the place behind the sign, where a word's first byte is one
abbrev pub behind_sign : ℕ → ℕ
behind_sign b = cond (is_sign b) 1 0

-- a magnitude and its sign
abbrev pub signed : Bool → ℕ → ℤ
signed minus n = cond minus (neg_ℤ (pos n)) (pos n)

-- the largest magnitude of 32 signed bits
abbrev pub most_of : Bool → ℕ
most_of minus = cond minus 2147483648 2147483647

-- at most fifteen digits in all and six behind the point
abbrev pub decimal_fits : List ℕ → ℕ → ℕ → Bool
decimal_fits word at point = leb (length word - at) 16 && leb (length word - point) 7

-- the digits of a decimal, as a whole number
abbrev pub decimal_digits : List ℕ → ℕ → ℕ → ℕ
decimal_digits word at point =
    digits_from word 10 (digits_from word 10 0 at (point - at)) (point + 1) (length word - (point + 1))

-- digits divided once by the power of ten of `places` digits behind the point, then negated for a minus sign
abbrev pub quotient : Bool → ℕ → ℕ → Float
quotient minus digits places =
    let q = div binary64 (of_int binary64 (pos digits)) (of_int binary64 (pos (10 ^ places))) in
    cond minus (neg q) q
