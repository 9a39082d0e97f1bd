-- What only contracts of inner functions cite: the digits of a base, and the marks of the 0x form and of a decimal. Assumes nothing.
use Rattle.std.specs.Prelude.{ℕ, ◌-◌, Bool, ◌&&◌, cond, List, ltb, eqb, length, get_or}
use Rattle.text_byte.specs.Bytes.{is_digit, is_hex_digit}
use Rattle.text_byte.specs.Spans.{span_end}
use Rattle.text_value.specs.Numbers.{zero_digit, small_x, decimal_point}

-- a digit of base 16, or of any other base 0 to 9
abbrev pub is_digit_in : ℕ → ℕ → Bool
is_digit_in base b = cond (eqb base 16) (is_hex_digit b) (is_digit b)

-- behind the digits of a base from `at` on: `hex_end` for 16, `digits_end` for 10
abbrev pub digits_end_in : ℕ → List ℕ → ℕ → ℕ
digits_end_in base word at = span_end (λ i. is_digit_in base (get_or word i 0)) at (length word - at)

-- 0x and more
abbrev pub is_hex : List ℕ → Bool
is_hex word = (eqb (get_or word 0 0) zero_digit && eqb (get_or word 1 0) small_x) && ltb 2 (length word)

-- the decimal point at `point`, behind `at`
abbrev pub is_point : List ℕ → ℕ → ℕ → Bool
is_point word at point = (ltb at point && ltb point (length word)) && eqb (get_or word point 0) decimal_point
