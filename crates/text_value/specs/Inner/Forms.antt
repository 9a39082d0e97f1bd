-- What only contracts of inner functions cite: words that are known to begin as a number of one form. Assumes nothing.
use Rattle.std.specs.Prelude.{ℕ, ◌+◌, ◌-◌, Bool, false, cond, List, Err, eqb, length}
use Rattle.text_value.specs.Numbers.{digits_from, digits_end, hex_end}
use Rattle.text_value.specs.declared.Misread.TheVariants.{NoValue}
use Rattle.text_value.specs.Values.{Reading, whole_read, decimal_read}

-- a word that begins with 0x: the digits go up to its end, or it is no value
abbrev pub hex_read : List ℕ → Reading
hex_read word = cond (eqb (hex_end word 2) (length word)) (whole_read false (digits_from word 16 0 2 (length word - 2))) (Err NoValue)

-- a word with digits from `at` on and then a point: the digits behind it go up to its end, or it is no value
abbrev pub point_read : List ℕ → Bool → ℕ → ℕ → Reading
point_read word minus at point = cond (eqb (digits_end word (point + 1)) (length word)) (decimal_read word minus at point) (Err NoValue)
