-- The value of a field (02, W-206): that at the place of its last assignment, or the default of its row. Assumes nothing.
use Rattle.std.specs.Prelude.{ℕ, Bool, false, cond, Ok, Err, List, eqb, ℤ, pos, negsuc, Float, get_or}
use Rattle.std.specs.Float.{binary64}
use Rattle.std.specs.Float.Ieee.{of_int, of_bits}
use Rattle.text_token.specs.Tokens.{token_at}
use Rattle.text_value.specs.declared.Value.{Value}
use Rattle.text_value.specs.declared.Value.TheVariants.{Whole, Decimal, Text, Flag}
use Rattle.text_value.specs.declared.Misread.TheVariants.{NoValue}
use Rattle.text_value.specs.Values.{Reading, token_read}
use Rattle.text_table.specs.declared.field.Fallback.{Fallback}
use Rattle.text_table.specs.declared.field.Fallback.TheVariants.{Required, Zero, MinusOne, Light, ByNamespace}
use Rattle.text_record.specs.declared.given.Places.{Places}

-- what is read at the place of a value; none at place 0
abbrev pub value_at : List ℕ → ℕ → Reading
value_at text place = cond (eqb place 0) (Err NoValue) (token_read text (token_at text place))

-- the default of a row; `id` where the namespace decides
abbrev pub default_whole : ℤ → Fallback → ℤ
default_whole id ByNamespace = id
default_whole id MinusOne = negsuc 0
default_whole id Light = pos 160
default_whole id Zero = pos 0
default_whole id Required = pos 0

-- of a value that was judged to fit; of any other the default
abbrev pub whole_in : ℤ → Value → ℤ
whole_in default (Whole z) = z
whole_in default (Decimal x) = default
whole_in default (Text from to) = default
whole_in default (Flag b) = default

abbrev pub whole_or : ℤ → Reading → ℤ
whole_or default (Ok v) = whole_in default v
whole_or default (Err e) = default

-- the double 0.0, by its bits
abbrev pub zero_point : Float
zero_point = of_bits binary64 0

-- a whole number serves for a decimal
abbrev pub decimal_in : Value → Float
decimal_in (Whole z) = of_int binary64 z
decimal_in (Decimal x) = x
decimal_in (Text from to) = zero_point
decimal_in (Flag b) = zero_point

abbrev pub decimal_or : Reading → Float
decimal_or (Ok v) = decimal_in v
decimal_or (Err e) = zero_point

-- two places in the text, both 0 for a string that is absent
abbrev pub between : ℕ → ℕ → Places
between start end = record { start = start; end = end }

abbrev pub string_in : Value → Places
string_in (Whole z) = between 0 0
string_in (Decimal x) = between 0 0
string_in (Text from to) = between from to
string_in (Flag b) = between 0 0

abbrev pub string_or : Reading → Places
string_or (Ok v) = string_in v
string_or (Err e) = between 0 0

abbrev pub flag_in : Value → Bool
flag_in (Whole z) = false
flag_in (Decimal x) = false
flag_in (Text from to) = false
flag_in (Flag b) = b

abbrev pub flag_or : Reading → Bool
flag_or (Ok v) = flag_in v
flag_or (Err e) = false

-- the field of row `k` of a block whose values stand at `places`; `defaults` has the default of each row
abbrev pub whole_field : List ℕ → List ℕ → (ℕ → Fallback) → ℤ → ℕ → ℤ
whole_field text places defaults id k = whole_or (default_whole id (defaults k)) (value_at text (get_or places k 0))

abbrev pub decimal_field : List ℕ → List ℕ → ℕ → Float
decimal_field text places k = decimal_or (value_at text (get_or places k 0))

abbrev pub string_field : List ℕ → List ℕ → ℕ → Places
string_field text places k = string_or (value_at text (get_or places k 0))

abbrev pub flag_field : List ℕ → List ℕ → ℕ → Bool
flag_field text places k = flag_or (value_at text (get_or places k 0))
