-- Which bytes are what in a text map (02, W-206; document 002, "Grammar / Syntax"). Assumes nothing.
use Rattle.std.specs.Prelude.{ℕ, ◌+◌, Bool, ◌&&◌, ◌||◌, cond, List, leb, eqb, get_or}

-- the bytes that mean something by themselves
abbrev pub newline : ℕ
newline = 10

abbrev pub double_quote : ℕ
double_quote = 34

abbrev pub star : ℕ
star = 42

abbrev pub slash : ℕ
slash = 47

abbrev pub semicolon : ℕ
semicolon = 59

abbrev pub equals_sign : ℕ
equals_sign = 61

abbrev pub backslash : ℕ
backslash = 92

abbrev pub open_brace : ℕ
open_brace = 123

abbrev pub close_brace : ℕ
close_brace = 125

-- `b` is `least` to `most`
abbrev pub within : ℕ → ℕ → ℕ → Bool
within least most b = leb least b && leb b most

-- space, tab, newline or carriage return
abbrev pub is_blank : ℕ → Bool
is_blank b = eqb b 32 || eqb b 9 || eqb b newline || eqb b 13

-- one of { } ( ) ; = '
abbrev pub is_mark : ℕ → Bool
is_mark b = eqb b open_brace || eqb b close_brace || eqb b 40 || eqb b 41 || eqb b semicolon || eqb b equals_sign || eqb b 39

-- a byte `b`, with `c` behind it, opens a comment up to the line's end, or one up to its closing star and slash
abbrev pub opens_line : ℕ → ℕ → Bool
opens_line b c = eqb b slash && eqb c slash

abbrev pub opens_comment : ℕ → ℕ → Bool
opens_comment b c = eqb b slash && eqb c star

-- where a word ends: a byte `b`, with `c` behind it, that is white space, a mark or a quote, or opens a comment
abbrev pub ends_word : ℕ → ℕ → Bool
ends_word b c = is_blank b || is_mark b || eqb b double_quote || (opens_line b c || opens_comment b c)

-- 0 to 9
abbrev pub is_digit : ℕ → Bool
is_digit b = within 48 57 b

-- 0 to 9, A to F, a to f
abbrev pub is_hex_digit : ℕ → Bool
is_hex_digit b = within 48 57 b || within 65 70 b || within 97 102 b

-- A to Z, a to z or _
abbrev pub is_letter : ℕ → Bool
is_letter b = within 65 90 b || within 97 122 b || eqb b 95

-- a letter or a digit
abbrev pub is_name_byte : ℕ → Bool
is_name_byte b = is_letter b || is_digit b

-- A to Z as a to z; any other byte as it is
abbrev pub lower : ℕ → ℕ
lower b = cond (within 65 90 b) (b + 32) b

-- the byte at `at`, small; 0 past the end
abbrev pub lower_at : List ℕ → ℕ → ℕ
lower_at word at = lower (get_or word at 0)
