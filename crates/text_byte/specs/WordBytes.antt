-- What only contracts of inner functions cite: bytes that end no word or any. Assumes nothing.
use Rattle.std.specs.Prelude.{ℕ, Bool, not, ◌&&◌, ◌||◌, cond, eqb, leb}
use Rattle.text_byte.specs.Bytes.{double_quote, open_brace, close_brace, within, is_blank, is_mark}

-- a byte that ends no word, whatever follows: most letters and all digits among them
abbrev pub is_plain : ℕ → Bool
is_plain b = cond (leb 62 b) (not (eqb b open_brace) && not (eqb b close_brace)) (within 48 58 b)

-- a byte at which a word ends, whatever follows: white space, a mark or a quote
abbrev pub stops_word : ℕ → Bool
stops_word b = is_blank b || is_mark b || eqb b double_quote
