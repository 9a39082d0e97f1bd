-- The tokens of a text map (02, W-206): behind white space and comments a mark, a string or a word. Assumes nothing.
use Rattle.std.specs.Prelude.{ℕ, zero, suc, ◌+◌, ◌-◌, ◌≤◌, ◌<◌, Bool, false, not, ◌&&◌, cond, List, eqb, ltb, get_or, length, take, drop}
use Rattle.text_gap.specs.declared.Mode.TheVariants.{Between}
use Rattle.text_gap.specs.declared.Gap.{Gap}
use Rattle.text_token.specs.declared.Form.{Form}
use Rattle.text_token.specs.declared.Form.TheVariants.{End, Unclosed, Word, String, OpenBrace, CloseBrace, OpenParenthesis, CloseParenthesis, Semicolon, EqualsSign, Apostrophe}
use Rattle.text_token.specs.declared.Token.{Token}
use Rattle.text_byte.specs.Bytes.{double_quote, backslash, semicolon, equals_sign, open_brace, close_brace, is_mark, ends_word}
use Rattle.text_byte.specs.Spans.{span_end}
use Rattle.text_gap.specs.Gaps.{is_open, gap_from}

-- the form of a mark
abbrev pub mark_form : ℕ → Form
mark_form b =
    cond (eqb b open_brace) OpenBrace
    (cond (eqb b close_brace) CloseBrace
    (cond (eqb b 40) OpenParenthesis
    (cond (eqb b 41) CloseParenthesis
    (cond (eqb b semicolon) Semicolon
    (cond (eqb b equals_sign) EqualsSign Apostrophe)))))

-- the forms of tokens as numbers: the text's end, a comment or string that is never closed, a word, a string
abbrev pub end_form : ℕ
end_form = 0

abbrev pub unclosed_form : ℕ
unclosed_form = 1

abbrev pub word_form : ℕ
word_form = 2

abbrev pub string_form : ℕ
string_form = 34

-- a form as its number; of a mark that is its own byte
abbrev pub form_number : Form → ℕ
form_number End = end_form
form_number Unclosed = unclosed_form
form_number Word = word_form
form_number String = string_form
form_number OpenBrace = open_brace
form_number CloseBrace = close_brace
form_number OpenParenthesis = 40
form_number CloseParenthesis = 41
form_number Semicolon = semicolon
form_number EqualsSign = equals_sign
form_number Apostrophe = 39

abbrev pub form_of : Token → ℕ
form_of t = form_number t.form

-- a token of a form, from its first byte up to the byte behind its last (of a string: the closing quote), and the place to go on
abbrev pub token : Form → ℕ → ℕ → ℕ → Token
token form start end next = record { form = form; start = start; end = end; next = next }

-- the byte at a place does not end a word
abbrev pub in_word : List ℕ → ℕ → Bool
in_word text at = not (ends_word (get_or text at 0) (get_or text (at + 1) 0))

-- the closing quote among the `n` places from `at` on, or the place behind them: the first quote that no backslash takes. A
-- backslash takes any next byte, and the first byte is `taken` if one stands before it
unfoldable pub quote_end : List ℕ → Bool → ℕ → ℕ → ℕ
quote_end text taken at zero = at
quote_end text taken at (suc n) =
    cond (not taken && eqb (get_or text at 0) double_quote) at (quote_end text (not taken && eqb (get_or text at 0) backslash) (at + 1) n)

-- the text's end, which is no token
abbrev pub ended : List ℕ → Form → Token
ended text form = token form (length text) (length text) (length text)

-- a string from its opening quote to the closing one at `end`
abbrev pub string_to : List ℕ → ℕ → ℕ → Token
string_to text at end = cond (ltb end (length text)) (token String at end (end + 1)) (ended text Unclosed)

-- a word up to `end`
abbrev pub word_to : ℕ → ℕ → Token
word_to at end = token Word at end end

-- the token whose first byte is at `at`, inside the text
abbrev pub token_here : List ℕ → ℕ → Token
token_here text at =
    cond (eqb (get_or text at 0) double_quote) (string_to text at (quote_end text false (at + 1) (length text - (at + 1))))
    (cond (is_mark (get_or text at 0)) (token (mark_form (get_or text at 0)) at (at + 1) (at + 1))
    (word_to at (span_end (in_word text) (at + 1) (length text - (at + 1)))))

-- the token behind a gap
abbrev pub token_behind : List ℕ → Gap → Token
token_behind text g =
    cond (ltb g.at (length text)) (token_here text g.at)
    (cond (is_open g.mode) (ended text Unclosed) (ended text End))

-- the token at `at` or behind the white space and comments there
abbrev pub token_at : List ℕ → ℕ → Token
token_at text at = token_behind text (gap_from text Between at (length text - at))

-- the bytes from `start` up to `end`
abbrev pub bytes_of : List ℕ → ℕ → ℕ → List ℕ
bytes_of text start end = take (end - start) (drop start text)

-- the bytes of a word
abbrev pub word_of : List ℕ → Token → List ℕ
word_of text t = bytes_of text t.start t.end

-- where a token found from `at` on stands: inside the text, not before `at`; one that is not the text's end takes a byte at least
pub record Placed (text : List ℕ) (at : ℕ) (t : Token) : Type 0 where
  pub ordered : t.start ≤ t.end
  pub inside : t.end ≤ t.next
  pub whole : t.next ≤ length text
  pub onward : at ≤ length text → at ≤ t.next
  pub ahead : word_form ≤ form_of t → at < t.next
