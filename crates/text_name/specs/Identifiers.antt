-- The identifiers of a text map (02, W-206; document 002, "Grammar / Syntax"): which tokens are such. Assumes nothing.
use Rattle.std.specs.Prelude.{ℕ, Bool, ◌&&◌, List, eqb, length, get_or}
use Rattle.text_token.specs.declared.Token.{Token}
use Rattle.text_byte.specs.Bytes.{is_letter, is_name_byte}
use Rattle.text_byte.specs.Spans.{span_end}
use Rattle.text_token.specs.Tokens.{word_form, form_of, word_of}

-- a letter, and then letters and digits
abbrev pub identifier_ok : List ℕ → Bool
identifier_ok word = is_letter (get_or word 0 0) && eqb (span_end (λ i. is_name_byte (get_or word i 0)) 0 (length word)) (length word)

abbrev pub is_identifier : List ℕ → Token → Bool
is_identifier text t = eqb (form_of t) word_form && identifier_ok (word_of text t)
