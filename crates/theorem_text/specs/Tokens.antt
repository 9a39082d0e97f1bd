-- Two texts with the same tokens (02, W-206). Neither gaps between tokens nor the case of letters in identifiers and
-- keywords matter. Assumes nothing.
use Rattle.std.specs.Prelude.{ℕ, zero, suc, ◌<◌, true, List, ◌⊎◌, ◌≡◌, length}
use Rattle.text_token.specs.declared.Token.{Token}
use Rattle.text_byte.specs.Bytes.{lower_at}
use Rattle.text_token.specs.Tokens.{form_of, word_form, token_at, word_of}
use Rattle.text_name.specs.Identifiers.{identifier_ok}

-- two identifiers, or keywords, that differ in the case of letters alone
pub record SameLetters (v w : List ℕ) : Type 0 where
  pub first : identifier_ok v ≡ true
  pub second : identifier_ok w ≡ true
  pub long : length v ≡ length w
  pub letters : (k : ℕ) → lower_at v k ≡ lower_at w k

-- two tokens of one form with the same bytes; words may have the same letters
pub record SameLexeme (a : List ℕ) (t : Token) (b : List ℕ) (u : Token) : Type 0 where
  pub form : form_of t ≡ form_of u
  pub bytes : (word_of a t ≡ word_of b u) ⊎ ((form_of t ≡ word_form) × SameLetters (word_of a t) (word_of b u))

-- the place of token `n` of a text, from `at` on; behind the last one it is the text's end again and again
unfoldable pub token_place : List ℕ → ℕ → ℕ → ℕ
token_place text at zero = at
token_place text at (suc n) = token_place text (token_at text at).next n

-- the first `n` tokens are the same
abbrev pub SameFirst : ℕ → List ℕ → ℕ → List ℕ → ℕ → Type 0
SameFirst n a at b from = (k : ℕ) → k < n → SameLexeme a (token_at a (token_place a at k)) b (token_at b (token_place b from k))

-- the same tokens, one after the other
abbrev pub SameTokens : List ℕ → ℕ → List ℕ → ℕ → Type 0
SameTokens a at b from = (n : ℕ) → SameFirst n a at b from
