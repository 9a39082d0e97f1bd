-- What only contracts of inner functions cite: a string read run by run. Assumes nothing.
use Rattle.std.specs.Prelude.{ℕ, ◌-◌, ◌≤◌, ◌<◌, Bool, true, false, ◌||◌, List, ◌≡◌, eqb, length, get_or}
use Rattle.text_byte.specs.Bytes.{double_quote, backslash}
use Rattle.text_token.specs.Tokens.{quote_end}

-- a quote or a backslash stands at a place
abbrev pub ends_run : List ℕ → ℕ → Bool
ends_run text i = eqb (get_or text i 0) double_quote || eqb (get_or text i 0) backslash

-- from `at` to `to` a string has neither a quote nor a backslash; one of them stands at `to`, or the text ends there
pub record StringRun (text : List ℕ) (at to : ℕ) : Type 0 where
  pub same : quote_end text false at (length text - at) ≡ quote_end text false to (length text - to)
  pub onward : at ≤ to
  pub stops : to < length text → ends_run text to ≡ true
