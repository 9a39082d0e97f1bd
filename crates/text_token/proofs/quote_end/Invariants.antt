-- `text_token::quote_end` meets its contract: from `at` on, where a quote or a backslash stands, the string ends where it ends from `from` on.
-- The measure is what is left. Assumes nothing.
use Prim.Native.Nat.{◌-◌, ◌<◌}
use mathlib.Core.Bool.{true, false, ◌||◌}
use mathlib.Core.Path.{◌≡◌}
use lib.Dec.{eqb}
use lib.ListN.{get_or, length}
use Rattle.text_byte.specs.Bytes.{double_quote, backslash}
use Rattle.text_token.specs.Tokens.{quote_end}
use Rattle.text_token.proofs.quote_end.Given as goal

abbrev pub invariant-loop-at : goal.invariant-loop-at
invariant-loop-at l =
    (quote_end l.text false l.from (length l.text - l.from) ≡ quote_end l.text false l.at (length l.text - l.at))
    × (l.at < length l.text → (eqb (get_or l.text l.at 0) double_quote || eqb (get_or l.text l.at 0) backslash) ≡ true)

abbrev pub decreases-loop-at : goal.decreases-loop-at
decreases-loop-at l =
    length l.text - l.at
