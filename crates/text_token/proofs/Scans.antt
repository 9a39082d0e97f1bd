-- Laws of a string read byte by byte: one place more, a stop, and the end. Assumes nothing.
use Prim.Native.Nat.{ℕ, ◌+◌, ◌-◌, ◌≤◌, ◌<◌}
use mathlib.Core.Bool.{Bool, true, false, not, ◌&&◌, cond}
use mathlib.Core.List.{List}
use mathlib.Core.Path.{◌≡◌, ap, ◌∙◌}
use lib.Dec.{eqb}
use lib.ListN.{get_or}
use Rattle.text_byte.proofs.Spans.{left, none}
use Rattle.text_token.specs.Tokens.{quote_end}

module _ (text : List ℕ) (taken : Bool) (at end : ℕ) where
  quote_next : Bool → ℕ
  quote_next x = cond x at (quote_end text (not taken && eqb (get_or text at 0) 92) (at + 1) (end - (at + 1)))

  quote_step : at < end → quote_end text taken at (end - at) ≡ quote_next (not taken && eqb (get_or text at 0) 34)
  unfolding quote_end quote_next
  quote_step h = ap (quote_end text taken at) (left at end h)

  pub quote_more : at < end → (not taken && eqb (get_or text at 0) 34) ≡ false
      → quote_end text taken at (end - at) ≡ quote_end text (not taken && eqb (get_or text at 0) 92) (at + 1) (end - (at + 1))
  unfolding quote_next
  quote_more h e = quote_step h ∙ ap quote_next e

  pub quote_stop : at < end → (not taken && eqb (get_or text at 0) 34) ≡ true → quote_end text taken at (end - at) ≡ at
  unfolding quote_next
  quote_stop h e = quote_step h ∙ ap quote_next e

  pub quote_done : end ≤ at → quote_end text taken at (end - at) ≡ at
  unfolding quote_end
  quote_done h = ap (quote_end text taken at) (none at end h)
