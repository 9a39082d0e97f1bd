-- `text_value::number::digits_at` meets its contract: from `at` on the digits end where they end from `from` on, and the count is that of the digits
-- passed, capped. Assumes nothing.
use mathlib.Core.Path.{◌≡◌}
use Prim.Native.Nat.{◌-◌, ◌≤◌, min}
use Rattle.text_value.specs.Numbers.{digits_from}
use Rattle.text_value.specs.Inner.Digits.{digits_end_in}
use Rattle.text_value.proofs.Numbers.{cap}
use Rattle.text_value.proofs.number.digits_at.Given as goal

abbrev pub invariant-loop-at : goal.invariant-loop-at
invariant-loop-at l =
    (l.from ≤ l.at) × ((digits_end_in l.base l.word l.from ≡ digits_end_in l.base l.word l.at) × (l.number ≡ min (digits_from l.word l.base l.before l.from (l.at - l.from)) cap))
