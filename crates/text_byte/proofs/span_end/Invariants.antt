-- `text_byte::span_end` meets its contract: from where it stands the span ends where it does from the start. Assumes nothing.
use Prim.Native.Nat.{ℕ, ◌-◌, ◌<◌}
use mathlib.Core.Bool.{Bool}
use mathlib.Core.Path.{◌≡◌}
use Rattle.text_byte.specs.Spans.{span_end}
use Rattle.text_byte.proofs.span_end.Given as goal

abbrev pub invariant-loop-at : goal.invariant-loop-at
invariant-loop-at g l =
    (p : ℕ → Bool) → ((i : ℕ) (b : Bool) → i < l.end → goal.F-post g l.test i b → b ≡ p i)
    → span_end p l.from (l.end - l.from) ≡ span_end p l.at (l.end - l.at)
