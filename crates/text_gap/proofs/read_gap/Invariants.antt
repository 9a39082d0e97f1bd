-- `text_gap::read_gap` meets its contract: from `at` on the gap ends where it ends from `from` on. The measure is what is left. Assumes
-- nothing.
use Prim.Native.Nat.{◌-◌}
use mathlib.Core.Path.{◌≡◌}
use lib.ListN.{length}
use Rattle.text_gap.specs.declared.Mode.TheVariants.{Between}
use Rattle.text_gap.specs.Gaps.{gap_from}
use Rattle.text_gap.proofs.read_gap.Given as goal

abbrev pub invariant-loop-at : goal.invariant-loop-at
invariant-loop-at l =
    gap_from l.text Between l.from (length l.text - l.from) ≡ gap_from l.text Between l.at (length l.text - l.at)

abbrev pub decreases-loop-at : goal.decreases-loop-at
decreases-loop-at l =
    length l.text - l.at
