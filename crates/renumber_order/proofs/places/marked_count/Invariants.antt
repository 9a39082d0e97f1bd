-- `renumber_order::places::marked_count` meets its contract. The loop's invariant: the marked nodes so far are counted.
-- Assumes nothing.
use mathlib.Core.Path.{◌≡◌}
use lib.ListN.{length}
use Rattle.renumber_order.specs.Places.{marked_below}
use Rattle.renumber_order.proofs.places.marked_count.Given as goal

abbrev pub invariant-loop-mark : goal.invariant-loop-mark
invariant-loop-mark l =
    l.marked ≡ length (marked_below l.words l.mark-index)
