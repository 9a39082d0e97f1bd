-- `index_find::halves::gone_past` meets its contract: the whole search comes down to a search of the records that are
-- left, and `last` tells of the last record gone past. The measure is `left`. Assumes nothing.
use mathlib.Core.Path.{◌≡◌}
use Rattle.index_find.specs.Finding.{not_above, is_equal}
use Rattle.index_find.specs.Inner.{last_if}
use Rattle.index_find.proofs.Turns.{Searching}
use Rattle.index_find.proofs.halves.gone_past.Given as goal

abbrev pub invariant-loop-left : goal.invariant-loop-left
invariant-loop-left l =
    Searching (not_above l.at.index.now l.name) l.at.count l.past l.left l.compared × (l.last ≡ last_if (is_equal l.at.index.now l.name) l.past)

abbrev pub decreases-loop-left : goal.decreases-loop-left
decreases-loop-left l = l.left
