-- `renumber_order::places::fill_places` meets its contract. The loop's invariant: the first `i` numbers have their places.
-- Assumes nothing.
use Rattle.renumber_order.proofs.Filling.{Filling}
use Rattle.renumber_order.proofs.places.fill_places.Given as goal

abbrev pub invariant-loop-i : goal.invariant-loop-i
invariant-loop-i l =
    Filling l.count l.initial.words l.order l.i l.words
