-- `renumber_order::children_first` meets its contract. The loop's invariant: the children of the first `i` nodes stand before
-- them. Assumes nothing.
use mathlib.Core.Bool.{true}
use mathlib.Core.Path.{◌≡◌}
use Rattle.renumber_order.specs.Orders.{children_ok}
use Rattle.renumber_order.proofs.children_first.Given as goal

abbrev pub invariant-loop-i : goal.invariant-loop-i
invariant-loop-i l =
    children_ok l.graph.nodes.now l.order l.i ≡ true
