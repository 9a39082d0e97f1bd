-- The lists of specs/Examples are judged, and one is written, by computing. Assumes nothing.
use mathlib.Core.Path.{refl}
use Rattle.layout.specs.Rows.{laid_out}
use Rattle.node_route.specs.Heights.{words_from}
use Rattle.renumber_order.specs.Orders.{children_ok}
use Rattle.renumber.specs.Examples.{Examples}

pub examples : Examples
unfolding words_from children_ok laid_out
examples =
    record {
      in_order = refl;
      other-order = refl;
      short = refl;
      all-four = refl;
      none = refl;
      twice = refl;
      unreached = refl;
      foreign = refl;
      root-first = refl;
      child-first = refl;
      child_after = refl;
      no_room = refl;
      short-and-twice = refl;
      twice-and-root = refl;
      root-and_child = refl;
      child_and-room = refl;
      written = refl;
    }
