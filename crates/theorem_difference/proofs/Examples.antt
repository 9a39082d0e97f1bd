-- The small lumps of specs/Examples are computed. Assumes nothing.
use mathlib.Core.Path.{refl}
use Rattle.layout.specs.Rows.{sum_of, laid_out}
use Rattle.theorem_difference.specs.Examples.{Examples}

pub examples : Examples
unfolding laid_out sum_of
examples =
    record {
      same = refl;
      changed = refl;
      added = refl;
      all = refl;
      dropped = refl;
      dropped_after = refl;
      none = refl;
      exchanged = refl;
      copies = refl;
      left_out = refl;
      list_of_map = refl;
      counts_of_map = refl;
      words_of_vertexes = refl;
      words_of_sectors = refl;
      doom_things = refl;
      hexen_things = refl;
    }
