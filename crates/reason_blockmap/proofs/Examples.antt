-- The small lumps of specs/Examples are computed. Assumes nothing.
use mathlib.Core.Path.{refl}
use Rattle.reason_range.specs.Fields.{first_out}
use Rattle.reason_blockmap.specs.Fields.{number_fields}
use Rattle.reason_blockmap.specs.Examples.{Examples}

pub examples : Examples
unfolding first_out number_fields
examples =
    record {
      empty = refl;
      columns = refl;
      rows = refl;
      short = refl;
      short_odd = refl;
      odd = refl;
      empty_range = refl;
      second = refl;
      leading = refl;
      number = refl;
      endless = refl;
      good = refl;
    }
