-- The small records of specs/Examples are computed. Assumes nothing.
use mathlib.Core.Path.{refl}
use Rattle.reason_range.specs.Fields.{first_out}
use Rattle.reason_record.specs.Examples.{Examples}

pub examples : Examples
unfolding first_out
examples =
    record {
      left = refl;
      hexen_left = refl;
      missing = refl;
      one_sided = refl;
      sector = refl;
      end = refl;
      against = refl;
      most = refl;
      sided = refl;
      empty = refl;
      many = refl;
      behind = refl;
      node = refl;
      subsector = refl;
      good = refl;
    }
