-- The small lumps of specs/Examples are computed. Assumes nothing.
use mathlib.Core.Path.{refl}
use Rattle.sidedefs_stream.specs.Scraps.{fed}
use Rattle.sidedefs_stream.specs.Examples.{Examples}

pub examples : Examples
unfolding fed
examples = record { accepted = refl; second = refl; first = refl; cut = refl; none = refl; sectorless = refl; full = refl }
