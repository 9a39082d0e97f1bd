-- The two lumps of specs/Examples are computed. Assumes nothing.
use mathlib.Core.Path.{refl}
use Rattle.picture_paint.specs.Pixels.{list_of}
use Rattle.layout.specs.Rows.{sum_of, laid_out}
use Rattle.picture_write.specs.Runs.{run_from}
use Rattle.picture_write.specs.Examples.{Examples}

pub examples : Examples
unfolding sum_of laid_out run_from list_of
examples = record { narrow-lump = refl; wide-lump = refl; wide-length = refl }
