-- `picture_write::pixels::Pixels::write_columns` meets its contract: the columns before `column` and their offsets are stored. Assumes nothing.
use mathlib.Core.Path.{◌≡◌}
use Rattle.picture_write.specs.Inner.Columns.{start_of_column}
use Rattle.picture_write.proofs.Inner.Columns.{stored}
use Rattle.picture_write.proofs.pixels.Pixels.write_columns.Given as goal

abbrev pub invariant-loop-column : goal.invariant-loop-column
invariant-loop-column l =
    (l.to ≡ start_of_column l.self.cover.width l.self.cover.height l.self.cover.bytes.now l.column) × (l.out ≡ stored l.self.cover.width l.self.cover.height l.self.colour.now l.self.cover.bytes.now l.initial.out l.column)
