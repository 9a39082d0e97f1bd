-- `picture_write::cover::Cover::written_length` meets its contract: where the next column begins. Assumes nothing.
use mathlib.Core.Path.{◌≡◌}
use Rattle.picture_write.specs.Inner.Columns.{start_of_column}
use Rattle.picture_write.proofs.cover.Cover.written_length.Given as goal

abbrev pub invariant-loop-column : goal.invariant-loop-column
invariant-loop-column l =
    l.total ≡ start_of_column l.self.width l.self.height l.self.bytes.now l.column
