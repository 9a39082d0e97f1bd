-- `picture_write::cover::Cover::column_length` meets its contract: so many runs begin and so many pixels are covered above `row`. Assumes
-- nothing.
use Prim.Native.Nat.{◌≤◌}
use mathlib.Core.Path.{◌≡◌}
use Rattle.layout.specs.Rows.{count_of}
use Rattle.picture_write.specs.Runs.{above_of, begins}
use Rattle.picture_write.specs.Pixels.{covered_at}
use Rattle.picture_write.proofs.cover.Cover.column_length.Given as goal

abbrev pub invariant-loop-row : goal.invariant-loop-row
invariant-loop-row l =
    (l.runs ≡ count_of (begins (covered_at l.self.bytes.now l.self.width l.column)) l.row)
    × (l.pixels ≡ count_of (covered_at l.self.bytes.now l.self.width l.column) l.row)
    × (l.above ≡ above_of (covered_at l.self.bytes.now l.self.width l.column) l.row)
    × (l.runs ≤ l.row)
    × (l.pixels ≤ l.row)
