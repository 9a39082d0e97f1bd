-- `picture_write::cover::Cover::run_length` meets its contract: the run is what was counted and the run from there on. Assumes
-- nothing.
use Prim.Native.Nat.{◌+◌, ◌-◌}
use mathlib.Core.Path.{◌≡◌}
use Rattle.picture_write.specs.Runs.{run_from}
use Rattle.picture_write.specs.Pixels.{covered_at}
use Rattle.picture_write.proofs.cover.Cover.run_length.Given as goal

abbrev pub invariant-loop-count : goal.invariant-loop-count
invariant-loop-count l =
    run_from (covered_at l.self.bytes.now l.self.width l.column) l.row (l.self.height - l.row)
    ≡ l.count + run_from (covered_at l.self.bytes.now l.self.width l.column) (l.row + l.count) (l.self.height - (l.row + l.count))
