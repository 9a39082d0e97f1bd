-- `picture_write::pixels::Pixels::write_column` meets its contract: the posts of the runs that begin above `row` are written, and the pixel
-- above it is not covered. Assumes nothing.
use Prim.Native.Nat.{◌+◌, ◌-◌, ◌≤◌, ◌<◌}
use mathlib.Core.Bool.{false}
use mathlib.Core.Path.{◌≡◌}
use lib.ListN.{length}
use lib.Seq.{sets}
use Rattle.picture_write.specs.Runs.{above_of}
use Rattle.picture_write.specs.Pixels.{pixel_at, covered_at}
use Rattle.picture_write.proofs.Inner.Runs.{posts}
use Rattle.picture_write.proofs.pixels.Pixels.write_column.Given as goal

abbrev pub invariant-loop-row : goal.invariant-loop-row
invariant-loop-row l =
    (l.row ≤ l.self.cover.height)
    × (l.row < l.self.cover.height → above_of (covered_at l.self.cover.bytes.now l.self.cover.width l.column) l.row ≡ false)
    × (l.to ≡ l.from + length (posts (pixel_at l.self.colour.now l.self.cover.width l.column) (covered_at l.self.cover.bytes.now l.self.cover.width l.column) l.self.cover.height l.row))
    × (l.out ≡ sets l.initial.out l.from (posts (pixel_at l.self.colour.now l.self.cover.width l.column) (covered_at l.self.cover.bytes.now l.self.cover.width l.column) l.self.cover.height l.row))

abbrev pub decreases-loop-row : goal.decreases-loop-row
decreases-loop-row l =
    l.self.cover.height - l.row
