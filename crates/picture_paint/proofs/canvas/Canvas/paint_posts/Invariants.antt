-- `picture_paint::canvas::Canvas::paint_posts` meets its contract: whatever the posts that are left make of the planes as they are
-- now, all posts make of the planes as they were. The measure is what is left of the lump. Assumes nothing.
use Prim.Native.Nat.{◌-◌}
use lib.ListN.{length}
use Rattle.picture.specs.Stepping.{Notes, Block}
use Rattle.picture_paint.specs.Canvases.{IsSamePicture}
use Rattle.picture_paint.proofs.Painting.{Painting}
use Rattle.picture_paint.proofs.canvas.Canvas.paint_posts.Given as goal

abbrev pub invariant-loop-lump : goal.invariant-loop-lump
invariant-loop-lump l =
    IsSamePicture l.initial.self l.self
    × Painting l.lump l.from l.initial.self.width l.column l.initial.self.colour.now l.initial.self.cover.now l.self.colour.now l.self.cover.now l.at
    × Notes (Block l.lump) l.notes

abbrev pub decreases-loop-lump : goal.decreases-loop-lump
decreases-loop-lump l =
    length l.lump - l.at
