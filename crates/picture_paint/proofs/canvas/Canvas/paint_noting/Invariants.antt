-- `picture_paint::canvas::Canvas::paint_noting` meets its contract: the columns so far are painted. Assumes nothing.
use mathlib.Core.Path.{◌≡◌}
use lib.ListN.{length}
use Rattle.picture.specs.Stepping.{Notes, Block}
use Rattle.picture_paint.specs.Inner.{PaintsFirst}
use Rattle.picture_paint.specs.Canvases.{IsSamePicture}
use Rattle.picture_paint.proofs.canvas.Canvas.paint_noting.Given as goal

abbrev pub invariant-loop-column : goal.invariant-loop-column
invariant-loop-column g l =
    IsSamePicture l.initial.self l.self
    × PaintsFirst l.lump l.initial.self.width l.column l.initial.self.colour.now l.initial.self.cover.now l.self.colour.now l.self.cover.now
    × Notes (Block l.lump) l.notes
    × (length l.notes ≡ g.row.SLOTS)
