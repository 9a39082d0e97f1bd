-- `picture_paint::canvas::Canvas::paint_post` meets its contract: after i turns the post's first i pixels are painted. Assumes
-- nothing.
use Prim.Native.Nat.{◌*◌}
use Rattle.picture_header.specs.Layout.{height_of}
use Rattle.picture_paint.specs.Inner.{Stroke, Both}
use Rattle.picture_paint.proofs.Inner.{over_first}
use Rattle.picture_paint.proofs.canvas.Canvas.paint_post.Given as goal

abbrev pub invariant-loop-i : goal.invariant-loop-i
invariant-loop-i l =
    Both (λ by. Stroke (height_of l.lump * l.width) l.width l.column (over_first by l.lump l.at l.i)) l.initial.colour l.initial.cover l.colour l.cover
