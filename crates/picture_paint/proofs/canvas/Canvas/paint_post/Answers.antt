-- `picture_paint::canvas::Canvas::paint_post` meets its contract: after i turns the post's first i pixels are painted. Assumes
-- nothing.
use Prim.Native.Nat.{ℕ, ◌+◌, ◌*◌, ◌<◌}
use native.Mathlib.Omega.{arith}
use lib.ListN.{length}
use Rattle.picture_header.specs.Layout.{height_of, start_at}
use Rattle.picture_paint.specs.Pixels.{by_colour, by_cover}
use Rattle.picture_paint.proofs.Inner.{pixel_fits, stroke_pixel}
use Rattle.picture_paint.proofs.canvas.Canvas.paint_post.Goals as goal
use Rattle.picture_paint.proofs.canvas.Canvas.paint_post.Goals.{In-loop-i}

-- the row that a turn paints, and where
abbrev row : In-loop-i → ℕ
row c = let a = c.args in start_at a.self.now.lump.now a.at + c.loop-i.i

abbrev to : In-loop-i → ℕ
to c = let a = c.args in row c * a.self.now.width + a.column

row_ok : (c : In-loop-i) → row c < height_of c.args.self.now.lump.now
row_ok c = omega arith

colour_fits : (c : In-loop-i) → to c < length c.loop-i.colour
colour_fits c =
    let a = c.args.self.now in
    pixel_fits by_colour a.lump.now c.args.at _ _ _ _ c.requires.0 (row_ok c) a.colours c.loop-i.invariant.on_colour

cover_fits : (c : In-loop-i) → to c < length c.loop-i.cover
cover_fits c =
    let a = c.args.self.now in
    pixel_fits by_cover a.lump.now c.args.at _ _ _ _ c.requires.0 (row_ok c) a.covers c.loop-i.invariant.on_cover

pub overflow_add-to-in-loop-i : goal.overflow_add-to-in-loop-i
overflow_add-to-in-loop-i c = omega (arith, colour_fits (goal.at.overflow_add-to-in-loop-i c).In-loop-i)

pub bounds-colour-to : goal.bounds-colour-to
bounds-colour-to c = omega (arith, colour_fits (goal.at.bounds-colour-to c).In-loop-i)

pub bounds-cover-to : goal.bounds-cover-to
bounds-cover-to c = omega (arith, cover_fits (goal.at.bounds-cover-to c).In-loop-i)

pub loop-i-preserved : goal.loop-i-preserved
loop-i-preserved c =
    let i = c.loop-i.invariant in
    let a = c.args.self.now in
    let at = c.args.at in
    let ok = row_ok (goal.at.loop-i-preserved c).In-loop-i in
    record {
      on_colour = stroke_pixel by_colour a.lump.now at _ _ _ c.loop-i.i c.requires.0 ok a.colours i.on_colour;
      on_cover = stroke_pixel by_cover a.lump.now at _ _ _ c.loop-i.i c.requires.0 ok a.covers i.on_cover;
    }
