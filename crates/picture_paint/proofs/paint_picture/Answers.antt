-- `picture_paint::paint_picture` meets its contract: what passed gives the room, and what was painted is the plane.
-- Assumes nothing.
use borrow.Author.Rules.{rules}
use lib.ListN.{length}
use Rattle.picture_paint.specs.Pixels.{by_colour, by_cover}
use Rattle.picture_paint.proofs.Checks.{good_of}
use Rattle.picture_paint.proofs.Planes.{plane_painted}
use Rattle.picture_paint.proofs.paint_picture.Goals as goal

pub returns-clause-colour_after : goal.returns-clause-colour_after
returns-clause-colour_after c =
    let a = c.args in
    let g = good_of a.lump.now (length a.colour.now) (length a.cover.now) c.requires in
    search (
      rules,
      plane_painted by_colour a.lump.now _ _ a.colour.now c.width_of-width.ensures.0 c.height_of.ensures.0 g.header.some_width g.colours_fit
          c.clear.ensures c.paint_columns.ensures.painted.on_colour,
    )

pub returns-clause-cover_after : goal.returns-clause-cover_after
returns-clause-cover_after c =
    let a = c.args in
    let g = good_of a.lump.now (length a.colour.now) (length a.cover.now) c.requires in
    search (
      rules,
      plane_painted by_cover a.lump.now _ _ a.cover.now c.width_of-width.ensures.0 c.height_of.ensures.0 g.header.some_width g.covers_fit
          c.clear-2.ensures c.paint_columns.ensures.painted.on_cover,
    )
