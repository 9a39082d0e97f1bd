-- `picture_paint::canvas::Canvas::paint_noting` meets its contract: the columns so far are painted. Assumes nothing.
use Prim.Native.Nat.{◌<◌}
use mathlib.Core.Path.{◌≡◌}
use borrow.Author.Rules.{rules}
use lib.ListN.{length, length-replicate}
use Rattle.std.specs.Prelude.{Ok}
use Rattle.picture_header.specs.Layout.{height_of}
use Rattle.picture.specs.Judging.{posts_check}
use Rattle.picture.specs.Stepping.{Notes, Block}
use Rattle.picture.proofs.Slots.{notes-none}
use Rattle.picture_paint.specs.Inner.{PaintsPosts}
use Rattle.picture_paint.proofs.Canvases.{same_first, same_then, as_before, as_after}
use Rattle.picture_paint.proofs.Inner.{both_none, both_then, strokes_none}
use Rattle.picture_paint.proofs.Painting.{column_pass, columns-more}
use Rattle.picture_paint.proofs.canvas.Canvas.paint_noting.Goals as goal

pub loop-column-init : goal.loop-column-init
loop-column-init g c =
    (same_first c.args.self.now, both_none _ _ (λ by plane. strokes_none plane), notes-none (Block c.args.self.now.lump.now) g.row.SLOTS, length-replicate g.row.SLOTS 0)

pub paint_posts-requires-clause-inside : goal.paint_posts-requires-clause-inside
paint_posts-requires-clause-inside g c =
    as_after c.loop-column.invariant.0 (λ lump width. c.loop-column.column < width) c.loop-column-test.true

pub paint_posts-requires-clause-passes : goal.paint_posts-requires-clause-passes
paint_posts-requires-clause-passes g c =
    let a = c.args.self.now in
    let column = c.loop-column.column in
    as_after c.loop-column.invariant.0
    (λ lump width. posts_check (length lump) lump (height_of lump) column c.u32_at-offset.result 0 ≡ Ok tt)
    (column_pass a.lump.now a.width _ column _ a.passes c.loop-column-test.true c.u32_at-offset.ensures)

pub paint_posts-requires-clause-notes : goal.paint_posts-requires-clause-notes
paint_posts-requires-clause-notes g c =
    as_after c.loop-column.invariant.0 (λ lump width. Notes (Block lump) c.loop-column.notes) c.loop-column.invariant.2

pub loop-column-preserved : goal.loop-column-preserved
loop-column-preserved g c =
    let i = c.loop-column.invariant in
    let l = c.loop-column in
    let a = c.args.self.now in
    let s = c.paint_posts.ensures in
    let new = c.paint_posts.new.self in
    let painted = as_before i.0
    (λ lump width. PaintsPosts lump width l.column c.u32_at-offset.result l.self.colour.now l.self.cover.now new.colour.now new.cover.now)
    s.painted in (
      same_then i.0 s.same,
      both_then i.1 painted (λ by x y z. columns-more by a.lump.now l.column c.loop-column-test.true c.u32_at-offset.ensures),
      as_before i.0 (λ lump width. Notes (Block lump) c.paint_posts.new.notes) s.notes_2,
      search rules,
    )
