-- `picture_paint::canvas::Canvas::paint_posts` meets its contract: whatever the posts that are left make of the planes as they are
-- now, all posts make of the planes as they were. The measure is what is left of the lump. Assumes nothing.
use Prim.Native.Nat.{◌≤◌, ◌<◌}
use mathlib.Core.Path.{◌≡◌}
use native.Mathlib.Omega.{arith}
use lib.ListN.{length}
use Rattle.picture_header.specs.Layout.{height_of, post_end, end_row}
use Rattle.picture_paint.specs.Inner.{PaintsPost}
use Rattle.picture.proofs.Inner.{over_on}
use Rattle.picture_paint.proofs.Canvases.{same_then, as_before, as_after}
use Rattle.picture_paint.proofs.Painting.{painting_inside, painting_next, painting_more, painting_done, painting_over}
use Rattle.picture_paint.proofs.canvas.Canvas.paint_posts.Goals as goal
use Rattle.picture_paint.proofs.canvas.Canvas.paint_posts.Goals.{After-paint_post-next}

-- where the next post is, by the lump as it was
next : (c : After-paint_post-next) → c.paint_post-next.result ≡ post_end c.args.self.now.lump.now c.loop-lump.at
next c =
    as_before c.loop-lump.invariant.0 (λ lump width. c.paint_post-next.result ≡ post_end lump c.loop-lump.at) c.paint_post-next.ensures.value

pub bounds-lump-at : goal.bounds-lump-at
bounds-lump-at c = painting_inside _ _ _ _ c.loop-lump.invariant.1

pub returns-then-start-clause-painted : goal.returns-then-start-clause-painted
returns-then-start-clause-painted c = painting_done _ _ _ _ c.loop-lump.invariant.1 c.if-start.true

pub paint_post-next-requires : goal.paint_post-next-requires
paint_post-next-requires c =
    let i = c.loop-lump.invariant in
    let at = c.loop-lump.at in
    let n = painting_next _ _ _ _ i.1 c.if-start.false in
    as_after i.0 (λ lump width. (c.args.column < width) × (post_end lump at ≤ length lump) × (end_row lump at ≤ height_of lump))
    (c.requires.inside, n.inside, n.rows)

pub skip_posts-at-requires-clause-from_in_bounds : goal.skip_posts-at-requires-clause-from_in_bounds
skip_posts-at-requires-clause-from_in_bounds c =
    let post = c.if-start.false in
    let n = painting_next _ _ _ _ c.loop-lump.invariant.1 post in
    (rw (next (goal.at.skip_posts-at-requires-clause-from_in_bounds c).After-paint_post-next) n.inside, post)

pub loop-lump-smaller : goal.loop-lump-smaller
loop-lump-smaller c =
    let on = over_on _ c.skip_posts-at.ensures.over in
    omega (arith, on, next (goal.at.loop-lump-smaller c).After-paint_post-next, painting_inside _ _ _ _ c.loop-lump.invariant.1)

pub loop-lump-preserved : goal.loop-lump-preserved
loop-lump-preserved c =
    let i = c.loop-lump.invariant in
    let l = c.loop-lump in
    let s = c.paint_post-next.ensures in
    let o = c.skip_posts-at.ensures in
    let new = c.paint_post-next.new.self in
    let painted = as_before i.0 (λ lump width. PaintsPost lump width c.args.column l.at l.self.colour.now l.self.cover.now new.colour.now new.cover.now) s.painted in (
      same_then i.0 s.same,
      painting_over _ _ _ _ (painting_more _ _ _ _ i.1 c.if-start.false (next (goal.at.loop-lump-preserved c).After-paint_post-next) painted) o.over,
      o.notes_2,
    )
