-- `picture::columns::Columns::judge_posts` meets its contract: at each turn the posts that are left decide the answer. The measure is what
-- is left of the lump. Assumes nothing.
use Prim.Native.Nat.{suc, ◌≤◌, ◌<◌}
use mathlib.Core.Path.{sym, ◌∙◌}
use native.Mathlib.Omega.{arith}
use borrow.Author.Tests.{leb-true}
use lib.Dec.{leb}
use Rattle.refusal.proofs.Checks.{both}
use Rattle.picture_header.specs.Layout.{start_at, end_row, post_end}
use Rattle.picture.proofs.Inner.{past_on}
use Rattle.picture.proofs.Posts.{rest-first, rest_ended, rest-cut, rest-rows, rest_more, rest_off, rest-past}
use Rattle.picture.proofs.Ends.{judging_first, judging_met, judging_more}
use Rattle.picture.proofs.columns.Columns.judge_posts.Goals as goal
use Rattle.picture.proofs.columns.Columns.judge_posts.Goals.{Then-row-start}

-- the post is inside the lump, and its rows are good
rows_fit : (c : Then-row-start)
    → end_row c.args.self.now.lump.now c.loop-at.at ≤ c.args.self.now.height
rows_fit c =
    leb-true _ _ (both (leb c.loop-at.row (start_at c.args.self.now.lump.now c.loop-at.at)) _ c.if-row-start.true).1

pub loop-at-init : goal.loop-at-init
loop-at-init c =
    let pre = c.requires in
    judging_first _ _ _ _ (rest-first _ _ _ _ (omega (arith, c.args.self.now.table)) pre.from_nonzero) pre.notes

pub returns-then-start-eq255-clause-value : goal.returns-then-start-eq255-clause-value
returns-then-start-eq255-clause-value c =
    let j = c.loop-at.invariant in
    rest_ended _ _ _ j.rest c.if-start-eq255.true

pub returns-then-lump-at-lt4-clause-value : goal.returns-then-lump-at-lt4-clause-value
returns-then-lump-at-lt4-clause-value c =
    let j = c.loop-at.invariant in
    rest-cut _ _ _ j.rest c.if-start-eq255.false (omega arith)

pub returns-then-lump-next-clause-value : goal.returns-then-lump-next-clause-value
returns-then-lump-next-clause-value c =
    let j = c.loop-at.invariant in
    rest-cut _ _ _ j.rest c.if-start-eq255.false c.if-lump-next.true

pub returns-then-is_noted-clause-value : goal.returns-then-is_noted-clause-value
returns-then-is_noted-clause-value c =
    let j = c.loop-at.invariant in
    judging_met _ _ _ j c.if-row-start.true (sym c.is_noted.ensures ∙ c.if-is_noted.true)

pub loop-at-smaller : goal.loop-at-smaller
loop-at-smaller c =
    let l = c.args.self.now.lump.now in
    omega (arith, past_on l (end_row l c.loop-at.at) _ (post_end l c.loop-at.at) _ c.skip_ahead-at.ensures.same)

pub loop-at-preserved : goal.loop-at-preserved
loop-at-preserved c =
    let l = c.args.self.now.lump.now in
    let j = c.loop-at.invariant in
    let r = rest_more _ _ _ j.rest c.if-start-eq255.false c.if-lump-next.false c.if-row-start.true in
    let fits = rows_fit (goal.at.loop-at-preserved c).Then-row-start in
    let low : end_row l c.loop-at.at < 255 = omega (arith, fits) in
    let on = past_on l (end_row l c.loop-at.at) _ (post_end l c.loop-at.at) _ c.skip_ahead-at.ensures.same in
    let further : suc c.loop-at.at ≤ c.skip_ahead-at.result = omega (arith, on) in
    judging_more _ _ _ j c.if-row-start.true c.note.ensures further
    (rest-past _ _ _ _ low fits r c.skip_ahead-at.ensures.same)

pub returns-else-row-start-clause-value : goal.returns-else-row-start-clause-value
returns-else-row-start-clause-value c =
    let j = c.loop-at.invariant in
    rest-rows _ _ _ j.rest c.if-start-eq255.false c.if-lump-next.false c.if-row-start.false

pub returns-clause-value : goal.returns-clause-value
returns-clause-value c = let j = c.loop-at.invariant in rest_off _ _ _ j.rest c.loop-at-test.false
