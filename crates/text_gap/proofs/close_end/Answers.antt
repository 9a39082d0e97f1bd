-- `text_gap::close_end` meets its contract: from `at` on the comment ends where it ends from `from` on. The measure is what is left. Assumes
-- nothing.
use Prim.Native.Nat.{ℕ, ◌+◌, ◌-◌, ◌≤◌, ◌<◌}
use mathlib.Core.Path.{◌≡◌, refl, ap, ◌∙◌}
use native.Mathlib.Omega.{arith}
use borrow.Author.Tests.{eq-eqb, ne_eqb}
use lib.ListN.{length}
use Rattle.text_gap.specs.declared.Mode.TheVariants.{Between, Comment, Star}
use Rattle.text_gap.specs.Gaps.{gap_from}
use Rattle.text_gap.proofs.GapRuns.{comment_stays, star-met, star-closes, star-passes, ends-between, ends_open}
use Rattle.text_gap.proofs.close_end.Goals as goal
use Rattle.text_gap.proofs.close_end.Goals.{After-byte_end-star}

-- the star that was found
met : (c : After-byte_end-star) → let a = c.args in let star = c.byte_end-star.result in
    star < length a.text.now → gap_from a.text.now Comment a.from (length a.text.now - a.from)
    ≡ gap_from a.text.now Star (star + 1) (length a.text.now - (star + 1))
met c h =
    let a = c.args in
    let l = c.loop-at in
    l.invariant.0 ∙ star-met a.text.now l.at c.byte_end-star.ensures l.invariant.2 h

onward : (c : After-byte_end-star) → c.loop-at.at ≤ c.byte_end-star.result
onward c =
    let a = c.args in
    let l = c.loop-at in
    (comment_stays a.text.now l.at c.byte_end-star.ensures l.invariant.2).onward

pub returns-then-text-star : goal.returns-then-text-star
returns-then-text-star c =
    let a = c.args in
    let l = c.loop-at in
    let text = a.text.now in
    let e = c.byte_end-star in
    ends_open text Comment Comment a.from e.result refl (l.invariant.0 ∙ (comment_stays text l.at e.ensures l.invariant.2).same) c.if-text-star.true

pub returns-then-text-star-eq1 : goal.returns-then-text-star-eq1
returns-then-text-star-eq1 c =
    let a = c.args in
    let text = a.text.now in
    let end : c.byte_end-star.result + 1 ≡ length text = omega (arith, c.if-text-star-eq1.true, c.if-text-star.false) in
    ends_open text Comment Star a.from (length text) refl (met (goal.at.returns-then-text-star-eq1 c).After-byte_end-star c.if-text-star.false ∙ ap (λ (k : ℕ). gap_from text Star k (length text - k)) end) (omega arith)

pub returns-then-text-star-eq-SLASH : goal.returns-then-text-star-eq-SLASH
returns-then-text-star-eq-SLASH c =
    let k = c.if-text-star.false in
    let a = c.args in
    let text = a.text.now in
    let star = c.byte_end-star.result in
    let h = onward (goal.at.returns-then-text-star-eq-SLASH c).After-byte_end-star in
    let from = c.loop-at.invariant.1 in
    let inside : star + 1 < length text = omega (arith, c.if-text-star-eq1.false, k) in
    let two : star + 1 + 1 ≡ star + 2 = omega arith in
    ends-between text Comment a.from (star + 2)
    (met (goal.at.returns-then-text-star-eq-SLASH c).After-byte_end-star k ∙ star-closes text (star + 1) inside (eq-eqb _ _ c.if-text-star-eq-SLASH.true) ∙ ap (λ (k : ℕ). gap_from text Between k (length text - k)) two) (omega (arith, h, from))

pub loop-at-smaller : goal.loop-at-smaller
loop-at-smaller c =
    let h = onward (goal.at.loop-at-smaller c).After-byte_end-star in
    omega (arith, h, c.if-text-star.false, c.loop-at-test.true)

pub loop-at-preserved : goal.loop-at-preserved
loop-at-preserved c =
    let k = c.if-text-star.false in
    let a = c.args in
    let text = a.text.now in
    let star = c.byte_end-star.result in
    let h = onward (goal.at.loop-at-preserved c).After-byte_end-star in
    let l = c.loop-at in
    let inside : star + 1 < length text = omega (arith, c.if-text-star-eq1.false, k) in
    (met (goal.at.loop-at-preserved c).After-byte_end-star k ∙ star-passes text (star + 1) inside (ne_eqb _ _ c.if-text-star-eq-SLASH.false), omega (arith, h, l.invariant.1), omega (arith, inside))

pub returns : goal.returns
returns c =
    let a = c.args in
    let l = c.loop-at in
    ends_open a.text.now Comment Comment a.from l.at refl l.invariant.0 c.loop-at-test.false
