-- `text_gap::read_gap` meets its contract: from `at` on the gap ends where it ends from `from` on. The measure is what is left. Assumes
-- nothing.
use Prim.Native.Nat.{◌-◌}
use mathlib.Core.Path.{sym, ap, ◌∙◌}
use native.Mathlib.Omega.{arith}
use borrow.Author.Tests.{not-false}
use lib.ListN.{length}
use Rattle.text_gap.specs.declared.Mode.{Mode}
use Rattle.text_gap.specs.Gaps.{gap_from}
use Rattle.text_gap.specs.Passing.{blank_at}
use Rattle.text_byte.proofs.Spans.{span_reach}
use Rattle.text_gap.proofs.Scans.{gap-done}
use Rattle.text_gap.proofs.GapRuns.{is_same, between_is, blanks_same}
use Rattle.text_gap.proofs.read_gap.Goals as goal

pub loop-at-smaller : goal.loop-at-smaller
loop-at-smaller c =
    let g = c.comment_at-g in
    let text = c.args.text.now in
    let h = g.ensures.onward (is_same g.result.mode ∙ not-false _ (sym c.ne.ensures ∙ c.if-ne.false)) in
    let r = (span_reach (blank_at text) g.result.at (length text - g.result.at)).0 in
    let e = c.blank_end-at.ensures in
    omega (arith, h, r, e, c.loop-at-test.true)

pub loop-at-preserved : goal.loop-at-preserved
loop-at-preserved c =
    let g = c.comment_at-g in
    let text = c.args.text.now in
    let b = between_is g.result.mode (is_same g.result.mode ∙ not-false _ (sym c.ne.ensures ∙ c.if-ne.false)) in
    c.loop-at.invariant ∙ g.ensures.same
    ∙ ap (λ (m : Mode). gap_from text m g.result.at (length text - g.result.at)) b
    ∙ blanks_same text g.result.at c.blank_end-at.ensures

pub returns : goal.returns
returns c = sym (c.loop-at.invariant ∙ gap-done _ _ _ _ c.loop-at-test.false)
