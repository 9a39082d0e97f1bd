-- `text_byte::span_end` meets its contract: from where it stands the span ends where it does from the start. Assumes nothing.
use mathlib.Core.Path.{sym, ◌∙◌}
use Rattle.text_byte.proofs.Spans.{span_more, span_stop, span_done, span_exit}
use Rattle.text_byte.proofs.span_end.Goals as goal

pub returns-then-not-test : goal.returns-then-not-test
returns-then-not-test g c = λ p h.
    let at = c.loop-at-test.true in
    sym (c.loop-at.invariant p h ∙ span_stop p c.loop-at.at c.args.end at (h _ _ at c.test.ensures) c.if-not-test.true)

pub loop-at-preserved : goal.loop-at-preserved
loop-at-preserved g c = λ p h.
    let at = c.loop-at-test.true in
    c.loop-at.invariant p h ∙ span_more p c.loop-at.at c.args.end at (h _ _ at c.test.ensures) c.if-not-test.false

pub returns : goal.returns
returns g c = λ p h.
    let l = c.loop-at in
    let from = c.args.from in
    let end = c.args.end in
    c.max.ensures ∙ sym (span_exit p from l.at end (l.invariant p h) c.loop-at-test.false l.auto.at-end)
    ∙ sym (l.invariant p h ∙ span_done p l.at end c.loop-at-test.false)
