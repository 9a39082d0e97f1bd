-- `renumber_order::places::fill_places` meets its contract. Assumes nothing.
use mathlib.Core.Path.{sym, ◌∙◌}
use native.Mathlib.Omega.{arith}
use Rattle.renumber_order.proofs.Filling.{filling_more, filling_stop, filling_done}
use Rattle.renumber_order.proofs.places.fill_places.Goals as goal

pub returns-then-not-free_ok : goal.returns-then-not-free_ok
returns-then-not-free_ok c =
    let l = c.loop-i in
    filling_stop c.args.count c.args.words.now c.args.order.now l.i l.words l.invariant
    (omega (arith, c.loop-i-test.true)) (sym c.free_ok.ensures ∙ c.if-not-free_ok.true) l.words

pub loop-i-preserved : goal.loop-i-preserved
loop-i-preserved c =
    let l = c.loop-i in
    filling_more c.args.count c.args.words.now c.args.order.now l.i l.words l.invariant c.requires.count_in_bounds.0
    (sym c.free_ok.ensures ∙ c.if-not-free_ok.false)

pub returns : goal.returns
returns c =
    let l = c.loop-i in
    filling_done c.args.count c.args.words.now c.args.order.now l.i l.words l.invariant
    (omega (arith, c.loop-i-test.false, l.auto.i-end)) c.requires.count_in_bounds.1
