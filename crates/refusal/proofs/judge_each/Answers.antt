-- `refusal::judge_each` meets its contract. Assumes nothing.
use Rattle.std.proofs.Common.{rules, Ok, Err, refl}
use Rattle.refusal.proofs.Checks.{each_none, each_more, each-stop}
use Rattle.refusal.proofs.judge_each.Goals as goal

pub loop-i-init : goal.loop-i-init
loop-i-init g c = λ f h. each_none f

pub loop-i-preserved : goal.loop-i-preserved
loop-i-preserved g c =
    λ f h.
    each_more f c.loop-i.i (c.loop-i.invariant f h) (h c.loop-i.i (Ok tt) c.loop-i-test.true c.in_ok-check.ensures) refl

pub returns-in_err-check : goal.returns-in_err-check
returns-in_err-check g c =
    λ f h.
    let told = h c.loop-i.i (Err c.in_err-check.field-0.0) c.loop-i-test.true c.in_err-check.ensures in
    let stop = each-stop f c.loop-i.i c.args.n (c.loop-i.invariant f h) told refl c.loop-i-test.true in
    search (rules, stop)
