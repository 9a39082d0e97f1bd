-- `renumber_order::children_first` meets its contract. Assumes nothing.
use mathlib.Core.Bool.{◌&&◌}
use mathlib.Core.Path.{◌≡◌, sym, ◌∙◌}
use native.Mathlib.Omega.{arith}
use lib.ListN.{length}
use Rattle.node.specs.declared.Choice.TheVariants.{Right, Left}
use Rattle.renumber_order.specs.Orders.{child_first}
use Rattle.renumber_order.proofs.Checking.{children_none, children_more, children_stop, both_first_lem}
use Rattle.renumber_order.proofs.children_first.Goals as goal
use Rattle.renumber_order.proofs.children_first.Goals.{After-both_before}

-- what the turn's look says of the list
looked : (c : After-both_before)
    → (let nodes = c.args.graph.now.nodes.now in
    let order = c.args.order.now in
    c.both_before.result ≡ child_first nodes order c.loop-i.i Right && child_first nodes order c.loop-i.i Left)
looked c =
    let g = c.args.graph.now in
    c.both_before.ensures
    ∙ both_first_lem g.nodes.now g.count c.args.words.now c.args.order.now c.requires c.loop-i.i (omega (arith, c.loop-i-test.true))

pub loop-i-init : goal.loop-i-init
loop-i-init c = children_none c.args.graph.now.nodes.now c.args.order.now

pub returns-then-not-both_before : goal.returns-then-not-both_before
returns-then-not-both_before c =
    sym (children_stop c.args.graph.now.nodes.now c.args.order.now (length c.args.order.now) c.loop-i.i (omega (arith, c.loop-i-test.true))
    (sym (looked (goal.at.returns-then-not-both_before c).After-both_before) ∙ c.if-not-both_before.true))

pub loop-i-preserved : goal.loop-i-preserved
loop-i-preserved c =
    children_more c.args.graph.now.nodes.now c.args.order.now c.loop-i.i c.loop-i.invariant
    (sym (looked (goal.at.loop-i-preserved c).After-both_before) ∙ c.if-not-both_before.false)
