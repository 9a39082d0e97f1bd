-- `node_sharing::shares` meets its contract: at first nothing is seen, and a child that came twice stays the answer. Assumes nothing.
use Prim.Native.Nat.{◌+◌}
use mathlib.Core.Bool.{Bool}
use mathlib.Core.Path.{sym, subst}
use borrow.Author.Rules.{rules}
use Rattle.node_sharing.specs.Inner.{Met}
use Rattle.node_sharing.proofs.Children.{seen_none, repeats-kept}
use Rattle.node_sharing.proofs.shares.Goals as goal
use Rattle.node_sharing.proofs.shares.Goals.{After-meets_again}

-- what the look at a node answers
abbrev Answer : After-meets_again → Bool → Type 0
Answer c = Met c.args.nodes.now c.args.marks.now (c.loop-node.node + 1) c.meets_again.new.seen

pub loop-node-init : goal.loop-node-init
loop-node-init c = seen_none _ _

pub returns-then-meets_again : goal.returns-then-meets_again
returns-then-meets_again c =
    let i = c.loop-node.node in
    let again = subst (Answer (goal.at.returns-then-meets_again c).After-meets_again) c.if-meets_again.true c.meets_again.ensures in
    sym (repeats-kept c.args.nodes.now c.args.marks.now (i + 1) c.args.count again (search rules))
