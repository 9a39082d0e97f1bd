-- `renumber_order::judge_explored` meets its contract: a shared child, or the list. Assumes nothing.
use mathlib.Core.Path.{◌≡◌, sym, ◌∙◌}
use Rattle.node_route.specs.Heights.{graph_verdict}
use Rattle.std.specs.Prelude.{Ok}
use Rattle.node_graph.proofs.Words.{searchable}
use Rattle.node_graph.proofs.Sharing.{answers-shared, answers_depth}
use Rattle.renumber_order.proofs.Marking.{marks_explored}
use Rattle.renumber_order.proofs.Outcomes.{judged-shared, judged-order}
use Rattle.renumber_order.proofs.judge_explored.Goals as goal
use Rattle.renumber_order.proofs.judge_explored.Goals.{Else-shares}

-- no child is shared
deep : (c : Else-shares)
    → (let a = c.args in graph_verdict a.graph.now.nodes.now ≡ Ok a.depth)
deep c =
    answers_depth _ _ _ _ (searchable c.args.graph.now c.requires.0) c.requires.1 (sym c.shares.ensures ∙ c.if-shares.false)

pub returns-then-shares : goal.returns-then-shares
returns-then-shares c =
    judged-shared c.args.graph.now.nodes.now c.args.graph.now.count c.args.order.now c.args.room
    (answers-shared _ _ _ _ (searchable c.args.graph.now c.requires.0) c.requires.1 (sym c.shares.ensures ∙ c.if-shares.true)) _

pub judge_order-requires : goal.judge_order-requires
judge_order-requires c =
    (c.requires.0, marks_explored _ _ _ _ (searchable c.args.graph.now c.requires.0) c.requires.1 (deep (goal.at.judge_order-requires c).Else-shares))

pub returns : goal.returns
returns c =
    judged-order c.args.graph.now.nodes.now c.args.graph.now.count c.args.order.now c.args.room (deep (goal.at.returns c).Else-shares)
    c.judge_order.ensures
