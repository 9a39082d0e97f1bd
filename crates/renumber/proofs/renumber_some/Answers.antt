-- `renumber::renumber_some` meets its contract: the graph and the list are judged, and then the nodes are written. Assumes nothing.
use mathlib.Core.Path.{refl, sym, ◌∙◌}
use lib.ListN.{length}
use Rattle.std.specs.Prelude.{Ok}
use Rattle.renumber.specs.Inner.{Writable}
use Rattle.renumber.proofs.Rows.{nodes_done}
use Rattle.renumber.proofs.Outcomes.{writable, renumbered-by}
use Rattle.renumber.proofs.renumber_some.Goals as goal
use Rattle.renumber.proofs.renumber_some.Goals.{In_ok-judge_graph}

-- what passed can be written
ready : (c : In_ok-judge_graph)
    → (let a = c.args in
    Writable a.graph.now.nodes.now a.graph.now.count c.judge_graph.new.words a.order.now (length a.out.now))
ready c =
    writable c.args.graph.now.nodes.now c.args.graph.now.count c.args.order.now (length c.args.out.now) c.judge_graph.ensures c.in_ok-judge_graph.was

pub returns : goal.returns
returns c =
    renumbered-by c.args.graph.now.nodes.now c.args.order.now c.args.out.now (Ok tt) (sym c.judge_graph.ensures.tells ∙ c.in_ok-judge_graph.was) refl
    (c.write_nodes.ensures ∙ nodes_done _ _ _ _ _ (ready (goal.at.returns c).In_ok-judge_graph) c.args.out.now refl)
