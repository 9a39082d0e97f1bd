-- `node_graph::judge` meets its contract: the search is lent the first words, and these are cleared after it. Assumes nothing.
use mathlib.Core.Path.{◌≡◌, sym, ◌∙◌}
use Rattle.node.specs.Nodes.{nodes_of}
use Rattle.node.proofs.Nodes.{nodes_of-whole}
use Rattle.node_route.proofs.Verdict.{verdict-none}
use Rattle.node_graph.proofs.judge.Goals as goal

pub returns-then-count-eq0 : goal.returns-then-count-eq0
returns-then-count-eq0 c =
    let none : nodes_of c.args.nodes.now ≡ 0 =
    nodes_of-whole c.args.nodes.now c.args.count c.requires.whole ∙ c.if-count-eq0.true in
    record { verdict = sym (verdict-none _ none); words = rw c.if-count-eq0.true }
