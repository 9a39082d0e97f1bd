-- `node_path::print_if` meets its contract: all is printed or nothing. Assumes nothing.
use native.Mathlib.Omega.{arith}
use Rattle.node_graph.specs.Looks.{mark_of}
use Rattle.node_path.proofs.Choices.{printed-none}
use Rattle.node_path.proofs.print_if.Goals as goal

pub returns-else-n-out : goal.returns-else-n-out
returns-else-n-out g c =
    let a = c.args in
    let nodes = a.graph.now.nodes.now in
    printed-none nodes (g.R.MarkRule.choice nodes (mark_of a.words.now)) a.n a.out.now (omega (arith, c.if-n-out.false))
