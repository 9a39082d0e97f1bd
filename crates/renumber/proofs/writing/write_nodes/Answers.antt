-- `renumber::writing::write_nodes` meets its contract: the nodes before place `i` are stored. Assumes nothing.
use Rattle.std.proofs.Common.{List, ℕ, sym, ap, length, arith}
use lib.Seq.{sets}
use Rattle.layout.proofs.LaidOut.{laid_none}
use Rattle.renumber.specs.Renumbering.{new_node}
use Rattle.renumber.proofs.Rows.{nodes_more}
use Rattle.renumber.proofs.writing.write_nodes.Goals as goal

pub loop-i-init : goal.loop-i-init
loop-i-init c =
    let a = c.args in
    sym (ap (λ (x : List ℕ). sets a.out.now 0 x) (laid_none (new_node a.graph.now.nodes.now a.order.now)))

pub loop-i-preserved : goal.loop-i-preserved
loop-i-preserved c =
    let a = c.args in
    let l = c.loop-i in
    nodes_more a.graph.now.nodes.now a.graph.now.count a.words.now a.order.now (length a.out.now) c.requires l.i (omega arith) a.out.now l.invariant c.write_node.ensures
