-- `renumber::writing::write_nodes` meets its contract: the nodes before place `i` are stored. Assumes nothing.
use Rattle.std.proofs.Common.{◌≡◌}
use Rattle.std.proofs.Math.Seq.{sets}
use Rattle.layout.specs.Rows.{laid_out}
use Rattle.renumber.specs.Renumbering.{new_node}
use Rattle.renumber.proofs.writing.write_nodes.Given as goal

abbrev pub invariant-loop-i : goal.invariant-loop-i
invariant-loop-i l =
    l.out ≡ sets l.initial.out 0 (laid_out (new_node l.graph.nodes.now l.order) l.i)
