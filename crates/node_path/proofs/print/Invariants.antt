-- `node_path::print` meets its contract. The loop's invariant: `node` is the word after `j` choices by the marks, and these are at the
-- output's front. Assumes nothing.
use Prim.Native.Nat.{◌≤◌}
use mathlib.Core.List.{◌++◌}
use mathlib.Core.Path.{◌≡◌}
use lib.ListN.{length, drop}
use Rattle.node_graph.specs.Ways.{word_after}
use Rattle.node_graph.specs.Looks.{mark_of}
use Rattle.node_path.specs.Inner.{told_bytes}
use Rattle.node_path.proofs.print.Given as goal

abbrev pub invariant-loop-j : goal.invariant-loop-j
invariant-loop-j g l =
    (l.j ≤ l.n)
    × (l.node ≡ word_after l.graph.nodes.now (g.R.MarkRule.choice l.graph.nodes.now (mark_of l.words)) l.j)
    × (l.out ≡ told_bytes l.graph.nodes.now (g.R.MarkRule.choice l.graph.nodes.now (mark_of l.words)) l.j ++ drop l.j l.initial.out)
    × (length l.out ≡ length l.initial.out)
