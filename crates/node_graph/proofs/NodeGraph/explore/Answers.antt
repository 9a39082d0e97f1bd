-- `node_graph::NodeGraph::explore` meets its contract. The loop's invariant is the search's state; the measure is what falls with
-- each step. Assumes nothing.
use Prim.Native.Nat.{ℕ}
use mathlib.Core.List.{List}
use mathlib.Core.Path.{◌≡◌, subst, subst⁻¹}
use native.Mathlib.Omega.{arith}
use Rattle.node_graph.specs.Searching.{State}
use Rattle.node_graph.proofs.Words.{searchable, state_start, state_done}
use Rattle.node_graph.proofs.NodeGraph.explore.Goals as goal

pub loop-sp-init : goal.loop-sp-init
loop-sp-init c =
    let g = c.args.self.now in (
      subst⁻¹ (λ (w : List ℕ). State g.nodes.now g.count w 1) c.start.ensures (state_start _ _ _ (searchable g c.requires)),
      omega (arith, c.start.auto.words, c.requires),
    )

pub returns : goal.returns
returns c =
    let g = c.args.self.now in
    let inv = c.loop-sp.invariant in
    let none : c.loop-sp.sp ≡ 0 = omega arith in
    let s = subst (State _ _ c.loop-sp.words) none inv.0 in
    state_done _ _ _ (searchable g inv.1) s
