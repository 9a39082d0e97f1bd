-- The theorem on renumbering, of every accepted map. Assumes nothing.
use Prim.Native.Nat.{ℕ}
use mathlib.Core.List.{List}
use mathlib.Core.Path.{◌≡◌}
use Rattle.node_route.specs.Reach.{reached_nodes, HoldsOnce}
use Rattle.node.proofs.Nodes.{nodes_in_range}
use Rattle.node_route.proofs.Reach.{nodes_held}
use Rattle.node_route.proofs.Verdict.{depth_verdict}
use Rattle.map_check.specs.Verdict.{accepted, nodes_at, subsectors_at, verdict}
use Rattle.theorem_map.proofs.Demands.{known, known_passed}
use Rattle.theorem_renumber.specs.Promises.{ReachedNode, RenumberHolds}
use Rattle.theorem_renumber.proofs.Orders.{exactly-good}
use Rattle.theorem_renumber.proofs.Same.{same_nodes}

module _ (wad name words : List ℕ) where
  -- the reached nodes of an accepted map, each once
  pub accepted_held : (depth marker : ℕ) → verdict wad name words ≡ accepted depth marker
      → HoldsOnce (ReachedNode (nodes_at wad marker)) (reached_nodes (nodes_at wad marker))
  accepted_held depth marker e =
      let k = known wad name words depth marker e in
      let nodes = nodes_at wad marker in
      let (off, alone, is) = depth_verdict nodes k.deep in
      nodes_held nodes off alone (nodes_in_range nodes (subsectors_at wad marker) (known_passed wad name words depth marker k).in_range)

  pub renumber_holds : (order : List ℕ) → RenumberHolds wad name words order
  renumber_holds order =
      record {
        exactly = λ depth marker room e. exactly-good (nodes_at wad marker) order (accepted_held depth marker e) room;
        same = λ depth marker e good.
            let k = known wad name words depth marker e in
            same_nodes (nodes_at wad marker) order (subsectors_at wad marker) (known_passed wad name words depth marker k) good depth k.deep;
      }
