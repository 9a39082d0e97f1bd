-- Laws of heights: a subsector's is 0, a node's one more than its taller child's; and what the root's height says.
-- Assumes nothing.
use Prim.Native.Nat.{ℕ, zero, suc, max, ◌≤◌, ◌<◌}
use mathlib.Core.Bool.{false}
use mathlib.Core.List.{List}
use mathlib.Core.Path.{◌≡◌}
use native.Mathlib.Nat.{le_of_suc-le-suc, le_trans, le-max_left, le-max_right}
use native.Mathlib.Omega.{arith}
use Rattle.node.specs.declared.Choice.{Choice}
use Rattle.node.specs.declared.Choice.TheVariants.{Right, Left}
use Rattle.node.specs.Nodes.{subsector_bit, child_of}
use Rattle.node_route.specs.Heights.{stands}
use Rattle.node_graph.specs.Searching.{Tall}
use Rattle.node_route.proofs.Heights.{stands-end, height-end, stands-not, height-node}

module _ (nodes : List ℕ) where
  pub tall-end : (w : ℕ) → subsector_bit ≤ w → Tall nodes w 0
  tall-end w h k l = (stands-end nodes k h, height-end nodes k h)

  pub tall-node : (w a b : ℕ) → w < subsector_bit → Tall nodes (child_of nodes w Right) a → Tall nodes (child_of nodes w Left) b
      → Tall nodes w (suc (max a b))
  tall-node w a b h r l zero k = absurd (omega arith)
  tall-node w a b h r l (suc k) m =
      let right = r k (le_trans (le-max_left a b) (le_of_suc-le-suc m)) in
      let left = l k (le_trans (le-max_right a b) (le_of_suc-le-suc m)) in
      (stands-not nodes k w (by right.0 left.0), rw (height-node nodes k h, right.1, left.1))
    where
      by : stands nodes k (child_of nodes w Right) ≡ false → stands nodes k (child_of nodes w Left) ≡ false
          → (c : Choice) → stands nodes k (child_of nodes w c) ≡ false
      by p q Right = p
      by p q Left = q
