-- A point's descent is its plain walk, as a statement. The proof is proofs/Descends.antt. Assumes nothing.
use Rattle.std.specs.Prelude.{ℕ, ◌≤◌, List, ◌≡◌, ℤ, Ok}
use Rattle.node.specs.Nodes.{nodes_of, root}
use Rattle.node_descent.specs.Walks.{Walk, descent}

-- the descent of the point (x, y) finds the end and the count of its plain walk, which has no others, and the count is at
-- most `depth`
pub record Descends (nodes : List ℕ) (subsectors : ℕ) (x y : ℤ) (depth : ℕ) : Type 0 where
  pub subsector : ℕ
  pub count : ℕ
  pub found : descent nodes subsectors x y ≡ Ok (record { subsector = subsector; count = count })
  pub walk : Walk nodes x y (root (nodes_of nodes)) subsector count
  pub only : (s k : ℕ) → Walk nodes x y (root (nodes_of nodes)) s k → (s ≡ subsector) × (k ≡ count)
  pub shallow : count ≤ depth
