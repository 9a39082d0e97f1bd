-- What holds of a list that is accepted, and of the lump that is written (02, W-212). Assumes nothing.
use Rattle.std.specs.Prelude.{ℕ, ◌*◌, ◌≤◌, ◌<◌, true, List, [], ◌∷◌, ◌++◌, ◌⊎◌, ◌↔◌, ◌≡◌, ℤ, length, Ok}
use Rattle.record.specs.Nodes.{node_size}
use Rattle.node.specs.declared.Choice.{Choice}
use Rattle.node.specs.Nodes.{nodes_of, subsector_bit, child_of, root, node_ok}
use Rattle.node_route.specs.Routes.{Reached}
use Rattle.node_route.specs.Heights.{graph_verdict}
use Rattle.node_route.specs.Reach.{HoldsOnce}
use Rattle.node_descent.specs.Walks.{Walk, descent}
use Rattle.map_check.specs.Verdict.{accepted, nodes_at, subsectors_at, verdict}
use Rattle.renumber_order.specs.Orders.{old_at}
use Rattle.renumber_order.specs.Orders.{renumber_check}
use Rattle.renumber.specs.Renumbering.{renumbered}

-- a node that some list of choices leads to
abbrev pub ReachedNode : List ℕ → ℕ → Type 0
ReachedNode nodes v = Reached nodes v × (v < subsector_bit)

-- the request's words: the list holds each reached node once and nothing else (so it has their length), ends with the
-- root unless it is empty, and has every child node before its parent
pub record GoodOrder (nodes order : List ℕ) : Type 0 where
  pub holds : HoldsOnce (ReachedNode nodes) order
  pub ends : (order ≡ []) ⊎ ((before : List ℕ) × (order ≡ before ++ (root (nodes_of nodes) ∷ [])))
  pub first : (i : ℕ) → i < length order → (c : Choice) → child_of nodes (old_at order i) c < subsector_bit
      → (j : ℕ) × ((j < i) × (old_at order j ≡ child_of nodes (old_at order i) c))

-- what is written for such a list
pub record SameNodes (nodes order : List ℕ) (subsectors depth : ℕ) : Type 0 where
  -- as many nodes as are reached, and no byte more
  pub long : length (renumbered nodes order) ≡ node_size * length order
  -- the graph check passes, with the same depth
  pub deep : graph_verdict (renumbered nodes order) ≡ Ok depth
  -- the children are in range
  pub in_range : (i : ℕ) → i < nodes_of (renumbered nodes order) → node_ok (renumbered nodes order) subsectors i ≡ true
  -- a child that is a node has a smaller number than its parent
  pub below : (i : ℕ) → i < nodes_of (renumbered nodes order) → (c : Choice) → child_of (renumbered nodes order) i c < subsector_bit
      → child_of (renumbered nodes order) i c < i
  -- every point gets the same subsector and count, by the plain walk and by the descent
  pub walks : (x y : ℤ) (subsector count : ℕ) → Walk nodes x y (root (nodes_of nodes)) subsector count
      ↔ Walk (renumbered nodes order) x y (root (nodes_of (renumbered nodes order))) subsector count
  pub descends : (x y : ℤ) → descent (renumbered nodes order) subsectors x y ≡ descent nodes subsectors x y

-- of every accepted map
pub record RenumberHolds (wad name words order : List ℕ) : Type 0 where
  -- a list is accepted exactly if it is good and there is room
  pub exactly : (depth marker room : ℕ) → verdict wad name words ≡ accepted depth marker
      → renumber_check (nodes_at wad marker) order room ≡ Ok tt ↔ (GoodOrder (nodes_at wad marker) order × (node_size * length order ≤ room))
  -- what is then written is the same tree
  pub same : (depth marker : ℕ) → verdict wad name words ≡ accepted depth marker → GoodOrder (nodes_at wad marker) order
      → SameNodes (nodes_at wad marker) order (subsectors_at wad marker) depth
