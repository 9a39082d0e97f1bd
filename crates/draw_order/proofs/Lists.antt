-- Laws of the lists: the cases of a child and of a node, as the code meets them. Assumes nothing.
use Prim.Native.Nat.{ℕ, suc, ◌+◌, ◌-◌, ◌*◌, ◌%◌, ◌≤◌, ◌<◌}
use mathlib.Core.Bool.{true, false}
use mathlib.Core.List.{List, [], ◌∷◌}
use mathlib.Core.Path.{◌≡◌, refl}
use borrow.Author.Tests.{leb-true, lt-ltb, le-ltb}
use lib.Dec.{leb, eqb}
use lib.IntN.{ℤ}
use lib.ListN.{length}
use Rattle.refusal.specs.declared.Refusal.TheVariants.{DescentNodes, DescentSubsectors, DescentChild, OrderDepth, OrderWords, OrderLength}
use Rattle.std.specs.Prelude.{Ok}
use Rattle.refusal.specs.Checks.{unless}
use Rattle.refusal.proofs.Checks.{both, unless_pass, and_then_pass}
use Rattle.record.specs.Nodes.{node_size}
use Rattle.node.specs.declared.Choice.{Choice}
use Rattle.node.specs.Nodes.{nodes_of, subsector_bit, child_of, child_ok}
use Rattle.node_descent.specs.Side.{side_at}
use Rattle.node_descent.specs.Walks.{nodes_ok, subsectors_ok}
use Rattle.node_descent.proofs.Walks.{nodes_ok-whole}
use Rattle.draw_order.specs.Lists.{listed, stopped, most_passed, other, joined, node_order, child_order, root_order, order_check}

module _ (nodes : List ℕ) (subsectors : ℕ) (x y : ℤ) where
  -- ---- a node

  pub node-none : (at i : ℕ) → node_order nodes subsectors x y 0 at i ≡ stopped OrderDepth
  unfolding node_order
  node-none at i = refl

  pub node-more : (more at i : ℕ)
      → node_order nodes subsectors x y (suc more) at i
      ≡ joined at (child_order nodes subsectors x y more at i (side_at nodes x y i))
      (λ next. child_order nodes subsectors x y more next i (other (side_at nodes x y i)))
  unfolding node_order
  node-more more at i = refl

  -- ---- a child

  module _ (more at i : ℕ) (c : Choice) where
    pub child_outside : child_ok (nodes_of nodes) subsectors (child_of nodes i c) ≡ false
        → child_order nodes subsectors x y more at i c ≡ stopped (DescentChild i)
    child_outside e = rw e

    module _ (ok : child_ok (nodes_of nodes) subsectors (child_of nodes i c) ≡ true) where
      pub child_node : child_of nodes i c < subsector_bit
          → child_order nodes subsectors x y more at i c ≡ node_order nodes subsectors x y more at (child_of nodes i c)
      child_node h = rw (ok, lt-ltb (child_of nodes i c) subsector_bit h)

      pub child_full : subsector_bit ≤ child_of nodes i c → nodes_of nodes + 1 ≤ at
          → child_order nodes subsectors x y more at i c ≡ stopped OrderLength
      child_full h full = rw (ok, le-ltb (child_of nodes i c) subsector_bit h, le-ltb at (nodes_of nodes + 1) full)

      pub child_entry : subsector_bit ≤ child_of nodes i c → at < nodes_of nodes + 1
          → child_order nodes subsectors x y more at i c ≡ listed ((child_of nodes i c - subsector_bit) ∷ [])
      child_entry h room = rw (ok, le-ltb (child_of nodes i c) subsector_bit h, lt-ltb at (nodes_of nodes + 1) room)

  -- ---- the root

  pub root_none : nodes_of nodes ≡ 0 → root_order nodes subsectors x y ≡ listed (0 ∷ [])
  root_none e = rw e

  pub root-some : 0 < nodes_of nodes
      → root_order nodes subsectors x y ≡ node_order nodes subsectors x y most_passed 0 (nodes_of nodes - 1)
  root-some h = rw (lt-ltb 0 (nodes_of nodes) h)

-- what is known once 40, 41 and 45 pass
pub order-known : (nodes : List ℕ) (subsectors lent : ℕ) → order_check nodes subsectors lent ≡ Ok tt
    → (node_size * nodes_of nodes ≡ length nodes) × (nodes_of nodes ≤ 32767) × (nodes_of nodes + 1 ≤ lent)
order-known nodes subsectors lent e =
    let p = and_then_pass (unless (nodes_ok nodes) DescentNodes) _ e in
    let ok = unless_pass (nodes_ok nodes) DescentNodes p.0 in
    let q = and_then_pass (unless (subsectors_ok (nodes_of nodes) subsectors) DescentSubsectors) _ p.1 in (
      nodes_ok-whole nodes ok,
      leb-true (nodes_of nodes) 32767 (both (eqb (length nodes % node_size) 0) _ ok).1,
      leb-true (nodes_of nodes + 1) lent (unless_pass (leb (nodes_of nodes + 1) lent) OrderWords q.1),
    )
