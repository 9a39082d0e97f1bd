-- A list is accepted exactly if it is an order as the request asks, and there is room. Assumes nothing.
use Prim.Native.Nat.{ℕ, zero, suc, ◌*◌, ◌≤◌, ◌<◌}
use mathlib.Core.Bool.{true, not}
use mathlib.Core.List.{List, [], ◌∷◌, ◌++◌}
use mathlib.Core.Logic.{⊎_elim, ◌↔◌}
use mathlib.Core.Path.{◌≡◌, ◌∙◌}
use native.Mathlib.Omega.{arith}
use borrow.Author.Tests.{ltb-true, lt-ltb, le-ltb, leb-true, le-leb, eqb-true, eq-eqb, not-true}
use lib.ListN.{length}
use Rattle.std.specs.Prelude.{Ok}
use Rattle.refusal.specs.declared.Refusal.TheVariants.{RenumberNodes, RenumberChild, RenumberRoot, RenumberLength}
use Rattle.refusal.specs.Checks.{unless}
use Rattle.refusal.proofs.Checks.{both, unless_pass, and_then_pass}
use Rattle.record.specs.Nodes.{node_size}
use Rattle.node.specs.declared.Choice.{Choice}
use Rattle.node.specs.declared.Choice.TheVariants.{Right, Left}
use Rattle.node.specs.Nodes.{nodes_of, subsector_bit, child_of, root}
use Rattle.node_route.specs.Heights.{repeats}
use Rattle.node_route.specs.Reach.{reached_nodes, HoldsOnce}
use Rattle.node_route.proofs.Heights.{node_or_end}
use Rattle.renumber_order.specs.Orders.{index_in, many_ok, once_ok, root_ok, child_first, children_ok, renumber_check}
use Rattle.renumber_order.specs.Orders.{old_at}
use Rattle.theorem_renumber.specs.Promises.{ReachedNode, GoodOrder}
use Rattle.renumber_order.proofs.Checking.{children_none, children_suc, children_each}
use Rattle.theorem_renumber.proofs.Held.{at_place, place-least, same_length, holds-all, all-member, member-all, last-ends, ends_last}

module _ (nodes order : List ℕ) where
  -- ---- both children of each node

  each_children : (n : ℕ) → ((i : ℕ) → i < n → (c : Choice) → child_first nodes order i c ≡ true) → children_ok nodes order n ≡ true
  each_children zero h = children_none nodes order
  each_children (suc n) h =
      let rest = each_children n (λ i l. h i (omega arith)) in
      let right = h n (omega arith) Right in
      let left = h n (omega arith) Left in
      children_suc nodes order n ∙ rw (rest, right, left)

  -- a child node stands before its parent
  child_before : (i : ℕ) (c : Choice) → child_first nodes order i c ≡ true → child_of nodes (old_at order i) c < subsector_bit
      → index_in order (child_of nodes (old_at order i) c) < i
  child_before i c e h =
      let w = child_of nodes (old_at order i) c in
      ltb-true (index_in order w) i (rw (lt-ltb w subsector_bit h) at e)

  before_child : (i : ℕ) (c : Choice) → (child_of nodes (old_at order i) c < subsector_bit → index_in order (child_of nodes (old_at order i) c) < i)
      → child_first nodes order i c ≡ true
  before_child i c f =
      let w = child_of nodes (old_at order i) c in
      ⊎_elim
      (λ (h : w < subsector_bit). rw (lt-ltb w subsector_bit h, lt-ltb (index_in order w) i (f h)))
      (λ (h : subsector_bit ≤ w). rw (le-ltb w subsector_bit h))
      (node_or_end w)

  -- ---- the list

  module _ (held : HoldsOnce (ReachedNode nodes) (reached_nodes nodes)) where
    good : many_ok nodes order ≡ true → once_ok nodes order ≡ true → root_ok nodes order ≡ true
        → children_ok nodes order (length order) ≡ true → GoodOrder nodes order
    good long each ends children =
        let p = both _ (not (repeats order)) each in
        let once = not-true (repeats order) p.1 in
        let all = all-member order (reached_nodes nodes) p.0 in
        let many = eqb-true (length order) (length (reached_nodes nodes)) long in
        record {
          holds =
              record {
                every = λ v r. holds-all order (reached_nodes nodes) once all many v (held.every v r);
                only = λ v m. held.only v (all v m);
                once = once;
              };
          ends = last-ends (root (nodes_of nodes)) order ends;
          first = λ i h c n.
              let before = child_before i c (children_each nodes order (length order) children i h c) n in
              let w = child_of nodes (old_at order i) c in
              (index_in order w, (before, at_place order w (omega arith)));
        }

    length-good : GoodOrder nodes order → many_ok nodes order ≡ true
    length-good g =
        eq-eqb (length order) (length (reached_nodes nodes)) (same_length (ReachedNode nodes) order (reached_nodes nodes) g.holds held)

    once-good : GoodOrder nodes order → once_ok nodes order ≡ true
    once-good g =
        rw (member-all order (reached_nodes nodes) (λ v m. held.every v (g.holds.only v m)), g.holds.once)

    root-good : GoodOrder nodes order → root_ok nodes order ≡ true
    root-good g =
        ⊎_elim
        (λ (e : order ≡ []). rw e)
        (λ (e : (before : List ℕ) × (order ≡ before ++ (root (nodes_of nodes) ∷ []))). rw e.1 (ends_last (root (nodes_of nodes)) e.0))
        g.ends

    children_good : GoodOrder nodes order → children_ok nodes order (length order) ≡ true
    children_good g =
        each_children (length order)
        (λ i h c. before_child i c
        (λ n.
        let p = g.first i h c n in
        let least = place-least order p.0 (omega (arith, p.1.0)) in
        let here : index_in order (child_of nodes (old_at order i) c) ≤ p.0 = rw p.1.1 at least in
        omega (arith, p.1.0, here)))

    pub exactly-good : (room : ℕ) → renumber_check nodes order room ≡ Ok tt ↔ (GoodOrder nodes order × (node_size * length order ≤ room))
    exactly-good room = (
      λ (e : renumber_check nodes order room ≡ Ok tt).
          let a = and_then_pass (unless (many_ok nodes order) RenumberLength) _ e in
          let b = and_then_pass (unless (once_ok nodes order) RenumberNodes) _ a.1 in
          let c = and_then_pass (unless (root_ok nodes order) RenumberRoot) _ b.1 in
          let d = and_then_pass (unless (children_ok nodes order (length order)) RenumberChild) _ c.1 in (
            good (unless_pass _ _ a.0) (unless_pass _ _ b.0) (unless_pass _ _ c.0) (unless_pass _ _ d.0),
            leb-true (node_size * length order) room (unless_pass _ _ d.1),
          ),
      λ (p : GoodOrder nodes order × (node_size * length order ≤ room)).
          let g = p.0 in
          rw (length-good g, once-good g, root-good g, children_good g, le-leb (node_size * length order) room p.1),
    )
