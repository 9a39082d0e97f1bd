-- A draw order that is listed has no route of more than 256 nodes: a longer one stops the walk with 44. Assumes nothing.
use Prim.Native.Nat.{ℕ, zero, suc, max, ◌+◌, ◌-◌, ◌≤◌, ◌<◌, suc-le-suc}
use mathlib.Core.Bool.{Bool, true, false}
use mathlib.Core.List.{List}
use mathlib.Core.Logic.{⊎_elim}
use mathlib.Core.Path.{◌≡◌, refl}
use native.Mathlib.Decide.{dec_lt}
use native.Mathlib.Omega.{arith}
use lib.IntN.{ℤ}
use lib.ListN.{length}
use Rattle.refusal.specs.declared.Refusal.{Refusal}
use Rattle.node.specs.declared.Choice.{Choice}
use Rattle.node.specs.declared.Choice.TheVariants.{Right, Left}
use Rattle.node.specs.Nodes.{nodes_of, subsector_bit, child_of, child_ok, root}
use Rattle.node.proofs.Nodes.{root-last}
use Rattle.node_route.specs.Heights.{height}
use Rattle.node_route.proofs.Heights.{node_or_end, height-none, height-node, height-end}
use Rattle.node_descent.specs.Side.{side_at}
use Rattle.draw_order.specs.Lists.{Listing, listed, stopped, most_passed, other, in_front, joined, node_order, child_order, root_order}
use Rattle.draw_order.proofs.Lists.{node-none, node-more, child_outside, child_node, root-some}
use Rattle.theorem_draw.proofs.Fronts.{either}

-- something is listed
pub record Lists (l : Listing) : Type 0 where
  pub list : List ℕ
  pub is : l ≡ listed list

stops : (r : Refusal) {X : Type 0} → Lists (stopped r) → X
stops r l = let e = l.is in let z : ◌≡◌ {A = ℕ} 0 1 = cc in absurd (omega arith)

-- both of two lists that are joined
joined_both : (at : ℕ) (first : Listing) (next : ℕ → Listing) → Lists (joined at first next)
    → (Lists first) × ((n : ℕ) × Lists (next n))
joined_both at (listed xs) next l = (record { list = xs; is = refl }, (at + length xs, second (next (at + length xs)) l))
  where
    second : (m : Listing) → Lists (in_front xs m) → Lists m
    second (listed ys) k = record { list = ys; is = refl }
    second (stopped r) k = stops r k
joined_both at (stopped r) next l = stops r l

larger : (a b n : ℕ) → a ≤ n → b ≤ n → max a b ≤ n
larger a b n h k = omega arith

module _ (nodes : List ℕ) (subsectors : ℕ) (x y : ℤ) where
  -- what a child of node `i` lists
  module _ (more i : ℕ) (rec : (at v k : ℕ) → Lists (node_order nodes subsectors x y more at v) → height nodes k v ≤ more) where
    child_low : (at : ℕ) (c : Choice) → Lists (child_order nodes subsectors x y more at i c) → (k : ℕ) → height nodes k (child_of nodes i c) ≤ more
    child_low at c l k = by (child_ok (nodes_of nodes) subsectors (child_of nodes i c)) refl
      where
        by : (b : Bool) → child_ok (nodes_of nodes) subsectors (child_of nodes i c) ≡ b → height nodes k (child_of nodes i c) ≤ more
        by false e = stops _ (rw (child_outside nodes subsectors x y more at i c e) at l)
        by true e =
            ⊎_elim
            (λ (h : child_of nodes i c < subsector_bit). rec at (child_of nodes i c) k (rw (child_node nodes subsectors x y more at i c e h) at l))
            (λ (h : subsector_bit ≤ child_of nodes i c). rw (height-end nodes k h) (omega arith))
            (node_or_end (child_of nodes i c))

  node-low : (more at i k : ℕ) → Lists (node_order nodes subsectors x y more at i) → height nodes k i ≤ more
  node-low zero at i k l = stops _ (rw (node-none nodes subsectors x y at i) at l)
  node-low (suc more) at i zero l = rw (height-none nodes i) (omega arith)
  node-low (suc more) at i (suc k) l =
      let near = side_at nodes x y i in
      let two = joined_both at (child_order nodes subsectors x y more at i near) _ (rw (node-more nodes subsectors x y more at i) at l) in
      let rec = node-low more in
      let low : (c : Choice) → height nodes k (child_of nodes i c) ≤ more =
      λ c.
      ⊎_elim
      (λ (e : c ≡ near). rw e (child_low more i rec at near two.0 k))
      (λ (e : c ≡ other near). rw e (child_low more i rec two.1.0 (other near) two.1.1 k))
      (either c near) in
      ⊎_elim
      (λ (h : i < subsector_bit). rw (height-node nodes k h) (suc-le-suc (larger _ _ more (low Right) (low Left))))
      (λ (h : subsector_bit ≤ i). rw (height-end nodes (suc k) h) (omega arith))
      (node_or_end i)

  pub root-low : Lists (root_order nodes subsectors x y) → height nodes (nodes_of nodes) (root (nodes_of nodes)) ≤ most_passed
  root-low l = by (dec_lt 0 (nodes_of nodes))
    where
      by : Dec (0 < nodes_of nodes) → height nodes (nodes_of nodes) (root (nodes_of nodes)) ≤ most_passed
      by (yes h) =
          rw (root-last (nodes_of nodes) h)
          (node-low most_passed 0 (nodes_of nodes - 1) (nodes_of nodes) (rw (root-some nodes subsectors x y h) at l))
      by (no h) =
          let none : nodes_of nodes ≡ 0 = omega arith in
          rw (none, height-none nodes (root 0)) (omega arith)
