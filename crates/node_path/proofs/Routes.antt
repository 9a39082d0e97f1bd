-- On an accepted graph the list is a route as long as the depth: where no more than `k` choices can be made from a word its height
-- is the same for every number above `k`, and the child that goes as deep has one less. Assumes nothing.
use Prim.Native.Nat.{ℕ, zero, suc, max, ◌≤◌, ◌<◌}
use mathlib.Core.Bool.{Bool, true, false, cond}
use mathlib.Core.List.{List, [], ◌∷◌}
use mathlib.Core.Logic.{⊎_elim}
use mathlib.Core.Path.{◌≡◌, refl, sym, ap, ◌∙◌}
use native.Mathlib.Nat.{le_of_suc-le-suc, max-eq_left, max-eq_right, not-suc-le-zero}
use native.Mathlib.Omega.{arith}
use borrow.Author.Tests.{ltb-false, lt-ltb, le-ltb, leb-true, leb-false}
use lib.Dec.{leb}
use lib.ListN.{length}
use Rattle.node.specs.declared.Choice.{Choice}
use Rattle.node.specs.declared.Choice.TheVariants.{Right, Left}
use Rattle.node.specs.Nodes.{nodes_of, subsector_bit, is_node, child_of, root}
use Rattle.node_route.specs.Routes.{Follow}
use Rattle.node_route.specs.Heights.{stands, height}
use Rattle.node_route.proofs.Heights.{node_or_end, stands-none, stands_child, height-node, height-end}
use Rattle.node_route.proofs.Verdict.{depth_verdict}
use Rattle.node_graph.specs.Ways.{deep_choice, depth_below}
use Rattle.node_path.specs.Ways.{route_from, route_of}
use Rattle.node_path.specs.Promises.{end_of, ByRule, RouteHolds}

module _ (nodes : List ℕ) where
  abbrev count : ℕ
  count = nodes_of nodes

  pub route-none : (w : ℕ) → route_from nodes 0 w ≡ []
  unfolding route_from
  route-none w = refl

  route-more : (fuel w : ℕ)
      → route_from nodes (suc fuel) w
      ≡ cond (is_node w) (deep_choice nodes w ∷ route_from nodes fuel (child_of nodes w (deep_choice nodes w))) []
  unfolding route_from
  route-more fuel w = refl

  route-end : (fuel w : ℕ) → subsector_bit ≤ w → route_from nodes fuel w ≡ []
  route-end zero w h = route-none w
  route-end (suc fuel) w h = rw (route-more fuel w, le-ltb w subsector_bit h)

  route-goes : (fuel w : ℕ) → w < subsector_bit
      → route_from nodes (suc fuel) w ≡ deep_choice nodes w ∷ route_from nodes fuel (child_of nodes w (deep_choice nodes w))
  route-goes fuel w h = rw (route-more fuel w, lt-ltb w subsector_bit h)

  -- ---- heights

  height-same : (k m w : ℕ) → stands nodes k w ≡ false → k ≤ m → height nodes m w ≡ height nodes k w
  height-same zero m w e l =
      let end = ltb-false w subsector_bit (sym (stands-none nodes w) ∙ e) in height-end nodes m end ∙ sym (height-end nodes 0 end)
  height-same (suc k) zero w e l = absurd (not-suc-le-zero l)
  height-same (suc k) (suc m) w e l =
      ⊎_elim
      (λ (h : w < subsector_bit).
      let below : (c : Choice) → height nodes m (child_of nodes w c) ≡ height nodes k (child_of nodes w c) =
      λ c. height-same k m (child_of nodes w c) (stands_child nodes k h e c) (le_of_suc-le-suc l) in
      rw (height-node nodes m h, height-node nodes k h, below Right, below Left))
      (λ (h : subsector_bit ≤ w). height-end nodes (suc m) h ∙ sym (height-end nodes (suc k) h))
      (node_or_end w)

  -- the child of the rule is the deeper one
  deeper : (w : ℕ) → max (depth_below nodes w Right) (depth_below nodes w Left) ≡ depth_below nodes w (deep_choice nodes w)
  deeper w = by (leb (depth_below nodes w Left) (depth_below nodes w Right)) refl
    where
      by : (b : Bool) → leb (depth_below nodes w Left) (depth_below nodes w Right) ≡ b
          → max (depth_below nodes w Right) (depth_below nodes w Left) ≡ depth_below nodes w (cond b Right Left)
      by true e = max-eq_left (leb-true (depth_below nodes w Left) (depth_below nodes w Right) e)
      by false e =
          let less = leb-false (depth_below nodes w Left) (depth_below nodes w Right) e in
          max-eq_right (omega arith)

  -- ---- the list from a word on

  record Holds (w : ℕ) (cs : List Choice) : Type 0 where
    leads : Follow nodes w cs (end_of nodes w cs)
    ends : subsector_bit ≤ end_of nodes w cs
    many : length cs ≡ height nodes count w
    rule : ByRule (deep_choice nodes) nodes w cs

  holds-end : (w : ℕ) → subsector_bit ≤ w → Holds w []
  holds-end w h = record { leads = refl; ends = h; many = sym (height-end nodes count h); rule = refl }

  holds : (fuel w : ℕ) → stands nodes fuel w ≡ false → fuel ≤ count → Holds w (route_from nodes fuel w)
  holds zero w e l =
      rw (route-none w) (holds-end w (ltb-false w subsector_bit (sym (stands-none nodes w) ∙ e)))
  holds (suc fuel) w e l =
      ⊎_elim
      (λ (h : w < subsector_bit).
      rw (route-goes fuel w h)
      (goes h (holds fuel (child_of nodes w (deep_choice nodes w)) (stands_child nodes fuel h e (deep_choice nodes w)) (omega arith))))
      (λ (h : subsector_bit ≤ w). rw (route-end (suc fuel) w h) (holds-end w h))
      (node_or_end w)
    where
      tall : w < subsector_bit → height nodes count w ≡ suc (depth_below nodes w (deep_choice nodes w))
      tall h =
          let below : (c : Choice) → depth_below nodes w c ≡ height nodes fuel (child_of nodes w c) =
          λ c. height-same fuel count (child_of nodes w c) (stands_child nodes fuel h e c) (omega arith) in
          height-same (suc fuel) count w e l ∙ height-node nodes fuel h
          ∙ ap suc ((λ i. max (sym (below Right) i) (sym (below Left) i)) ∙ deeper w)

      goes : w < subsector_bit → Holds (child_of nodes w (deep_choice nodes w)) (route_from nodes fuel (child_of nodes w (deep_choice nodes w)))
          → Holds w (deep_choice nodes w ∷ route_from nodes fuel (child_of nodes w (deep_choice nodes w)))
      goes h below =
          record {
            leads = (h, below.leads);
            ends = below.ends;
            many = ap suc below.many ∙ sym (tall h);
            rule = ap (λ (ds : List Choice). deep_choice nodes w ∷ ds) below.rule;
          }

  pub route-holds : RouteHolds nodes
  route-holds depth e =
      let (straight, alone, high) = depth_verdict nodes e in
      let h = holds count (root count) straight (omega arith) in
      record {
        route = record { stand = end_of nodes (root count) (route_of nodes); leads = h.leads; ends = h.ends };
        many = h.many ∙ high;
        rule = h.rule;
      }
