-- On a graph with a loop the list can be followed, each choice by the rule, and ends at a node met before, no node but that one
-- twice. A word from which as many choices as there are nodes can be made has a child of the same kind: otherwise the words from
-- which exactly 0, 1, 2 .. choices can be made would be more than there are nodes. Assumes nothing.
use Prim.Native.Nat.{ℕ, zero, suc, ◌+◌, ◌≤◌, ◌<◌}
use mathlib.Core.Bool.{Bool, true, false, cond}
use mathlib.Core.List.{List, [], ◌∷◌}
use mathlib.Core.Logic.{◌⊎◌, inl, inr, ⊎_elim}
use mathlib.Core.Path.{◌≡◌, refl, sym, ap, ◌∙◌}
use native.Mathlib.Omega.{arith}
use borrow.Author.Tests.{ltb-false}
use lib.ListN.{length}
use Rattle.refusal.proofs.Checks.{not_both}
use Rattle.node.specs.declared.Choice.{Choice}
use Rattle.node.specs.declared.Choice.TheVariants.{Right, Left}
use Rattle.node.specs.Nodes.{nodes_of, subsector_bit, child_of, root}
use Rattle.node_route.specs.Routes.{Follow}
use Rattle.node_route.specs.Heights.{stands, member, repeats}
use Rattle.node.specs.Ranges.{NodesInRange}
use Rattle.node.proofs.Nodes.{root-node}
use Rattle.node_route.proofs.Heights.{node_or_end, stands-not, stands_child, stands-end, stands-none}
use Rattle.node_route.proofs.Repeats.{member_head, member_tail, member_cons}
use Rattle.node_route.proofs.Reach.{at_most}
use Rattle.node_route.proofs.Verdict.{loop-on, verdict-holds}
use Rattle.node_graph.specs.Ways.{loop_choice}
use Rattle.node_graph.proofs.Ways.{loop-right, loop-left}
use Rattle.node_path.specs.Ways.{loop_from, loop_way}
use Rattle.node_path.specs.Promises.{made_at, end_of, ByRule, LoopWayHolds}

pub none_in : (v : ℕ) → member v [] ≡ true → ⊥
none_in v e = not_both false e refl

module _ (nodes : List ℕ) where
  abbrev count : ℕ
  count = nodes_of nodes

  -- ---- one choice more

  pub loop-none : (met : List ℕ) (w : ℕ) → loop_from nodes 0 met w ≡ []
  unfolding loop_from
  loop-none met w = refl

  loop-more : (fuel : ℕ) (met : List ℕ) (w : ℕ)
      → loop_from nodes (suc fuel) met w
      ≡ cond (member w met) [] (loop_choice nodes w ∷ loop_from nodes fuel (w ∷ met) (child_of nodes w (loop_choice nodes w)))
  unfolding loop_from
  loop-more fuel met w = refl

  pub loop-again : (fuel : ℕ) (met : List ℕ) (w : ℕ) → member w met ≡ true → loop_from nodes fuel met w ≡ []
  loop-again zero met w e = loop-none met w
  loop-again (suc fuel) met w e = rw (loop-more fuel met w, e)

  pub loop-goes : (fuel : ℕ) (met : List ℕ) (w : ℕ) → member w met ≡ false
      → loop_from nodes (suc fuel) met w
      ≡ loop_choice nodes w ∷ loop_from nodes fuel (w ∷ met) (child_of nodes w (loop_choice nodes w))
  loop-goes fuel met w e = rw (loop-more fuel met w, e)

  -- ---- words from which choices can be made

  stands_on : (k w : ℕ) → stands nodes k w ≡ true → w < subsector_bit
  stands_on k w e =
      ⊎_elim (λ (h : w < subsector_bit). h)
      (λ (h : subsector_bit ≤ w). absurd (not_both (stands nodes k w) e (stands-end nodes k h))) (node_or_end w)

  stands_less : (k w : ℕ) → stands nodes k w ≡ false → stands nodes (suc k) w ≡ false
  stands_less zero w e = stands-end nodes 1 (ltb-false w subsector_bit (sym (stands-none nodes w) ∙ e))
  stands_less (suc k) w e =
      ⊎_elim
      (λ (h : w < subsector_bit).
      stands-not nodes (suc k) w (λ c. stands_less k (child_of nodes w c) (stands_child nodes k h e c)))
      (λ (h : subsector_bit ≤ w). stands-end nodes (suc (suc k)) h)
      (node_or_end w)

  some_child : (k w : ℕ) → stands nodes (suc k) w ≡ true → (c : Choice) × (stands nodes k (child_of nodes w c) ≡ true)
  some_child k w e = by (stands nodes k (child_of nodes w Right)) (stands nodes k (child_of nodes w Left)) refl refl
    where
      none : stands nodes k (child_of nodes w Right) ≡ false → stands nodes k (child_of nodes w Left) ≡ false → (c : Choice)
          → stands nodes k (child_of nodes w c) ≡ false
      none r l Right = r
      none r l Left = l

      by : (a b : Bool) → stands nodes k (child_of nodes w Right) ≡ a → stands nodes k (child_of nodes w Left) ≡ b
          → (c : Choice) × (stands nodes k (child_of nodes w c) ≡ true)
      by true b r l = (Right, r)
      by false true r l = (Left, l)
      by false false r l = absurd (not_both _ e (stands-not nodes k w (none r l)))

  module _ (within : NodesInRange nodes) where
    child_inside_lem : (w : ℕ) → w < count → (c : Choice) (k : ℕ) → stands nodes k (child_of nodes w c) ≡ true → child_of nodes w c < count
    child_inside_lem w l c k e = within w l c (stands_on k (child_of nodes w c) e)

    -- different nodes, from each of which `k` choices or fewer can be made, and not `k + 1`
    record Ranks (k : ℕ) : Type 0 where
      ranked : List ℕ
      many : length ranked ≡ suc k
      once : repeats ranked ≡ false
      each : (v : ℕ) → member v ranked ≡ true → (v < count) × (stands nodes (suc k) v ≡ false)

    ranks : (k w : ℕ) → w < count → stands nodes k w ≡ true → stands nodes (suc k) w ≡ false → Ranks k
    ranks zero w l e n =
        record {
          ranked = w ∷ [];
          many = refl;
          once = refl;
          each =
              λ v m.
              ⊎_elim (λ (q : v ≡ w). rw q (l, n)) (λ (q : member v [] ≡ true). absurd (none_in v q)) (member_cons v w [] m);
        }
    ranks (suc k) w l e n =
        let (c, on) = some_child k w e in
        let below = ranks k (child_of nodes w c) (child_inside_lem w l c k on) on (stands_child nodes (suc k) (stands_on (suc k) w e) n c) in
        record {
          ranked = w ∷ below.ranked;
          many = ap suc below.many;
          once = fresh below (member w below.ranked) refl;
          each =
              λ v m.
              ⊎_elim (λ (q : v ≡ w). rw q (l, n))
              (λ (q : member v below.ranked ≡ true).
              let (low, off) = below.each v q in (low, stands_less (suc k) v off))
              (member_cons v w below.ranked m);
        }
      where
        fresh : (below : Ranks k) (b : Bool) → member w below.ranked ≡ b → repeats (w ∷ below.ranked) ≡ false
        fresh below true m = absurd (not_both (stands nodes (suc k) w) e (below.each w m).1)
        fresh below false m = rw (m, below.once)

    -- where as many choices as there are nodes can be made, one more can be
    endless : (w : ℕ) → w < count → stands nodes count w ≡ true → stands nodes (suc count) w ≡ true
    endless w l e = by (stands nodes (suc count) w) refl
      where
        by : (b : Bool) → stands nodes (suc count) w ≡ b → b ≡ true
        by true q = refl
        by false q =
            let r = ranks count w l e q in
            let few = at_most count r.ranked r.once (λ v m. (r.each v m).0) in
            let many = r.many in
            absurd (omega arith)

    next_stands : (w : ℕ) → w < count → stands nodes count w ≡ true → stands nodes count (child_of nodes w (loop_choice nodes w)) ≡ true
    next_stands w l e = by (stands nodes count (child_of nodes w Right)) refl (some_child count w (endless w l e))
      where
        by : (b : Bool) → stands nodes count (child_of nodes w Right) ≡ b → (c : Choice) × (stands nodes count (child_of nodes w c) ≡ true)
            → stands nodes count (child_of nodes w (loop_choice nodes w)) ≡ true
        by true q some = rw (loop-right nodes w q) q
        by false q (Right, on) = absurd (not_both _ on q)
        by false q (Left, on) = rw (loop-left nodes w q) on

    -- ---- the list from a word on

    record Holds (met : List ℕ) (w : ℕ) (cs : List Choice) : Type 0 where
      leads : Follow nodes w cs (end_of nodes w cs)
      rule : ByRule (loop_choice nodes) nodes w cs
      back : (member (end_of nodes w cs) (made_at nodes w cs) ≡ true) ⊎ (member (end_of nodes w cs) met ≡ true)
      once : repeats (made_at nodes w cs) ≡ false
      fresh : (v : ℕ) → member v (made_at nodes w cs) ≡ true → member v met ≡ true → ⊥

    holds-again : (met : List ℕ) (w : ℕ) → member w met ≡ true → Holds met w []
    holds-again met w e = record { leads = refl; rule = refl; back = inr e; once = refl; fresh = λ v m. absurd (none_in v m) }

    holds-goes : (met : List ℕ) (w : ℕ) → member w met ≡ false → w < subsector_bit → (cs : List Choice)
        → Holds (w ∷ met) (child_of nodes w (loop_choice nodes w)) cs → Holds met w (loop_choice nodes w ∷ cs)
    holds-goes met w new node cs h =
        record {
          leads = (node, h.leads);
          rule = ap (λ (ds : List Choice). loop_choice nodes w ∷ ds) h.rule;
          back =
              ⊎_elim
              (λ (m : member end made ≡ true). inl (member_tail end w made m))
              (λ (m : member end (w ∷ met) ≡ true).
              ⊎_elim (λ (q : end ≡ w). inl (member_head end w made q)) (λ (q : member end met ≡ true). inr q) (member_cons end w met m))
              h.back;
          once = by (member w made) refl;
          fresh =
              λ v m n.
              ⊎_elim
              (λ (q : v ≡ w). not_both (member w met) (rw q at n) new)
              (λ (q : member v made ≡ true). h.fresh v q (member_tail v w met n))
              (member_cons v w made m);
        }
      where
        made : List ℕ
        made = made_at nodes (child_of nodes w (loop_choice nodes w)) cs

        end : ℕ
        end = end_of nodes (child_of nodes w (loop_choice nodes w)) cs

        by : (b : Bool) → member w made ≡ b → repeats (w ∷ made) ≡ false
        by true m = absurd (h.fresh w m (member_head w w met refl))
        by false m = rw (m, h.once)

    holds : (fuel : ℕ) (met : List ℕ) (w : ℕ) → length met + fuel ≡ count → repeats met ≡ false
        → ((v : ℕ) → member v met ≡ true → v < count) → w < count → stands nodes count w ≡ true → Holds met w (loop_from nodes fuel met w)
    holds zero met w sum once low l e = by (member w met) refl
      where
        by : (b : Bool) → member w met ≡ b → Holds met w (loop_from nodes 0 met w)
        by true m = rw (loop-again 0 met w m) (holds-again met w m)
        by false m =
            let few = at_most count (w ∷ met) (rw (m, once)) (λ v n. ⊎_elim (λ (q : v ≡ w). rw q l) (low v) (member_cons v w met n)) in
            absurd (omega arith)
    holds (suc fuel) met w sum once low l e =
        let on = next_stands w l e in
        by (member w met) refl
        (λ fresh.
        holds fuel (w ∷ met) (child_of nodes w (loop_choice nodes w)) (omega arith) fresh
        (λ v n. ⊎_elim (λ (q : v ≡ w). rw q l) (low v) (member_cons v w met n))
        (child_inside_lem w l (loop_choice nodes w) count on) on)
      where
        by : (b : Bool) → member w met ≡ b
            → (repeats (w ∷ met) ≡ false
            → Holds (w ∷ met) (child_of nodes w (loop_choice nodes w)) (loop_from nodes fuel (w ∷ met) (child_of nodes w (loop_choice nodes w))))
            → Holds met w (loop_from nodes (suc fuel) met w)
        by true m below = rw (loop-again (suc fuel) met w m) (holds-again met w m)
        by false m below =
            rw (loop-goes fuel met w m)
            (holds-goes met w m (stands_on count w e) (loop_from nodes fuel (w ∷ met) (child_of nodes w (loop_choice nodes w))) (below (rw (m, once))))

  pub loop-holds : LoopWayHolds nodes
  loop-holds within e =
      let on = loop-on nodes ((verdict-holds nodes).loop.0 e) in
      let low = root-node count (stands_on count (root count) on) in
      let h = holds within count [] (root count) (omega arith) refl (λ v m. absurd (none_in v m)) low on in
      let end = end_of nodes (root count) (loop_way nodes) in
      let back = ⊎_elim (λ m. m) (λ (m : member end [] ≡ true). absurd (none_in end m)) h.back in
      record {
        leads = h.leads;
        rule = h.rule;
        back = back;
        once = h.once;
        some = some (loop_way nodes) (root count) back;
      }
    where
      some : (cs : List Choice) (w : ℕ) → member (end_of nodes w cs) (made_at nodes w cs) ≡ true → 0 < length cs
      some [] w m = absurd (none_in w m)
      some (c ∷ cs) w m = omega arith
