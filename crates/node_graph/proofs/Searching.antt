-- The search's state, over the marks and the path as functions: it begins with the root, a node not met yet is put on the
-- path, and the path's end is taken off it with its height. Assumes nothing.
use Prim.Native.Nat.{ℕ, suc, ◌+◌, ◌-◌, ◌≤◌, ◌<◌}
use mathlib.Core.List.{List, []}
use mathlib.Core.Logic.{◌⊎◌, ⊎_elim}
use mathlib.Core.Path.{◌≡◌, refl, sym, ap, ◌∙◌, subst⁻¹}
use native.Mathlib.Decide.{dec_lt}
use native.Mathlib.Nat.{eq-or-lt_of_le}
use native.Mathlib.Omega.{arith}
use borrow.Author.Tests.{ne_eqb}
use lib.Dec.{eqb}
use Rattle.node.specs.declared.Choice.{Choice}
use Rattle.node.specs.Nodes.{nodes_of, subsector_bit, child_of}
use Rattle.node.specs.Ranges.{NodesInRange}
use Rattle.node_route.specs.Routes.{Reached}
use Rattle.node_route.proofs.Places.{reached_child}
use Rattle.node_graph.specs.Searching.{unmet, Tall, Due, Searching}
use Rattle.node.proofs.Nodes.{root-last}
use Rattle.node_graph.proofs.Unmet.{same_or_not, unmet-all, unmet-same, unmet_less}

end_or_below : (n j : ℕ) → j < n + 1 → (j ≡ n) ⊎ (j < n)
end_or_below n j h = eq-or-lt_of_le {n = j} {m = n} (omega arith)

module _ (nodes : List ℕ) (count : ℕ) (least : 1 ≤ count) (most : count ≤ 32767) (counted : nodes_of nodes ≡ count) (within : NodesInRange nodes) where
  -- a child that is a node is one of the lump's
  pub child_inside : (i : ℕ) → i < count → (c : Choice) → child_of nodes i c < subsector_bit → child_of nodes i c < count
  child_inside i l c b = rw counted at (within i (rw counted l) c b)

  root-reached : Reached nodes (count - 1)
  root-reached = record { choices = []; leads = rw (counted, root-last count least) }

  module _ (mark path : ℕ → ℕ) (sp : ℕ) (s : Searching nodes count mark path sp) where
    pub node_on_path : (j : ℕ) → j < sp → path j < subsector_bit
    node_on_path j h = let l = s.in_range j h in omega arith

    met : (j : ℕ) → j < sp → mark (path j) ≡ 0 → ⊥
    met j h e = let m = s.marked j h in omega arith

    -- ---- a node that is put on the path

    module _ (mark' path' : ℕ → ℕ) (v : ℕ) (l : v < count) (new : mark v ≡ 0) (put : mark' v ≡ 65535)
        (other : (i : ℕ) → i < count → (i ≡ v → ⊥) → mark' i ≡ mark i) (below : (j : ℕ) → j < sp → path' j ≡ path j)
        (end : path' sp ≡ v) where
      push_less : unmet mark count ≡ suc (unmet mark' count)
      push_less = unmet_less mark mark' v new (λ e. omega arith) count l other

      kept : (i : ℕ) → i < count → (mark i ≡ 0 → ⊥) → mark' i ≡ 0 → ⊥
      kept i h n e = n (sym (other i h (λ q. n (ap mark q ∙ new))) ∙ e)

      push_linked : 0 < sp → (c : Choice) → v ≡ child_of nodes (path (sp - 1)) c → Due nodes (path (sp - 1)) c → (j : ℕ)
          → j + 1 < sp + 1 → (c : Choice) × (path' (j + 1) ≡ child_of nodes (path' j) c) × Due nodes (path' j) c
      push_linked some c is due j h = by (dec_lt (j + 1) sp)
        where
          by : Dec (j + 1 < sp) → (c : Choice) × (path' (j + 1) ≡ child_of nodes (path' j) c) × Due nodes (path' j) c
          by (yes k) =
              let (way, q, d) = s.linked j k in
              let here = below j (omega arith) in
              (way, rw (below (j + 1) k, here) q, subst⁻¹ (λ (w : ℕ). Due nodes w way) here d)
          by (no k) =
              let last : sp - 1 ≡ j = omega arith in
              let next : j + 1 ≡ sp = omega arith in
              let here = below j (omega arith) in
              (c, rw (next, end, here) (rw last at is), subst⁻¹ (λ (w : ℕ). Due nodes w c) (here ∙ ap path (sym last)) due)

      push_apart : (i j : ℕ) → i < j → j < sp + 1 → path' i ≡ path' j → ⊥
      push_apart i j h k q =
          ⊎_elim
          (λ (e : j ≡ sp).
          let m : i < sp = omega arith in
          met i m (ap mark (sym (below i m) ∙ q ∙ ap path' e ∙ end) ∙ new))
          (λ (m : j < sp). s.apart i j h m (sym (below i (omega arith)) ∙ q ∙ below j m))
          (end_or_below sp j k)

      push_known : 0 < sp → (c : Choice) → v ≡ child_of nodes (path (sp - 1)) c → (i : ℕ) → i < count → (mark' i ≡ 0 → ⊥) → Reached nodes i
      push_known some c is i h n =
          ⊎_elim
          (λ (q : i ≡ v).
          let k : sp - 1 < sp = omega arith in
          let top = s.known (path (sp - 1)) (s.in_range (sp - 1) k) (met (sp - 1) k) in
          rw (q, is) (reached_child nodes (path (sp - 1)) top (node_on_path (sp - 1) k) c))
          (λ (q : i ≡ v → ⊥). s.known i h (λ z. n (other i h q ∙ z)))
          (same_or_not i v)

      -- the state, and one node less that is not met
      pub push : 0 < sp → (c : Choice) → v ≡ child_of nodes (path (sp - 1)) c → Due nodes (path (sp - 1)) c
          → Searching nodes count mark' path' (sp + 1) × (unmet mark count ≡ suc (unmet mark' count))
      push some c is due = (
        record {
          room = (let e = push_less in let r = s.room in omega arith);
          root_met = kept (count - 1) (omega arith) s.root_met;
          first = λ h. below 0 some ∙ s.first some;
          in_range =
              λ j h.
              ⊎_elim
              (λ (e : j ≡ sp). rw (e, end) l)
              (λ (k : j < sp). rw (below j k) (s.in_range j k))
              (end_or_below sp j h);
          marked =
              λ j h.
              ⊎_elim
              (λ (e : j ≡ sp). rw (e, end) put)
              (λ (k : j < sp).
              rw (below j k) (other (path j) (s.in_range j k) (λ q. met j k (ap mark q ∙ new)) ∙ s.marked j k))
              (end_or_below sp j h);
          apart = push_apart;
          linked = push_linked some c is due;
          known = push_known some c is;
          closed =
              λ i h n m d b e.
              let same = other i h (λ q. m (ap mark' q ∙ put)) in
              let low = child_inside i h d b in
              kept (child_of nodes i d) low (s.closed i h (λ z. n (same ∙ z)) (λ z. m (same ∙ z)) d b) e;
          on_path =
              λ i h e.
              ⊎_elim
              (λ (q : i ≡ v). (sp, omega arith, end ∙ sym q))
              (λ (q : i ≡ v → ⊥).
              let (j, k, at) = s.on_path i h (sym (other i h q) ∙ e) in
              (j, omega arith, below j k ∙ at))
              (same_or_not i v);
          tall =
              λ i h n m.
              let same = other i h (λ q. m (ap mark' q ∙ put)) in
              rw same (s.tall i h (λ z. n (same ∙ z)) (λ z. m (same ∙ z)));
          low =
              λ i h n m.
              let same = other i h (λ q. m (ap mark' q ∙ put)) in
              let before = s.low i h (λ z. n (same ∙ z)) (λ z. m (same ∙ z)) in
              let e = push_less in
              omega arith;
        },
        push_less,
      )

    -- ---- the path's end, done

    module _ (some : 0 < sp) (mark' path' : ℕ → ℕ) (h : ℕ) (done : mark' (path (sp - 1)) ≡ suc h)
        (is : Tall nodes (path (sp - 1)) (suc h)) (fits : h + (unmet mark count + sp) ≤ count)
        (children : (c : Choice) → child_of nodes (path (sp - 1)) c < subsector_bit → mark (child_of nodes (path (sp - 1)) c) ≡ 0 → ⊥)
        (other : (i : ℕ) → i < count → (i ≡ path (sp - 1) → ⊥) → mark' i ≡ mark i)
        (below : (j : ℕ) → j < sp - 1 → path' j ≡ path j) where
      last : sp - 1 < sp
      last = omega arith

      met-same : (i : ℕ) → i < count → eqb (mark' i) 0 ≡ eqb (mark i) 0
      met-same i l =
          ⊎_elim
          (λ (q : i ≡ path (sp - 1)).
          rw (q, done, ne_eqb (mark (path (sp - 1))) 0 (met (sp - 1) last)) (ne_eqb (suc h) 0 (λ z. omega arith)))
          (λ (q : i ≡ path (sp - 1) → ⊥). ap (λ (m : ℕ). eqb m 0) (other i l q))
          (same_or_not i (path (sp - 1)))

      finish_same : unmet mark' count ≡ unmet mark count
      finish_same = unmet-same mark mark' count met-same

      still : (i : ℕ) → i < count → (mark i ≡ 0 → ⊥) → mark' i ≡ 0 → ⊥
      still i l n e =
          ⊎_elim
          (λ (q : i ≡ path (sp - 1)). let z : suc h ≡ 0 = sym done ∙ ap mark' (sym q) ∙ e in omega arith)
          (λ (q : i ≡ path (sp - 1) → ⊥). n (sym (other i l q) ∙ e))
          (same_or_not i (path (sp - 1)))

      -- the state, and as many nodes that are not met
      pub finish : Searching nodes count mark' path' (sp - 1) × (unmet mark' count ≡ unmet mark count)
      finish = (
        record {
          room = (let e = finish_same in let r = s.room in omega arith);
          root_met = still (count - 1) (omega arith) s.root_met;
          first = λ k. below 0 k ∙ s.first some;
          in_range = λ j k. rw (below j k) (s.in_range j (omega arith));
          marked =
              λ j k.
              let l : j < sp = omega arith in
              rw (below j k) (other (path j) (s.in_range j l) (s.apart j (sp - 1) k last) ∙ s.marked j l);
          apart = λ i j h k q. s.apart i j h (omega arith) (sym (below i (omega arith)) ∙ q ∙ below j k);
          linked =
              λ j k.
              let (way, q, d) = s.linked j (omega arith) in
              let here = below j (omega arith) in
              (way, rw (below (j + 1) k, here) q, subst⁻¹ (λ (w : ℕ). Due nodes w way) here d);
          on_path = finish_path;
          known =
              λ i l n.
              ⊎_elim
              (λ (q : i ≡ path (sp - 1)). s.known i l (rw q (met (sp - 1) last)))
              (λ (q : i ≡ path (sp - 1) → ⊥). s.known i l (λ z. n (other i l q ∙ z)))
              (same_or_not i (path (sp - 1)));
          closed =
              λ i l n m c b e.
              ⊎_elim
              (λ (q : i ≡ path (sp - 1)). still (child_of nodes i c) (child_inside i l c b) (rw q (children c (rw q at b))) e)
              (λ (q : i ≡ path (sp - 1) → ⊥).
              let same = other i l q in
              still (child_of nodes i c) (child_inside i l c b) (s.closed i l (λ z. n (same ∙ z)) (λ z. m (same ∙ z)) c b) e)
              (same_or_not i (path (sp - 1)));
          tall =
              λ i l n m.
              ⊎_elim
              (λ (q : i ≡ path (sp - 1)). rw (q, done) is)
              (λ (q : i ≡ path (sp - 1) → ⊥).
              let same = other i l q in
              rw same (s.tall i l (λ z. n (same ∙ z)) (λ z. m (same ∙ z))))
              (same_or_not i (path (sp - 1)));
          low =
              λ i l n m.
              ⊎_elim
              (λ (q : i ≡ path (sp - 1)). rw (q, done, finish_same) (omega arith))
              (λ (q : i ≡ path (sp - 1) → ⊥).
              let same = other i l q in
              let before = s.low i l (λ z. n (same ∙ z)) (λ z. m (same ∙ z)) in
              rw finish_same (omega arith))
              (same_or_not i (path (sp - 1)));
        },
        finish_same,
      )
        where
          finish_path : (i : ℕ) → i < count → mark' i ≡ 65535 → (j : ℕ) × (j < sp - 1) × (path' j ≡ i)
          finish_path i l e =
              let q : i ≡ path (sp - 1) → ⊥ =
              λ q. (let z : suc h ≡ 65535 = sym done ∙ ap mark' (sym q) ∙ e in omega arith) in
              let (j, k, at) = s.on_path i l (sym (other i l q) ∙ e) in
              let r : j ≡ sp - 1 → ⊥ = λ r. q (sym at ∙ ap path r) in
              let inside : j < sp - 1 = omega arith in
              (j, inside, below j inside ∙ at)

  -- ---- the beginning

  pub start : (mark path : ℕ → ℕ) → mark (count - 1) ≡ 65535 → ((i : ℕ) → i < count → (i ≡ count - 1 → ⊥) → mark i ≡ 0)
      → path 0 ≡ count - 1 → Searching nodes count mark path 1
  start mark path put other at =
      let l : count - 1 < count = omega arith in
      let all = unmet-all (λ i. 0) count (λ i h. refl) in
      let less = unmet_less (λ i. 0) mark (count - 1) refl (λ e. omega arith) count l other in
      record {
        room = omega arith;
        root_met = λ e. omega arith;
        first = λ h. at;
        in_range = λ j h. (let z : j ≡ 0 = omega arith in rw (z, at) l);
        marked = λ j h. (let z : j ≡ 0 = omega arith in rw (z, at) put);
        apart = λ i j h k q. omega arith;
        linked = λ j h. absurd (omega arith);
        on_path = λ i h e. (0, omega arith, at ∙ sym (met-root i h (λ z. omega arith)));
        known = λ i h n. rw (met-root i h n) root-reached;
        closed = λ i h n m. absurd (n (other i h (λ q. m (ap mark q ∙ put))));
        tall = λ i h n m. absurd (n (other i h (λ q. m (ap mark q ∙ put))));
        low = λ i h n m. absurd (n (other i h (λ q. m (ap mark q ∙ put))));
      }
    where
      met-root : (i : ℕ) → i < count → (mark i ≡ 0 → ⊥) → i ≡ count - 1
      met-root i h n =
          ⊎_elim
          (λ (q : i ≡ count - 1). q)
          (λ (q : i ≡ count - 1 → ⊥). absurd (n (other i h q)))
          (same_or_not i (count - 1))
