-- Where the search ends: a child on the path is a loop, and the path is the way into it; where the path is empty the root's mark is the
-- depth, and every mark its node's height. Assumes nothing.
use Prim.Native.Nat.{ℕ, zero, suc, ◌+◌, ◌-◌, ◌≤◌, ◌<◌}
use mathlib.Core.Bool.{Bool, true, false, cond}
use mathlib.Core.List.{List, [], ◌∷◌}
use mathlib.Core.Logic.{⊎_elim}
use mathlib.Core.Path.{◌≡◌, refl, sym, ap, ◌∙◌, subst}
use native.Mathlib.Decide.{dec_lt}
use native.Mathlib.Omega.{arith}
use borrow.Author.Tests.{lt-ltb, le-ltb, ltb-true, eq-eqb, eqb-true}
use Rattle.refusal.proofs.Checks.{both}
use Rattle.node.specs.declared.Choice.{Choice}
use Rattle.node.specs.declared.Choice.TheVariants.{Right, Left}
use Rattle.std.specs.Prelude.{Err}
use Rattle.node_route.specs.declared.GraphError.{GraphError}
use Rattle.node.specs.Nodes.{nodes_of, subsector_bit, child_of, root}
use Rattle.node.specs.Ranges.{NodesInRange}
use Rattle.node_route.specs.Routes.{Follow}
use Rattle.node_route.specs.Heights.{stands, height, graph_verdict}
use Rattle.node_graph.specs.Searching.{Tall, Due, Searching, LoopMet, Explored}
use Rattle.node_graph.specs.Looks.{on_path_ok, path_choice, height_by, height_choice}
use Rattle.node_graph.specs.Ways.{loop_choice, depth_below, deep_choice, word_after}
use Rattle.node_graph.proofs.Ways.{after_none, after_more, loop-right, loop-due}
use Rattle.node.proofs.Nodes.{root-last}
use Rattle.node_route.proofs.Heights.{stands-none, stands-node, height-end, node_or_end}
use Rattle.node_route.proofs.Verdict.{looping, root_height, verdict-loop}
use Rattle.node_graph.proofs.Searching.{child_inside, node_on_path}

module _ (nodes : List ℕ) (count : ℕ) (least : 1 ≤ count) (most : count ≤ 32767) (counted : nodes_of nodes ≡ count) (within : NodesInRange nodes) where
  inside : (i : ℕ) → i < count → (c : Choice) → child_of nodes i c < subsector_bit → child_of nodes i c < count
  inside = child_inside nodes count least most counted within

  -- ---- the verdict at the root

  loop-at-root : stands nodes count (count - 1) ≡ true → graph_verdict nodes ≡ Err GraphError.HasLoop
  loop-at-root e = verdict-loop nodes (rw (counted, root-last count least) e)

  depth_at_root : {h : ℕ} → Tall nodes (count - 1) h → h ≤ count → (looping nodes ≡ false) × (root_height nodes ≡ h)
  depth_at_root t l = (rw (counted, root-last count least) (t count l).0, rw (counted, root-last count least) (t count l).1)

  module _ (mark path : ℕ → ℕ) (sp : ℕ) (s : Searching nodes count mark path sp) where
    on_node_lem : (j : ℕ) → j < sp → path j < subsector_bit
    on_node_lem = node_on_path nodes count least most counted within mark path sp s

    -- ---- a child on the path

    module _ (c : Choice) (l : child_of nodes (path (sp - 1)) c < count)
        (e : mark (child_of nodes (path (sp - 1)) c) ≡ 65535) (due : Due nodes (path (sp - 1)) c) where
      loop-stands : (k j : ℕ) → j < sp → stands nodes k (path j) ≡ true
      loop-stands zero j h = stands-none nodes (path j) ∙ lt-ltb (path j) subsector_bit (on_node_lem j h)
      loop-stands (suc k) j h = by (dec_lt (j + 1) sp) (λ i n. loop-stands k i n)
        where
          by : Dec (j + 1 < sp) → ((i : ℕ) → i < sp → stands nodes k (path i) ≡ true) → stands nodes (suc k) (path j) ≡ true
          by (yes n) before =
              let (way, is, d) = s.linked j n in
              stands-node nodes k (on_node_lem j h) way (rw is at (before (j + 1) n))
          by (no n) before =
              let last : sp - 1 ≡ j = omega arith in
              let (i, m, is) = s.on_path (child_of nodes (path (sp - 1)) c) l e in
              stands-node nodes k (on_node_lem j h) c (rw (is, last) at (before i m))

      -- ---- the path is the way by the rule

      stands_here : (j : ℕ) → j < sp → stands nodes (nodes_of nodes) (path j) ≡ true
      stands_here j h = loop-stands (nodes_of nodes) j h

      -- the choice at each node of the path, with the child that it leads to, which stands and is marked
      abbrev Taken : ℕ → Type 0
      Taken j =
          (d : Choice) × (loop_choice nodes (path j) ≡ d) × (child_of nodes (path j) d < count) × (mark (child_of nodes (path j) d) ≡ 65535)
          × ((i : ℕ) × (i < sp) × (path i ≡ child_of nodes (path j) d)) × (j + 1 < sp → path (j + 1) ≡ child_of nodes (path j) d)

      taken : (j : ℕ) → j < sp → Taken j
      taken j h = by (dec_lt (j + 1) sp)
        where
          by : Dec (j + 1 < sp) → Taken j
          by (yes n) =
              let (way, is, d) = s.linked j n in (
                way,
                loop-due nodes (path j) way d (rw is at (stands_here (j + 1) n)),
                rw is at (s.in_range (j + 1) n),
                rw is at (s.marked (j + 1) n),
                (j + 1, n, is),
                λ k. is,
              )
          by (no n) =
              let last : sp - 1 ≡ j = omega arith in
              let top = ap path last in
              let (i, m, is) = s.on_path (child_of nodes (path (sp - 1)) c) l e in
              let here : path i ≡ child_of nodes (path j) c = is ∙ ap (λ (w : ℕ). child_of nodes w c) top in (
                c,
                loop-due nodes (path j) c (subst (λ (w : ℕ). Due nodes w c) top due)
                    (subst (λ (w : ℕ). stands nodes (nodes_of nodes) w ≡ true) here (stands_here i m)),
                subst (λ (w : ℕ). child_of nodes w c < count) top l,
                subst (λ (w : ℕ). mark (child_of nodes w c) ≡ 65535) top e,
                (i, m, here),
                λ k. absurd (n k),
              )

      after_path : (j : ℕ) → j < sp → word_after nodes (loop_choice nodes) j ≡ path j
      after_path zero h = after_none nodes (loop_choice nodes) ∙ rw (counted, root-last count least) (sym (s.first h))
      after_path (suc j) h =
          let below : j < sp = omega arith in
          let next : j + 1 ≡ suc j = omega arith in
          let (d, is, m, on, at, then) = taken j below in
          rw (after_more nodes (loop_choice nodes) j, after_path j below, is)
          (sym (subst (λ (k : ℕ). path k ≡ child_of nodes (path j) d) next (then (omega arith))))

      after-end : (j : ℕ) → j < sp → (i : ℕ) × (i < sp) × (word_after nodes (loop_choice nodes) (suc j) ≡ word_after nodes (loop_choice nodes) i)
      after-end j h =
          let (d, is, m, on, (i, k, at), then) = taken j h in
          (i, k, rw (after_more nodes (loop_choice nodes) j, after_path j h, after_path i k, is) (sym at))

      -- a child that is marked as on the path stands
      marked-stands : (w : ℕ) → (w < subsector_bit → w < count) → on_path_ok mark w ≡ true → stands nodes (nodes_of nodes) w ≡ true
      marked-stands w r t =
          let (node, on) = both _ _ t in
          let (i, k, at) = s.on_path w (r (ltb-true w subsector_bit node)) (eqb-true (mark w) 65535 on) in
          rw at at (stands_here i k)

      path_told : (j : ℕ) → j < sp → path_choice nodes mark (path j) ≡ loop_choice nodes (path j)
      path_told j h = let (d, is, m, on, at, then) = taken j h in by d is m on (on_path_ok mark (child_of nodes (path j) Right)) refl
        where
          by : (d : Choice) → loop_choice nodes (path j) ≡ d → child_of nodes (path j) d < count → mark (child_of nodes (path j) d) ≡ 65535
              → (b : Bool) → on_path_ok mark (child_of nodes (path j) Right) ≡ b
              → cond (on_path_ok mark (child_of nodes (path j) Right)) Right Left ≡ loop_choice nodes (path j)
          by d is m on true t =
              rw t (sym (loop-right nodes (path j) (marked-stands (child_of nodes (path j) Right) (inside (path j) (s.in_range j h) Right) t)))
          by Right is m on false t =
              let node : child_of nodes (path j) Right < subsector_bit = omega arith in
              let z : on_path_ok mark (child_of nodes (path j) Right) ≡ true = rw (lt-ltb _ subsector_bit node, eq-eqb _ 65535 on) in
              let q : ◌≡◌ {A = ℕ} 0 1 = cc in
              absurd (omega arith)
          by Left is m on false t = rw t (sym is)

      pub path_loop : 0 < sp → LoopMet nodes mark sp
      path_loop h =
          record {
            loops = loop-at-root (rw (s.first h) at (loop-stands count 0 h));
            some = h;
            few = (let r = s.room in rw counted (omega arith));
            in_range = λ j k. rw (after_path j k, counted) (s.in_range j k);
            apart = λ i j k m q. s.apart i j k m (sym (after_path i (omega arith)) ∙ q ∙ after_path j m);
            back = (let last : suc (sp - 1) ≡ sp = omega arith in let k : sp - 1 < sp = omega arith in rw last at (after-end (sp - 1) k));
            told = λ j k. rw (after_path j k) (path_told j k);
          }

    -- ---- the path is empty

    module _ (none : sp ≡ 0) where
      off_path : (i : ℕ) → i < count → mark i ≡ 65535 → ⊥
      off_path i l e = let (j, h, is) = s.on_path i l e in omega arith

      -- from a node that was met only such nodes are reached
      follow_met : (cs : List Choice) (w v : ℕ) → (w < subsector_bit → (w < count) × (mark w ≡ 0 → ⊥)) → Follow nodes w cs v
          → v < subsector_bit → (v < count) × (mark v ≡ 0 → ⊥)
      follow_met [] w v m f h = rw f at (m (rw (sym f) at h))
      follow_met (c ∷ cs) w v m f h =
          let (l, n) = m f.0 in
          follow_met cs (child_of nodes w c) v
          (λ (k : child_of nodes w c < subsector_bit). (inside w l c k, s.closed w l n (off_path w l) c k)) f.1 h

      root-met : root (nodes_of nodes) < subsector_bit → (root (nodes_of nodes) < count) × (mark (root (nodes_of nodes)) ≡ 0 → ⊥)
      root-met h = rw (counted, root-last count least) (omega arith, s.root_met)

      -- every mark is its node's height
      height-told : (w : ℕ) → (w < subsector_bit → (w < count) × (mark w ≡ 0 → ⊥)) → height_by mark w ≡ height nodes (nodes_of nodes) w
      height-told w m =
          ⊎_elim
          (λ (h : w < subsector_bit).
          let (l, n) = m h in
          let low = s.low w l n (off_path w l) in
          let is = (s.tall w l n (off_path w l) count (omega arith)).1 in
          rw (lt-ltb w subsector_bit h, counted) (sym is))
          (λ (h : subsector_bit ≤ w). rw (le-ltb w subsector_bit h) (sym (height-end nodes (nodes_of nodes) h)))
          (node_or_end w)

      heights_told : (i : ℕ) → i < count → (mark i ≡ 0 → ⊥) → height_choice nodes mark i ≡ deep_choice nodes i
      heights_told i l n = rw (below Left, below Right)
        where
          below : (c : Choice) → height_by mark (child_of nodes i c) ≡ depth_below nodes i c
          below c =
              height-told (child_of nodes i c)
              (λ (k : child_of nodes i c < subsector_bit). (inside i l c k, s.closed i l n (off_path i l) c k))

      pub path_done : Explored nodes mark (mark (count - 1))
      path_done =
          let l : count - 1 < count = omega arith in
          let off = off_path (count - 1) l in
          let low = s.low (count - 1) l s.root_met off in
          let (straight, high) = depth_at_root (s.tall (count - 1) l s.root_met off) (omega arith) in
          record {
            straight = straight;
            high = high;
            known = λ i h n. s.known i (rw counted at h) n;
            every = λ i r h. rw counted (follow_met r.choices (root (nodes_of nodes)) i root-met r.leads h);
            told = λ i r h. (let (l, n) = follow_met r.choices (root (nodes_of nodes)) i root-met r.leads h in heights_told i l n);
          }
