-- The new lump is the same tree: every list of choices, and every point's walk, goes from renamed word to renamed word. Assumes
-- nothing.
use Rattle.std.specs.Prelude.{Ok}
use Prim.Native.Nat.{ℕ, zero, suc, ◌+◌, ◌-◌, ◌*◌, ◌≤◌, ◌<◌}
use mathlib.Core.List.{List, [], ◌∷◌, ◌++◌}
use mathlib.Core.Logic.{⊎_elim, ◌↔◌}
use mathlib.Core.Path.{◌≡◌, refl, sym, ap, ◌∙◌, subst}
use native.Mathlib.Nat.{le_antisymm}
use native.Mathlib.Omega.{arith}
use borrow.Author.Tests.{lt-ltb, le-ltb}
use lib.IntN.{ℤ}
use lib.ListN.{length, get_or, length-append}
use lib.Seq.{get_or-append_seam}
use Rattle.record.specs.Nodes.{node_size}
use Rattle.node.specs.declared.Choice.{Choice}
use Rattle.node.specs.declared.Choice.TheVariants.{Right, Left}
use Rattle.node.specs.Nodes.{nodes_of, subsector_bit, child_of, root}
use Rattle.node_route.specs.Routes.{Follow, Reached, Loop, Shared, Depth}
use Rattle.node_route.specs.Heights.{graph_verdict}
use Rattle.node_descent.specs.Side.{chosen, side_at}
use Rattle.node_descent.specs.Walks.{Walk, descent}
use Rattle.node_route.proofs.Heights.{node_or_end}
use Rattle.node.proofs.Nodes.{ChildrenInRange, nodes_in_range, root-last, root-node}
use Rattle.node_route.proofs.Places.{reached_child}
use Rattle.node_route.proofs.Reach.{at_most, in-range}
use Rattle.node_route.proofs.Repeats.{at_member}
use Rattle.node_route.proofs.Shared.{shared-repeats}
use Rattle.node_route.proofs.Verdict.{depth_verdict, verdict-holds}
use Rattle.node_descent.proofs.Descends.{Passed, descent-holds}
use Rattle.renumber_order.specs.Orders.{index_in}
use Rattle.renumber_order.specs.Orders.{old_at}
use Rattle.renumber.specs.Renumbering.{renamed, renumbered}
use Rattle.theorem_renumber.specs.Promises.{GoodOrder, SameNodes}
use Rattle.theorem_renumber.proofs.Held.{clash, place_in, at_place, place-least, place_at}
use Rattle.theorem_renumber.proofs.NewNodes.{renamed-node, renamed-end, new-length, new-count, new_child, new-chosen}

-- where choices end on a node they begin on one
follow_start : (nodes : List ℕ) (cs : List Choice) (w v : ℕ) → Follow nodes w cs v → v < subsector_bit → w < subsector_bit
follow_start nodes [] w v f h = rw (sym f) at h
follow_start nodes (c ∷ cs) w v f h = f.0

module _ (nodes order : List ℕ) (subsectors : ℕ) (passed : Passed nodes subsectors) (good : GoodOrder nodes order) where
  abbrev new : List ℕ
  new = renumbered nodes order

  abbrev name : ℕ → ℕ
  name w = renamed order w

  -- ---- which nodes are in the list

  reached-low : (w : ℕ) → Reached nodes w → w < subsector_bit → w < nodes_of nodes
  reached-low w r h =
      in-range nodes (nodes_in_range nodes subsectors passed.in_range) r.choices (root (nodes_of nodes)) w
      (root-node (nodes_of nodes)) r.leads h

  old-reached : (i : ℕ) → i < length order → Reached nodes (old_at order i) × (old_at order i < subsector_bit)
  old-reached i h = good.holds.only (old_at order i) (at_member order i h)

  inside : (i : ℕ) → i < length order → old_at order i < nodes_of nodes
  inside i h = let p = old-reached i h in reached-low (old_at order i) p.0 p.1

  few : length order ≤ nodes_of nodes
  few =
      at_most (nodes_of nodes) order good.holds.once
      (λ v m. let p = good.holds.only v m in reached-low v p.0 p.1)

  -- a reached node has a place, which is its name
  module _ (w : ℕ) (r : Reached nodes w) (h : w < subsector_bit) where
    place-low : index_in order w < length order
    place-low = place_in order w (good.holds.every w (r, h))

    old-name : old_at order (index_in order w) ≡ w
    old-name = at_place order w place-low

    name-low : name w < subsector_bit
    name-low = let e = renamed-node order w h in let l = place-low in let n = few in let m = passed.few in omega arith

    name_child : (c : Choice) → child_of new (name w) c ≡ name (child_of nodes w c)
    name_child c =
        ap (λ (i : ℕ). child_of new i c) (renamed-node order w h)
        ∙ new_child nodes order inside (index_in order w) place-low c ∙ ap (λ (v : ℕ). name (child_of nodes v c)) old-name

    name-chosen : (x y : ℤ) → chosen new x y (name w) ≡ name (chosen nodes x y w)
    name-chosen x y =
        ap (chosen new x y) (renamed-node order w h)
        ∙ new-chosen nodes order inside (index_in order w) place-low x y ∙ ap (λ (v : ℕ). name (chosen nodes x y v)) old-name

  -- a word whose name is a node is one
  name-node : (w : ℕ) → name w < subsector_bit → w < subsector_bit
  name-node w h =
      ⊎_elim (λ (l : w < subsector_bit). l) (λ (l : subsector_bit ≤ w). let e = renamed-end order w l in absurd (omega arith)) (node_or_end w)

  name-end : (w : ℕ) → Reached nodes w → subsector_bit ≤ name w → subsector_bit ≤ w
  name-end w r h =
      ⊎_elim (λ (l : w < subsector_bit). let n = name-low w r l in absurd (omega arith)) (λ (l : subsector_bit ≤ w). l) (node_or_end w)

  name-same : (v w : ℕ) → Reached nodes v → Reached nodes w → name v ≡ name w → v ≡ w
  name-same v w p q e =
      ⊎_elim
      (λ (h : v < subsector_bit).
      let k = name-node w (rw e at (name-low v p h)) in
      let same : index_in order v ≡ index_in order w = sym (renamed-node order v h) ∙ e ∙ renamed-node order w k in
      sym (old-name v p h) ∙ ap (old_at order) same ∙ old-name w q k)
      (λ (h : subsector_bit ≤ v).
      let k = name-end w q (rw (sym (renamed-end order v h) ∙ e) at h) in
      sym (renamed-end order v h) ∙ e ∙ renamed-end order w k)
      (node_or_end v)

  -- ---- the root

  reached-root : Reached nodes (root (nodes_of nodes))
  reached-root = record { choices = []; leads = refl }

  none_kept : nodes_of new ≡ 0 → nodes_of nodes ≡ 0
  none_kept e = by (nodes_of nodes) refl
    where
      by : (n : ℕ) → nodes_of nodes ≡ n → n ≡ 0
      by zero q = refl
      by (suc last) q =
          let most = passed.few in
          let is : root (nodes_of nodes) ≡ last = ap root q in
          let low : root (nodes_of nodes) < subsector_bit = omega arith in
          let l = place-low (root (nodes_of nodes)) reached-root low in
          let c = new-count nodes order inside in
          absurd (omega arith)

  root-name : root (nodes_of new) ≡ name (root (nodes_of nodes))
  root-name =
      ⊎_elim
      (λ (e : order ≡ []).
      let none : nodes_of new ≡ 0 = new-count nodes order inside ∙ ap length e in
      let old = none_kept none in
      let end : subsector_bit ≤ root (nodes_of nodes) = rw old (omega arith) in
      ap root none ∙ sym (ap root old) ∙ sym (renamed-end order (root (nodes_of nodes)) end))
      (λ (e : (before : List ℕ) × (order ≡ before ++ (root (nodes_of nodes) ∷ []))).
      let last = length e.0 in
      let long : length order ≡ last + 1 = ap length e.1 ∙ length-append e.0 (root (nodes_of nodes) ∷ []) in
      let here : old_at order last ≡ root (nodes_of nodes) =
      ap (λ (xs : List ℕ). get_or xs last 0) e.1 ∙ get_or-append_seam e.0 (root (nodes_of nodes)) [] 0 in
      let low : root (nodes_of nodes) < subsector_bit = rw here at (old-reached last (omega arith)).1 in
      let place : index_in order (root (nodes_of nodes)) ≡ last =
      ap (index_in order) (sym here) ∙ place_at order good.holds.once last (omega arith) in
      let count = new-count nodes order inside in
      let is : root (nodes_of new) ≡ nodes_of new - 1 = root-last (nodes_of new) (omega arith) in
      let named = renamed-node order (root (nodes_of nodes)) low in
      omega (arith, is, named, place, long, count))
      good.ends

  -- ---- children are below their parents

  pub new-below : (i : ℕ) → i < length order → (c : Choice) → child_of new i c < subsector_bit → child_of new i c < i
  new-below i h c l =
      let w = child_of nodes (old_at order i) c in
      let is : child_of new i c ≡ name w = new_child nodes order inside i h c in
      let low = name-node w (rw is at l) in
      let (j, (before, there)) = good.first i h c low in
      let least : index_in order w ≤ j = rw there at (place-least order j (omega arith)) in
      let named = renamed-node order w low in
      omega arith

  falls : (cs : List Choice) (i v : ℕ) → i < length order → Follow new i cs v → v < subsector_bit → v + length cs ≤ i
  falls [] i v h f l = omega (arith, f)
  falls (c ∷ cs) i v h f l =
      let u = child_of new i c in
      let down = new-below i h c (follow_start new cs u v f.1 l) in
      let rest = falls cs u v (omega arith) f.1 l in
      omega arith

  -- ---- the same lists of choices

  there : (cs : List Choice) (w v : ℕ) → Reached nodes w → Follow nodes w cs v → Follow new (name w) cs (name v)
  there [] w v r f = ap (renamed order) f
  there (c ∷ cs) w v r f =
      let rest = there cs (child_of nodes w c) v (reached_child nodes w r f.0 c) f.1 in
      (name-low w r f.0, subst (λ (u : ℕ). Follow new u cs (name v)) (sym (name_child w r f.0 c)) rest)

  record Back (w : ℕ) (cs : List Choice) (v' : ℕ) : Type 0 where
    stand : ℕ
    reached : Reached nodes stand
    leads : Follow nodes w cs stand
    named : v' ≡ name stand

  back : (cs : List Choice) (w v' : ℕ) → Reached nodes w → Follow new (name w) cs v' → Back w cs v'
  back [] w v' r f = record { stand = w; reached = r; leads = refl; named = sym f }
  back (c ∷ cs) w v' r f =
      let low = name-node w f.0 in
      let rest = subst (λ (u : ℕ). Follow new u cs v') (name_child w r low c) f.1 in
      let b = back cs (child_of nodes w c) v' (reached_child nodes w r low c) rest in
      record { stand = b.stand; reached = b.reached; leads = (low, b.leads); named = b.named }

  leads_there : (cs : List Choice) (v : ℕ) → Follow nodes (root (nodes_of nodes)) cs v → Follow new (root (nodes_of new)) cs (name v)
  leads_there cs v f = subst (λ (u : ℕ). Follow new u cs (name v)) (sym root-name) (there cs (root (nodes_of nodes)) v reached-root f)

  leads-back : (cs : List Choice) (v : ℕ) → Follow new (root (nodes_of new)) cs v → Back (root (nodes_of nodes)) cs v
  leads-back cs v f = back cs (root (nodes_of nodes)) v reached-root (subst (λ (u : ℕ). Follow new u cs v) root-name f)

  -- ---- the verdict

  no_loop : Loop new → ⊥
  no_loop l =
      let start = follow_start new l.choices (root (nodes_of new)) l.stand l.leads l.on_node in
      let low = root-node (nodes_of new) start in
      let count = new-count nodes order inside in
      let h = falls l.choices (root (nodes_of new)) l.stand (omega arith) l.leads l.on_node in
      let many = l.many in
      omega arith

  shared-old : Shared new → Shared nodes
  shared-old s =
      let a = leads-back s.one s.stand s.leads_one in
      let b = leads-back s.other s.stand s.leads_other in
      let same = name-same b.stand a.stand b.reached a.reached (sym b.named ∙ a.named) in
      record {
        one = s.one;
        other = s.other;
        different = s.different;
        stand = a.stand;
        leads_one = a.leads;
        leads_other = subst (λ (v : ℕ). Follow nodes (root (nodes_of nodes)) s.other v) same b.leads;
      }

  deeper : (d d' : ℕ) → Depth nodes d → Depth new d' → d ≤ d'
  deeper d d' a b =
      let r = a.reached in
      let named = renamed-end order r.stand r.ends in
      let ends = r.ends in
      let l = b.most a.choices (record { stand = name r.stand; leads = leads_there a.choices r.stand r.leads; ends = omega arith }) in
      rw a.many at l

  shallower : (d d' : ℕ) → Depth nodes d → Depth new d' → d' ≤ d
  shallower d d' a b =
      let r = b.reached in
      let k = leads-back b.choices r.stand r.leads in
      let l = a.most b.choices (record { stand = k.stand; leads = k.leads; ends = name-end k.stand k.reached (rw k.named at r.ends) }) in
      rw b.many at l

  pub new_deep : (depth : ℕ) → graph_verdict nodes ≡ Ok depth → graph_verdict new ≡ Ok depth
  new_deep depth deep =
      let (off, alone, is) = depth_verdict nodes deep in
      let none : Shared new → ⊥ = λ s. clash (shared-repeats nodes (nodes_of nodes) off (shared-old s)) alone in
      let (d, e) = (verdict-holds new).neither no_loop none in
      let old = (verdict-holds nodes).deep depth deep in
      let there' = (verdict-holds new).deep d e in
      e ∙ ap Ok (le_antisymm (shallower depth d old there') (deeper depth d old there'))

  -- ---- children in range

  pub new_children : ChildrenInRange new subsectors
  new_children i h c =
      let count = new-count nodes order inside in
      let low : i < length order = omega arith in
      let p = old-reached i low in
      let w = child_of nodes (old_at order i) c in
      let child = reached_child nodes (old_at order i) p.0 p.1 c in
      let is : child_of new i c ≡ name w = new_child nodes order inside i low c in
      rw (is, count)
      (⊎_elim
      (λ (l : w < subsector_bit).
      let named = renamed-node order w l in
      let place = place-low w child l in
      rw (lt-ltb (name w) subsector_bit (name-low w child l)) (lt-ltb (name w) (length order) (omega arith)))
      (λ (l : subsector_bit ≤ w).
      let ok = passed.in_range (old_at order i) (inside i low) c in
      rw (renamed-end order w l, le-ltb w subsector_bit l) (rw (le-ltb w subsector_bit l) at ok))
      (node_or_end w))

  new_passed : Passed new subsectors
  new_passed =
      let count = new-count nodes order inside in
      let n = few in
      let m = passed.few in
      record {
        whole = ap (λ (k : ℕ). node_size * k) count ∙ sym (new-length nodes order inside);
        few = omega arith;
        least = passed.least;
        most = passed.most;
        alone = λ e. passed.alone (none_kept e);
        in_range = new_children;
      }

  -- ---- the same walks

  module _ (x y : ℤ) where
    chosen-reached : (w : ℕ) → Reached nodes w → w < subsector_bit → Reached nodes (chosen nodes x y w)
    chosen-reached w r h = reached_child nodes w r h (side_at nodes x y w)

    walk_there : {w s k : ℕ} → Reached nodes w → Walk nodes x y w s k → Walk new x y (name w) s k
    walk_there {w} r (Walk.ends {subsector = s} e) =
        let end : subsector_bit ≤ w = omega (arith, e) in Walk.ends (renamed-end order w end ∙ e)
    walk_there {w} r (Walk.goes {subsector = s} {count = k} h walk) =
        Walk.goes (name-low w r h)
        (subst (λ (u : ℕ). Walk new x y u s k) (sym (name-chosen w r h x y)) (walk_there (chosen-reached w r h) walk))

    walk-back : {u s k : ℕ} → Walk new x y u s k → (w : ℕ) → Reached nodes w → u ≡ name w → Walk nodes x y w s k
    walk-back {u} (Walk.ends {subsector = s} e) w r q =
        let end : subsector_bit ≤ name w = omega (arith, e, q) in
        Walk.ends (sym (renamed-end order w (name-end w r end)) ∙ sym q ∙ e)
    walk-back {u} (Walk.goes {subsector = s} {count = k} h walk) w r q =
        let low = name-node w (rw q at h) in
        Walk.goes low (walk-back walk (chosen nodes x y w) (chosen-reached w r low) (ap (chosen new x y) q ∙ name-chosen w r low x y))

    pub new_walks : (s k : ℕ) → Walk nodes x y (root (nodes_of nodes)) s k ↔ Walk new x y (root (nodes_of new)) s k
    new_walks s k = (
      λ (w : Walk nodes x y (root (nodes_of nodes)) s k). subst (λ (u : ℕ). Walk new x y u s k) (sym root-name) (walk_there reached-root w),
      λ (w : Walk new x y (root (nodes_of new)) s k). walk-back w (root (nodes_of nodes)) reached-root root-name,
    )

    pub new-descends : (depth : ℕ) → graph_verdict nodes ≡ Ok depth → descent new subsectors x y ≡ descent nodes subsectors x y
    new-descends depth deep =
        let a = descent-holds nodes subsectors passed depth deep x y in
        let b = descent-holds new subsectors new_passed depth (new_deep depth deep) x y in
        let (s, k) = b.only a.subsector a.count ((new_walks a.subsector a.count).0 a.walk) in
        b.found ∙ (λ i. Ok (record { subsector = sym s i; count = sym k i })) ∙ sym a.found

  pub same_nodes : (depth : ℕ) → graph_verdict nodes ≡ Ok depth → SameNodes nodes order subsectors depth
  same_nodes depth deep =
      let count = new-count nodes order inside in
      record {
        long = new-length nodes order inside;
        deep = new_deep depth deep;
        in_range = λ i h. let right = new_children i h Right in let left = new_children i h Left in rw (right, left);
        below = λ i h c. new-below i (omega arith) c;
        walks = λ x y s k. new_walks x y s k;
        descends = λ x y. new-descends x y depth deep;
      }
