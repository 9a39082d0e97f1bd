-- The subsectors below a word, front first, without limits: each that choices lead to, none twice where no word is shared, and first the end
-- of the point's walk. Where the limits are not met, the walk lists them. Assumes nothing.
use Prim.Native.Nat.{ℕ, zero, suc, ◌+◌, ◌-◌, ◌≤◌, ◌<◌}
use mathlib.Core.Bool.{true, false, cond}
use mathlib.Core.List.{List, [], ◌∷◌, ◌++◌}
use mathlib.Core.Logic.{◌⊎◌, inl, inr, ⊎_elim}
use mathlib.Core.Path.{◌≡◌, refl, sym, ap, ◌∙◌, subst}
use native.Mathlib.Omega.{arith}
use borrow.Author.Tests.{ltb-false, lt-ltb, le-ltb}
use lib.IntN.{ℤ}
use lib.ListN.{length, length-append}
use Rattle.node.specs.declared.Choice.{Choice}
use Rattle.node.specs.declared.Choice.TheVariants.{Right, Left}
use Rattle.node.specs.Nodes.{nodes_of, subsector_bit, is_node, child_of}
use Rattle.node_route.specs.Routes.{Follow}
use Rattle.node_route.specs.Heights.{stands, height, words_from, member, repeats}
use Rattle.node_descent.specs.Side.{side_at, chosen}
use Rattle.node_descent.specs.Walks.{Walk, ends, goes}
use Rattle.node.proofs.Choices.{le_larger}
use Rattle.node_route.proofs.Heights.{node_or_end, stands-none, stands_child, height-node}
use Rattle.node.proofs.Nodes.{ChildrenInRange, child_ok-node}
use Rattle.node_route.proofs.Reach.{nodes_in, kept-length}
use Rattle.node_route.proofs.Repeats.{member_head, member_tail, member_cons, member-left, member_right, member_append, repeats_tail, repeats_across, Repeated, in_first, in_second, in_both, repeats_append}
use Rattle.node_route.proofs.Shared.{below, words-node, words-end, words_head, member_below, repeats-below}
use Rattle.draw_order.specs.Lists.{Listing, listed, other, in_front, joined, node_order, child_order}
use Rattle.draw_order.proofs.Lists.{node-more, child_node, child_entry}

-- ---- a choice, and the other one

pub either : (c d : Choice) → (c ≡ d) ⊎ (c ≡ other d)
either Right Right = inl refl
either Right Left = inr refl
either Left Right = inr refl
either Left Left = inl refl

pub both_sum : (f : Choice → ℕ) (c : Choice) → f c + f (other c) ≡ f Right + f Left
both_sum f Right = refl
both_sum f Left = omega arith

module _ (nodes : List ℕ) (x y : ℤ) where
  -- the child on the other side
  abbrev pub beyond : ℕ → ℕ
  beyond w = child_of nodes w (other (side_at nodes x y w))

  -- the subsectors that `k` choices or fewer lead to from the word `w`, front first
  unfoldable pub front : ℕ → ℕ → List ℕ
  front zero w = (w - subsector_bit) ∷ []
  front (suc k) w = cond (is_node w) (front k (chosen nodes x y w) ++ front k (beyond w)) ((w - subsector_bit) ∷ [])

  pub front_node : (k : ℕ) {w : ℕ} → w < subsector_bit → front (suc k) w ≡ front k (chosen nodes x y w) ++ front k (beyond w)
  unfolding front
  front_node k {w} h = rw (lt-ltb w subsector_bit h)

  pub front_end : (k : ℕ) {w : ℕ} → subsector_bit ≤ w → front k w ≡ (w - subsector_bit) ∷ []
  unfolding front
  front_end zero h = refl
  front_end (suc k) {w} h = rw (le-ltb w subsector_bit h)

  -- where no choice is left the word is a subsector
  ended : (w : ℕ) → stands nodes 0 w ≡ false → subsector_bit ≤ w
  ended w e = ltb-false w subsector_bit (sym (stands-none nodes w) ∙ e)

  -- ---- none left out

  front_child : (k : ℕ) {w : ℕ} (s : ℕ) (c : Choice) → w < subsector_bit → member s (front k (child_of nodes w c)) ≡ true
      → member s (front (suc k) w) ≡ true
  front_child k {w} s c h m =
      rw (front_node k h)
      (⊎_elim
      (λ (e : c ≡ side_at nodes x y w). member-left s (front k (chosen nodes x y w)) (front k (beyond w))
      (subst (λ (d : Choice). member s (front k (child_of nodes w d)) ≡ true) e m))
      (λ (e : c ≡ other (side_at nodes x y w)).
      member_right s (front k (chosen nodes x y w)) (front k (beyond w))
      (subst (λ (d : Choice). member s (front k (child_of nodes w d)) ≡ true) e m))
      (either c (side_at nodes x y w)))

  pub follow_front : (k w : ℕ) → stands nodes k w ≡ false → (cs : List Choice) (s : ℕ) → Follow nodes w cs (subsector_bit + s)
      → member s (front k w) ≡ true
  follow_front k w e [] s f =
      let is : s ≡ w - subsector_bit = omega arith in
      let end : subsector_bit ≤ w = omega arith in
      rw (front_end k end) (member_head s (w - subsector_bit) [] is)
  follow_front zero w e (c ∷ cs) s f = let end = ended w e in let on = f.0 in absurd (omega arith)
  follow_front (suc k) w e (c ∷ cs) s f =
      front_child k s c f.0 (follow_front k (child_of nodes w c) (stands_child nodes k f.0 e c) cs s f.1)

  -- ---- none other

  alone : (k w s : ℕ) → subsector_bit ≤ w → member s (front k w) ≡ true → member (subsector_bit + s) (words_from nodes k w) ≡ true
  alone k w s end m =
      ⊎_elim
      (λ (is : s ≡ w - subsector_bit). let same : subsector_bit + s ≡ w = omega arith in rw same (words_head nodes k w))
      (λ (none : member s [] ≡ true). let z : ◌≡◌ {A = ℕ} 0 1 = cc in absurd (omega arith))
      (member_cons s (w - subsector_bit) [] (rw (front_end k end) at m))

  pub front_words : (k w s : ℕ) → stands nodes k w ≡ false → member s (front k w) ≡ true
      → member (subsector_bit + s) (words_from nodes k w) ≡ true
  front_words zero w s e m = alone zero w s (ended w e) m
  front_words (suc k) w s e m =
      ⊎_elim
      (λ (h : w < subsector_bit).
      let found : (c : Choice) → member s (front k (child_of nodes w c)) ≡ true → member (subsector_bit + s) (words_from nodes (suc k) w) ≡ true =
      λ c q.
      rw (words-node nodes k h)
      (member_tail (subsector_bit + s) w (below nodes k w)
      (member_below nodes k w (subsector_bit + s) c (front_words k (child_of nodes w c) s (stands_child nodes k h e c) q))) in
      ⊎_elim (found (side_at nodes x y w)) (found (other (side_at nodes x y w)))
      (member_append s (front k (chosen nodes x y w)) (front k (beyond w)) (rw (front_node k h) at m)))
      (λ (end : subsector_bit ≤ w). alone (suc k) w s end m)
      (node_or_end w)

  -- ---- none twice

  across : (k w v : ℕ) (c : Choice) → member v (words_from nodes k (child_of nodes w c)) ≡ true
      → member v (words_from nodes k (child_of nodes w (other c))) ≡ true
      → repeats (below nodes k w) ≡ true
  across k w v Right m q = repeats_across v (words_from nodes k (child_of nodes w Right)) (words_from nodes k (child_of nodes w Left)) m q
  across k w v Left m q = repeats_across v (words_from nodes k (child_of nodes w Right)) (words_from nodes k (child_of nodes w Left)) q m

  repeated : (k w : ℕ) → ((c : Choice) → stands nodes k (child_of nodes w c) ≡ false)
      → ((c : Choice) → repeats (front k (child_of nodes w c)) ≡ true → repeats (words_from nodes k (child_of nodes w c)) ≡ true)
      → Repeated (front k (chosen nodes x y w)) (front k (beyond w))
      → repeats (below nodes k w) ≡ true
  repeated k w off rec (in_first e) = repeats-below nodes k w (side_at nodes x y w) (rec (side_at nodes x y w) e)
  repeated k w off rec (in_second e) = repeats-below nodes k w (other (side_at nodes x y w)) (rec (other (side_at nodes x y w)) e)
  repeated k w off rec (in_both s e q) =
      across k w (subsector_bit + s) (side_at nodes x y w)
      (front_words k (chosen nodes x y w) s (off (side_at nodes x y w)) e)
      (front_words k (beyond w) s (off (other (side_at nodes x y w))) q)

  once : (k w : ℕ) → subsector_bit ≤ w → repeats (front k w) ≡ true → ⊥
  once k w end m = let e = rw (front_end k end) at m in let z : ◌≡◌ {A = ℕ} 0 1 = cc in omega arith

  pub front_repeats : (k w : ℕ) → stands nodes k w ≡ false → repeats (front k w) ≡ true → repeats (words_from nodes k w) ≡ true
  front_repeats zero w e m = absurd (once zero w (ended w e) m)
  front_repeats (suc k) w e m =
      ⊎_elim
      (λ (h : w < subsector_bit).
      rw (words-node nodes k h)
      (repeats_tail w (below nodes k w)
      (repeated k w (stands_child nodes k h e) (λ c. front_repeats k (child_of nodes w c) (stands_child nodes k h e c))
      (repeats_append (front k (chosen nodes x y w)) (front k (beyond w)) (rw (front_node k h) at m)))))
      (λ (end : subsector_bit ≤ w). absurd (once (suc k) w end m))
      (node_or_end w)

  -- ---- one more than the nodes

  pub front_length : (k w : ℕ) → stands nodes k w ≡ false → length (front k w) ≡ length (nodes_in nodes k w) + 1
  front_length zero w e = let end = ended w e in rw (front_end zero end, words-end nodes zero end, le-ltb w subsector_bit end)
  front_length (suc k) w e =
      ⊎_elim
      (λ (h : w < subsector_bit).
      let side = side_at nodes x y w in
      let long : (c : Choice) → length (front k (child_of nodes w c)) ≡ length (nodes_in nodes k (child_of nodes w c)) + 1 =
      λ c. front_length k (child_of nodes w c) (stands_child nodes k h e c) in
      let one = long side in
      let two = long (other side) in
      let sum = both_sum (λ c. length (nodes_in nodes k (child_of nodes w c))) side in
      let fronts = length-append (front k (chosen nodes x y w)) (front k (beyond w)) in
      let inner = kept-length nodes is_node (words_from nodes k (child_of nodes w Right)) (words_from nodes k (child_of nodes w Left)) in
      rw (front_node k h, words-node nodes k h, lt-ltb w subsector_bit h) (omega arith))
      (λ (end : subsector_bit ≤ w). rw (front_end (suc k) end, words-end nodes (suc k) end, le-ltb w subsector_bit end))
      (node_or_end w)

  -- ---- the end of the point's walk comes first

  pub walk_front : {w s count : ℕ} → Walk nodes x y w s count → (k : ℕ) → stands nodes k w ≡ false
      → (rest : List ℕ) × (front k w ≡ s ∷ rest)
  walk_front {w} {s} (ends e) k q =
      let end : subsector_bit ≤ w = omega arith in
      let is : w - subsector_bit ≡ s = omega arith in
      ([], front_end k end ∙ ap (λ (v : ℕ). v ∷ []) is)
  walk_front {w} (goes h g) zero q = let end = ended w q in absurd (omega arith)
  walk_front {w} (goes h g) (suc k) q =
      let (rest, e) = walk_front g k (stands_child nodes k h q (side_at nodes x y w)) in
      (rest ++ front k (beyond w), front_node k h ∙ ap (λ (l : List ℕ). l ++ front k (beyond w)) e)

  -- ---- what the walk lists

  module _ (subsectors : ℕ) (in_range : ChildrenInRange nodes subsectors) where
    -- a node of the lump with `more` nodes or fewer on a route below it, and room for its list
    abbrev Lists : ℕ → Type 0
    Lists k =
        (more at w : ℕ) → w < subsector_bit → w < nodes_of nodes → stands nodes k w ≡ false → height nodes k w ≤ more
        → at + length (front k w) ≤ nodes_of nodes + 1 → node_order nodes subsectors x y more at w ≡ listed (front k w)

    child_front : (k : ℕ) → Lists k → (more at w : ℕ) (c : Choice) → w < nodes_of nodes
        → stands nodes k (child_of nodes w c) ≡ false → height nodes k (child_of nodes w c) ≤ more
        → at + length (front k (child_of nodes w c)) ≤ nodes_of nodes + 1
        → child_order nodes subsectors x y more at w c ≡ listed (front k (child_of nodes w c))
    child_front k rec more at w c inside off low room =
        let ok = in_range w inside c in
        ⊎_elim
        (λ (h : child_of nodes w c < subsector_bit).
        child_node nodes subsectors x y more at w c ok h
        ∙ rec more at (child_of nodes w c) h (child_ok-node (nodes_of nodes) subsectors (child_of nodes w c) ok h) off low room)
        (λ (end : subsector_bit ≤ child_of nodes w c).
        let one : length (front k (child_of nodes w c)) ≡ 1 = ap length (front_end k end) in
        child_entry nodes subsectors x y more at w c ok end (omega arith) ∙ ap listed (sym (front_end k end)))
        (node_or_end (child_of nodes w c))

    pub node_front : (k : ℕ) → Lists k
    node_front zero more at w h inside off low room = let end = ended w off in absurd (omega arith)
    node_front (suc k) zero at w h inside off low room = let high = height-node nodes k h in absurd (omega arith)
    node_front (suc k) (suc more) at w h inside off low room =
        let side = side_at nodes x y w in
        let xs = front k (chosen nodes x y w) in
        let high = height-node nodes k h in
        let below : (c : Choice) → height nodes k (child_of nodes w c) ≤ more =
        λ c. (let larger = le_larger (λ d. height nodes k (child_of nodes w d)) c in omega arith) in
        let long : length (front (suc k) w) ≡ length xs + length (front k (beyond w)) =
        ap length (front_node k h) ∙ length-append xs (front k (beyond w)) in
        let one = child_front k (node_front k) more at w side inside (stands_child nodes k h off side) (below side) (omega arith) in
        let two =
        child_front k (node_front k) more (at + length xs) w (other side) inside (stands_child nodes k h off (other side)) (below (other side))
        (omega arith) in
        node-more nodes subsectors x y more at w
        ∙ ap (λ (l : Listing). joined at l (λ next. child_order nodes subsectors x y more next w (other side))) one
        ∙ ap (in_front xs) two
        ∙ ap listed (sym (front_node k h))
