-- Where no word is shared, the words that choices lead to hold each reached node and subsector once: a tree has one end more
-- than inner nodes. Assumes nothing.
use Prim.Native.Nat.{ℕ, zero, suc, ◌+◌, ◌≤◌, ◌<◌, zero-le, suc-le-suc}
use mathlib.Core.Bool.{Bool, true, false, not, cond}
use mathlib.Core.List.{List, [], ◌∷◌, ◌++◌}
use mathlib.Core.Logic.{⊎_elim}
use mathlib.Core.Path.{◌≡◌, refl, sym, ap, ◌∙◌}
use native.Mathlib.Nat.{le_trans}
use native.Mathlib.Omega.{arith}
use borrow.Author.Tests.{ltb-true, ltb-false, lt-ltb, le-ltb, eqb-true, eqb-false, ne_eqb, not-true}
use lib.Dec.{eqb}
use lib.ListN.{length, length-append}
use Rattle.node.specs.declared.Choice.{Choice}
use Rattle.node.specs.declared.Choice.TheVariants.{Right, Left}
use Rattle.node.specs.Nodes.{nodes_of, subsector_bit, is_node, child_of, root}
use Rattle.node_route.specs.Routes.{Follow, Reached}
use Rattle.node_route.specs.Heights.{stands, words_from, member, repeats}
use Rattle.node_route.specs.Reach.{kept, HoldsOnce, OneMore}
use Rattle.node.specs.Ranges.{NodesInRange}
use Rattle.node_route.proofs.Heights.{node_or_end, stands-none, stands_child}
use Rattle.node.proofs.Nodes.{root-node}
use Rattle.node_route.proofs.Repeats.{or_neither, member_head, member_tail, member_cons}
use Rattle.node_route.proofs.Shared.{words-node, words-end, follow_member, member_follow}

-- ---- the members of a list that pass a test

module _ (test : ℕ → Bool) where
  kept_append : (xs ys : List ℕ) → kept test (xs ++ ys) ≡ kept test xs ++ kept test ys
  kept_append [] ys = refl
  kept_append (x ∷ xs) ys = by (test x) (kept_append xs ys)
    where
      by : (b : Bool) → kept test (xs ++ ys) ≡ kept test xs ++ kept test ys
          → cond b (x ∷ kept test (xs ++ ys)) (kept test (xs ++ ys)) ≡ cond b (x ∷ kept test xs) (kept test xs) ++ kept test ys
      by true e = ap (λ (zs : List ℕ). x ∷ zs) e
      by false e = e

  member-kept : (v : ℕ) (xs : List ℕ) → member v xs ≡ true → test v ≡ true → member v (kept test xs) ≡ true
  member-kept v [] e t = e
  member-kept v (x ∷ xs) e t =
      ⊎_elim
      (λ (h : v ≡ x). rw (rw h at t) (member_head v x (kept test xs) h))
      (λ (h : member v xs ≡ true). by (test x) (member-kept v xs h t))
      (member_cons v x xs e)
    where
      by : (b : Bool) → member v (kept test xs) ≡ true → member v (cond b (x ∷ kept test xs) (kept test xs)) ≡ true
      by true m = member_tail v x (kept test xs) m
      by false m = m

  kept-member : (v : ℕ) (xs : List ℕ) → member v (kept test xs) ≡ true → (member v xs ≡ true) × (test v ≡ true)
  kept-member v [] e = let z : ◌≡◌ {A = ℕ} 0 1 = cc in absurd (omega arith)
  kept-member v (x ∷ xs) e = by (test x) refl e (kept-member v xs)
    where
      by : (b : Bool) → test x ≡ b → member v (cond b (x ∷ kept test xs) (kept test xs)) ≡ true
          → (member v (kept test xs) ≡ true → (member v xs ≡ true) × (test v ≡ true)) → (member v (x ∷ xs) ≡ true) × (test v ≡ true)
      by true t m rec =
          ⊎_elim
          (λ (h : v ≡ x). (member_head v x xs h, ap test h ∙ t))
          (λ (h : member v (kept test xs) ≡ true). let p = rec h in (member_tail v x xs p.0, p.1))
          (member_cons v x (kept test xs) m)
      by false t m rec = let p = rec m in (member_tail v x xs p.0, p.1)

  kept-without : (v : ℕ) (xs : List ℕ) → member v xs ≡ false → member v (kept test xs) ≡ false
  kept-without v xs e = by (member v (kept test xs)) refl
    where
      by : (b : Bool) → member v (kept test xs) ≡ b → b ≡ false
      by true m = let in' = (kept-member v xs m).0 in let z : ◌≡◌ {A = ℕ} 0 1 = cc in absurd (omega arith)
      by false m = refl

  kept-once : (xs : List ℕ) → repeats xs ≡ false → repeats (kept test xs) ≡ false
  kept-once [] e = e
  kept-once (x ∷ xs) e =
      let p = or_neither (member x xs) (repeats xs) e in by (test x) (kept-without x xs p.0) (kept-once xs p.1)
    where
      by : (b : Bool) → member x (kept test xs) ≡ false → repeats (kept test xs) ≡ false
          → repeats (cond b (x ∷ kept test xs) (kept test xs)) ≡ false
      by true m r = rw (m, r)
      by false m r = r

-- ---- numbers below `n`, each once, are at most `n`

module _ (n : ℕ) where
  kept-all : (xs : List ℕ) → member n xs ≡ false → length (kept (λ v. not (eqb v n)) xs) ≡ length xs
  kept-all [] e = refl
  kept-all (x ∷ xs) e =
      let p = or_neither (eqb n x) (member n xs) e in
      let apart : eqb x n ≡ false = ne_eqb x n (λ (q : x ≡ n). eqb-false n x p.0 (sym q)) in
      rw apart (ap suc (kept-all xs p.1))

  one_less : (xs : List ℕ) → repeats xs ≡ false → length xs ≤ suc (length (kept (λ v. not (eqb v n)) xs))
  one_less [] e = zero-le
  one_less (x ∷ xs) e =
      let p = or_neither (member x xs) (repeats xs) e in by (eqb x n) refl p.0 (one_less xs p.1)
    where
      by : (b : Bool) → eqb x n ≡ b → member x xs ≡ false → length xs ≤ suc (length (kept (λ v. not (eqb v n)) xs))
          → suc (length xs) ≤ suc (length (cond (not b) (x ∷ kept (λ v. not (eqb v n)) xs) (kept (λ v. not (eqb v n)) xs)))
      by true t m r = let all = kept-all xs (rw (eqb-true x n t) at m) in omega arith
      by false t m r = suc-le-suc r

pub at_most : (n : ℕ) (xs : List ℕ) → repeats xs ≡ false → ((v : ℕ) → member v xs ≡ true → v < n) → length xs ≤ n
at_most zero [] e h = zero-le
at_most zero (x ∷ xs) e h = let low = h x (member_head x x xs refl) in absurd (omega arith)
at_most (suc n) xs e h =
    le_trans (one_less n xs e)
    (suc-le-suc
    (at_most n (kept (λ v. not (eqb v n)) xs) (kept-once (λ v. not (eqb v n)) xs e)
    (λ (v : ℕ) (m : member v (kept (λ v. not (eqb v n)) xs) ≡ true).
    let p = kept-member (λ v. not (eqb v n)) v xs m in
    let below = h v p.0 in
    let apart = eqb-false v n (not-true (eqb v n) p.1) in
    omega arith)))

-- ---- the words of a tree

module _ (nodes : List ℕ) where
  -- the nodes, and the subsectors, among the words from `w` on
  abbrev pub nodes_in : ℕ → ℕ → List ℕ
  nodes_in k w = kept is_node (words_from nodes k w)

  abbrev ends_in : ℕ → ℕ → List ℕ
  ends_in k w = kept (λ v. not (is_node v)) (words_from nodes k w)

  pub kept-length : (test : ℕ → Bool) (xs ys : List ℕ) → length (kept test (xs ++ ys)) ≡ length (kept test xs) + length (kept test ys)
  kept-length test xs ys = ap length (kept_append test xs ys) ∙ length-append (kept test xs) (kept test ys)

  pub counted : (k w : ℕ) → stands nodes k w ≡ false → length (ends_in k w) ≡ length (nodes_in k w) + 1
  counted zero w e =
      let end : subsector_bit ≤ w = ltb-false w subsector_bit (sym (stands-none nodes w) ∙ e) in
      rw (words-end nodes 0 end, le-ltb w subsector_bit end)
  counted (suc k) w e =
      ⊎_elim
      (λ (h : w < subsector_bit).
      let right = words_from nodes k (child_of nodes w Right) in
      let left = words_from nodes k (child_of nodes w Left) in
      let r = counted k (child_of nodes w Right) (stands_child nodes k h e Right) in
      let l = counted k (child_of nodes w Left) (stands_child nodes k h e Left) in
      let ends = kept-length (λ v. not (is_node v)) right left in
      let inner = kept-length is_node right left in
      rw (words-node nodes k h, lt-ltb w subsector_bit h) (omega arith))
      (λ (h : subsector_bit ≤ w). rw (words-end nodes (suc k) h, le-ltb w subsector_bit h))
      (node_or_end w)

  -- ---- a reached node is one of the lump's

  pub in-range : NodesInRange nodes → (cs : List Choice) (w v : ℕ) → (w < subsector_bit → w < nodes_of nodes) → Follow nodes w cs v
      → v < subsector_bit → v < nodes_of nodes
  in-range inside [] w v h f n = rw f at (h (rw (sym f) at n))
  in-range inside (c ∷ cs) w v h f n = in-range inside cs (child_of nodes w c) v (inside w (h f.0) c) f.1 n

  module _ (off : stands nodes (nodes_of nodes) (root (nodes_of nodes)) ≡ false)
      (alone : repeats (words_from nodes (nodes_of nodes) (root (nodes_of nodes))) ≡ false) (inside : NodesInRange nodes) where
    reached-member : (v : ℕ) → Reached nodes v → member v (words_from nodes (nodes_of nodes) (root (nodes_of nodes))) ≡ true
    reached-member v r = follow_member nodes (nodes_of nodes) (root (nodes_of nodes)) off r.choices v r.leads

    member-reached : (v : ℕ) → member v (words_from nodes (nodes_of nodes) (root (nodes_of nodes))) ≡ true → Reached nodes v
    member-reached v m =
        let a = member_follow nodes (nodes_of nodes) (root (nodes_of nodes)) v m in record { choices = a.choices; leads = a.leads }

    -- those of the words that pass a test are held once
    held : (test : ℕ → Bool) (P : ℕ → Type 0) → ((v : ℕ) → P v → test v ≡ true) → ((v : ℕ) → test v ≡ true → P v)
        → HoldsOnce (λ v. Reached nodes v × P v) (kept test (words_from nodes (nodes_of nodes) (root (nodes_of nodes))))
    held test P says is =
        let words = words_from nodes (nodes_of nodes) (root (nodes_of nodes)) in
        record {
          every = λ v p. member-kept test v words (reached-member v p.0) (says v p.1);
          only = λ v m. let p = kept-member test v words m in (member-reached v p.0, is v p.1);
          once = kept-once test words alone;
        }

    pub nodes_held : HoldsOnce (λ v. Reached nodes v × (v < subsector_bit)) (nodes_in (nodes_of nodes) (root (nodes_of nodes)))
    nodes_held = held is_node (λ v. v < subsector_bit) (λ v h. lt-ltb v subsector_bit h) (λ v e. ltb-true v subsector_bit e)

    pub nodes_few : length (nodes_in (nodes_of nodes) (root (nodes_of nodes))) ≤ nodes_of nodes
    nodes_few =
        at_most (nodes_of nodes) (nodes_in (nodes_of nodes) (root (nodes_of nodes))) nodes_held.once
        (λ v m.
        let p = nodes_held.only v m in
        in-range inside p.0.choices (root (nodes_of nodes)) v (root-node (nodes_of nodes)) p.0.leads p.1)

    pub one_more_lem : OneMore nodes
    one_more_lem =
        record {
          node_words = nodes_in (nodes_of nodes) (root (nodes_of nodes));
          subsector_words = ends_in (nodes_of nodes) (root (nodes_of nodes));
          reached_nodes = nodes_held;
          reached_subsectors =
              held (λ v. not (is_node v)) (λ v. subsector_bit ≤ v)
              (λ v h. ap not (le-ltb v subsector_bit h)) (λ v e. ltb-false v subsector_bit (not-true (is_node v) e));
          one_more = counted (nodes_of nodes) (root (nodes_of nodes)) off;
          few = nodes_few;
        }
