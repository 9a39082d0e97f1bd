-- A child stands twice among those of the marked nodes exactly if two different places of marked nodes lead to it.
-- Assumes nothing.
use Prim.Native.Nat.{ℕ, zero, suc, ◌+◌, ◌<◌}
use mathlib.Core.Bool.{Bool, true, false}
use mathlib.Core.List.{List, [], ◌∷◌}
use mathlib.Core.Logic.{◌⊎◌, inl, inr, ⊎_elim}
use mathlib.Core.Path.{◌≡◌, refl, sym, ap, ◌∙◌}
use native.Mathlib.Decide.{dec_lt}
use native.Mathlib.Nat.{eq-or-lt_of_le, le_of_suc-le-suc}
use native.Mathlib.Numerals.{add-one}
use native.Mathlib.Omega.{arith}
use borrow.Author.Tests.{eqb-true, eqb-false}
use lib.Dec.{eqb}
use lib.ListN.{get_or}
use Rattle.node.specs.declared.Choice.{Choice}
use Rattle.node.specs.declared.Choice.TheVariants.{Right, Left}
use Rattle.node.specs.Nodes.{child_of}
use Rattle.node_route.specs.Heights.{member, repeats}
use Rattle.node_route.proofs.Repeats.{or_either, member_head, member_tail, member_cons, repeats_head, repeats_tail}
use Rattle.node_sharing.specs.Children.{child_words}
use Rattle.node_sharing.proofs.Children.{children_none, children_skip, children_more, repeats-kept}

order : (i j : ℕ) → (i ≡ j) ⊎ ((i < j) ⊎ (j < i))
order i j = by (dec_lt i j) (dec_lt j i)
  where
    by : Dec (i < j) → Dec (j < i) → (i ≡ j) ⊎ ((i < j) ⊎ (j < i))
    by (yes h) k = inr (inl h)
    by (no h) (yes k) = inr (inr k)
    by (no h) (no k) = inl (omega arith)

module _ (nodes marks : List ℕ) where
  -- node `i` is marked, and is one of the first `n`
  pub record Marked (n i : ℕ) : Type 0 where
    pub low : i < n
    pub marked : get_or marks i 0 ≡ 0 → ⊥

  -- two different places of marked nodes, with one child
  pub record Twice (n : ℕ) : Type 0 where
    pub node : ℕ
    pub choice : Choice
    pub node' : ℕ
    pub choice' : Choice
    pub different : node ≡ node' → choice ≡ choice' → ⊥
    pub at : Marked n node
    pub at' : Marked n node'
    pub child : child_of nodes node choice ≡ child_of nodes node' choice'

  further : (n i : ℕ) → Marked n i → Marked (suc n) i
  further n i m = record { low = (let h = m.low in omega arith); marked = m.marked }

  further_twice : (n : ℕ) → Twice n → Twice (suc n)
  further_twice n t =
      record {
        node = t.node;
        choice = t.choice;
        node' = t.node';
        choice' = t.choice';
        different = t.different;
        at = further n t.node t.at;
        at' = further n t.node' t.at';
        child = t.child;
      }

  -- a place that leads to `w`
  record Leading (n w : ℕ) : Type 0 where
    node : ℕ
    choice : Choice
    at : Marked n node
    child : child_of nodes node choice ≡ w

  -- ---- a child in the list has its place

  -- the list of one node more, by the node's mark
  module _ (n : ℕ) (some : get_or marks n 0 ≡ 0 → ⊥) where
    here : Marked (suc n) n
    here = record { low = omega arith; marked = some }

    lead_here : (w : ℕ) (c : Choice) → w ≡ child_of nodes n c → Leading (suc n) w
    lead_here w c e = record { node = n; choice = c; at = here; child = sym e }

  further_leading : (n w : ℕ) → Leading n w → Leading (suc n) w
  further_leading n w l = record { node = l.node; choice = l.choice; at = further n l.node l.at; child = l.child }

  member-by : (n w : ℕ) (b : Bool) → eqb (get_or marks n 0) 0 ≡ b → (member w (child_words nodes marks n) ≡ true → Leading n w)
      → member w (child_words nodes marks (suc n)) ≡ true → Leading (suc n) w
  member-by n w true z rec e =
      further_leading n w (rec (rw (← add-one n, children_skip nodes marks n (eqb-true (get_or marks n 0) 0 z)) at e))
  member-by n w false z rec e =
      let some = eqb-false (get_or marks n 0) 0 z in
      let right = child_of nodes n Right in
      let xs = child_words nodes marks n in
      ⊎_elim
      (λ (h : w ≡ child_of nodes n Left). lead_here n some w Left h)
      (λ (h : member w (right ∷ xs) ≡ true).
      ⊎_elim (λ (k : w ≡ right). lead_here n some w Right k) (λ (k : member w xs ≡ true). further_leading n w (rec k)) (member_cons w right xs h))
      (member_cons w (child_of nodes n Left) (right ∷ xs) (rw (← add-one n, children_more nodes marks n some) at e))

  member-place : (n w : ℕ) → member w (child_words nodes marks n) ≡ true → Leading n w
  member-place zero w e =
      let none : member w [] ≡ true = rw (children_none nodes marks) at e in
      let z : ◌≡◌ {A = ℕ} 0 1 = cc in
      absurd (omega arith)
  member-place (suc n) w e = member-by n w (eqb (get_or marks n 0) 0) refl (member-place n w) e

  -- a child of node `n`, and the same among those before it
  twice-here : (n : ℕ) (some : get_or marks n 0 ≡ 0 → ⊥) (c : Choice) → Leading n (child_of nodes n c) → Twice (suc n)
  twice-here n some c l =
      record {
        node = n;
        choice = c;
        node' = l.node;
        choice' = l.choice;
        different = λ (e : n ≡ l.node) (q : c ≡ l.choice). (let h = l.at.low in omega arith);
        at = here n some;
        at' = further n l.node l.at;
        child = sym l.child;
      }

  both_here : (n : ℕ) (some : get_or marks n 0 ≡ 0 → ⊥) → child_of nodes n Left ≡ child_of nodes n Right → Twice (suc n)
  both_here n some e =
      record {
        node = n;
        choice = Left;
        node' = n;
        choice' = Right;
        different = λ (p : n ≡ n) (q : Left ≡ Right). (let z : ◌≡◌ {A = ℕ} 0 1 = cc in omega arith);
        at = here n some;
        at' = here n some;
        child = e;
      }

  twice-by : (n : ℕ) (b : Bool) → eqb (get_or marks n 0) 0 ≡ b → (repeats (child_words nodes marks n) ≡ true → Twice n)
      → repeats (child_words nodes marks (suc n)) ≡ true → Twice (suc n)
  twice-by n true z rec e =
      further_twice n (rec (rw (← add-one n, children_skip nodes marks n (eqb-true (get_or marks n 0) 0 z)) at e))
  twice-by n false z rec e =
      let some = eqb-false (get_or marks n 0) 0 z in
      let right = child_of nodes n Right in
      let left = child_of nodes n Left in
      let xs = child_words nodes marks n in
      ⊎_elim
      (λ (h : member left (right ∷ xs) ≡ true).
      ⊎_elim
      (λ (k : left ≡ right). both_here n some k)
      (λ (k : member left xs ≡ true). twice-here n some Left (member-place n left k))
      (member_cons left right xs h))
      (λ (h : repeats (right ∷ xs) ≡ true).
      ⊎_elim
      (λ (k : member right xs ≡ true). twice-here n some Right (member-place n right k))
      (λ (k : repeats xs ≡ true). further_twice n (rec k))
      (or_either (member right xs) (repeats xs) h))
      (or_either (member left (right ∷ xs)) (repeats (right ∷ xs)) (rw (← add-one n, children_more nodes marks n some) at e))

  pub repeats-twice : (n : ℕ) → repeats (child_words nodes marks n) ≡ true → Twice n
  repeats-twice zero e =
      let none : repeats [] ≡ true = rw (children_none nodes marks) at e in
      let z : ◌≡◌ {A = ℕ} 0 1 = cc in
      absurd (omega arith)
  repeats-twice (suc n) e = twice-by n (eqb (get_or marks n 0) 0) refl (repeats-twice n) e

  -- ---- a place has its child in the list

  member-here : (n : ℕ) → (get_or marks n 0 ≡ 0 → ⊥) → (c : Choice) → member (child_of nodes n c) (child_words nodes marks (n + 1)) ≡ true
  member-here n some Left =
      rw (children_more nodes marks n some)
      (member_head (child_of nodes n Left) (child_of nodes n Left) (child_of nodes n Right ∷ child_words nodes marks n) refl)
  member-here n some Right =
      rw (children_more nodes marks n some)
      (member_tail (child_of nodes n Right) (child_of nodes n Left) (child_of nodes n Right ∷ child_words nodes marks n)
      (member_head (child_of nodes n Right) (child_of nodes n Right) (child_words nodes marks n) refl))

  more_by : (n w : ℕ) (b : Bool) → eqb (get_or marks n 0) 0 ≡ b → member w (child_words nodes marks n) ≡ true
      → member w (child_words nodes marks (n + 1)) ≡ true
  more_by n w true z e = rw (children_skip nodes marks n (eqb-true (get_or marks n 0) 0 z)) e
  more_by n w false z e =
      rw (children_more nodes marks n (eqb-false (get_or marks n 0) 0 z))
      (member_tail w (child_of nodes n Left) (child_of nodes n Right ∷ child_words nodes marks n)
      (member_tail w (child_of nodes n Right) (child_words nodes marks n) e))

  place-member : (n i : ℕ) → Marked n i → (c : Choice) → member (child_of nodes i c) (child_words nodes marks n) ≡ true
  place-member zero i m c = let h = m.low in absurd (omega arith)
  place-member (suc n) i m c =
      rw (← add-one n)
      (⊎_elim
      (λ (e : i ≡ n). rw e (member-here n (rw e at m.marked) c))
      (λ (h : i < n). more_by n (child_of nodes i c) (eqb (get_or marks n 0) 0) refl (place-member n i (record { low = h; marked = m.marked }) c))
      (eq-or-lt_of_le (le_of_suc-le-suc m.low)))

  -- a child of node `n` that is among those before it
  repeats-here : (n : ℕ) → (get_or marks n 0 ≡ 0 → ⊥) → (c : Choice) → member (child_of nodes n c) (child_words nodes marks n) ≡ true
      → repeats (child_words nodes marks (n + 1)) ≡ true
  repeats-here n some Left e =
      rw (children_more nodes marks n some)
      (repeats_head (child_of nodes n Left) (child_of nodes n Right ∷ child_words nodes marks n)
      (member_tail (child_of nodes n Left) (child_of nodes n Right) (child_words nodes marks n) e))
  repeats-here n some Right e =
      rw (children_more nodes marks n some)
      (repeats_tail (child_of nodes n Left) (child_of nodes n Right ∷ child_words nodes marks n)
      (repeats_head (child_of nodes n Right) (child_words nodes marks n) e))

  repeats_both : (n : ℕ) → (get_or marks n 0 ≡ 0 → ⊥) → (c d : Choice) → (c ≡ d → ⊥) → child_of nodes n c ≡ child_of nodes n d
      → repeats (child_words nodes marks (n + 1)) ≡ true
  repeats_both n some Right Right d e = absurd (d refl)
  repeats_both n some Left Left d e = absurd (d refl)
  repeats_both n some Left Right d e =
      rw (children_more nodes marks n some)
      (repeats_head (child_of nodes n Left) (child_of nodes n Right ∷ child_words nodes marks n)
      (member_head (child_of nodes n Left) (child_of nodes n Right) (child_words nodes marks n) e))
  repeats_both n some Right Left d e =
      rw (children_more nodes marks n some)
      (repeats_head (child_of nodes n Left) (child_of nodes n Right ∷ child_words nodes marks n)
      (member_head (child_of nodes n Left) (child_of nodes n Right) (child_words nodes marks n) (sym e)))

  -- the later of two different nodes with one child
  later : (i j : ℕ) (c d : Choice) → i < j → (get_or marks i 0 ≡ 0 → ⊥) → (get_or marks j 0 ≡ 0 → ⊥)
      → child_of nodes i c ≡ child_of nodes j d → repeats (child_words nodes marks (j + 1)) ≡ true
  later i j c d h m k e = repeats-here j k d (rw (sym e) (place-member j i (record { low = h; marked = m }) c))

  pub twice-repeats : (n : ℕ) → Twice n → repeats (child_words nodes marks n) ≡ true
  twice-repeats n t =
      let i = t.node in
      let j = t.node' in
      let li = t.at.low in
      let lj = t.at'.low in
      ⊎_elim
      (λ (e : i ≡ j).
      repeats-kept nodes marks (i + 1) n
      (repeats_both i t.at.marked t.choice t.choice' (t.different e) (t.child ∙ ap (λ (x : ℕ). child_of nodes x t.choice') (sym e)))
      (omega arith))
      (λ (e : (i < j) ⊎ (j < i)).
      ⊎_elim
      (λ (h : i < j). repeats-kept nodes marks (j + 1) n (later i j t.choice t.choice' h t.at.marked t.at'.marked t.child) (omega arith))
      (λ (h : j < i). repeats-kept nodes marks (i + 1) n (later j i t.choice' t.choice h t.at'.marked t.at.marked (sym t.child)) (omega arith))
      e)
      (order i j)
