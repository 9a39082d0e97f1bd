-- Laws of the tests of the list: the root at its end, children before their parents, by the words and by the list. Assumes nothing.
use Prim.Native.Nat.{ℕ, zero, suc, ◌+◌, ◌*◌, ◌≤◌, ◌<◌}
use mathlib.Core.Bool.{Bool, true, false, ◌&&◌, ◌||◌, not}
use mathlib.Core.List.{List, [], ◌∷◌}
use mathlib.Core.Logic.{⊎_elim}
use mathlib.Core.Path.{◌≡◌, refl, sym, ap, ◌∙◌}
use native.Mathlib.Nat.{not-suc-le-zero, le_of_suc-le-suc, eq-or-lt_of_le}
use native.Mathlib.Numerals.{add-one}
use native.Mathlib.Omega.{arith}
use borrow.Author.Tests.{le-ltb}
use lib.Dec.{ltb, eqb}
use lib.ListN.{length, get_or}
use Rattle.refusal.proofs.Checks.{both, not_both}
use Rattle.record.specs.Nodes.{node_size}
use Rattle.node.specs.declared.Choice.{Choice}
use Rattle.node.specs.declared.Choice.TheVariants.{Right, Left}
use Rattle.node.specs.Nodes.{nodes_of, subsector_bit, is_node, child_of}
use Rattle.node_route.proofs.Heights.{node_or_end}
use Rattle.node.proofs.Nodes.{nodes_of-whole}
use Rattle.renumber_order.specs.Orders.{last_ok, child_first, children_ok}
use Rattle.renumber_order.specs.Orders.{old_at}
use Rattle.renumber_order.specs.Places.{placed, place_word}
use Rattle.renumber_order.specs.Judging.{Ordered, ChildrenPlaced, before_ok, both_before}
use Rattle.renumber_order.proofs.Members.{not_held, held_both}
use Rattle.renumber_order.proofs.Placing.{before_same}

-- ---- 72

pub last_none : (v : ℕ) (order : List ℕ) → length order ≡ 0 → true ≡ last_ok v order
last_none v [] e = refl
last_none v (x ∷ xs) e = absurd (omega arith)

pub last_at : (v : ℕ) (order : List ℕ) (n : ℕ) → length order ≡ suc n → eqb (get_or order n 0) v ≡ last_ok v order
last_at v [] n e = absurd (omega arith)
last_at v (x ∷ []) zero e = refl
last_at v (x ∷ []) (suc n) e = absurd (omega arith)
last_at v (x ∷ y ∷ ys) zero e = absurd (omega arith)
last_at v (x ∷ y ∷ ys) (suc n) e = last_at v (y ∷ ys) n (omega arith)

-- ---- 71

module _ (nodes order : List ℕ) where
  -- both children of the node at place `i`
  abbrev both_first : ℕ → Bool
  both_first i = child_first nodes order i Right && child_first nodes order i Left

  pub children_none : children_ok nodes order 0 ≡ true
  unfolding children_ok
  children_none = refl

  pub children_suc : (n : ℕ) → children_ok nodes order (suc n) ≡ children_ok nodes order n && child_first nodes order n Right && child_first nodes order n Left
  unfolding children_ok
  children_suc n = refl

  pub children_more : (n : ℕ) → children_ok nodes order n ≡ true → both_first n ≡ true → children_ok nodes order (n + 1) ≡ true
  children_more n e f =
      let p = both (child_first nodes order n Right) (child_first nodes order n Left) f in rw (add-one n, children_suc n, e, p.0, p.1)

  -- every child of the first `n`
  pub children_each : (n : ℕ) → children_ok nodes order n ≡ true → (i : ℕ) → i < n → (c : Choice) → child_first nodes order i c ≡ true
  children_each zero e i l c = absurd (not-suc-le-zero l)
  children_each (suc n) e i l c =
      let p = both (children_ok nodes order n && child_first nodes order n Right) (child_first nodes order n Left) (sym (children_suc n) ∙ e) in
      let q = both (children_ok nodes order n) (child_first nodes order n Right) p.0 in
      ⊎_elim
      (λ (s : i ≡ n). rw s (by q.1 p.1 c))
      (λ (s : i < n). children_each n q.0 i s c)
      (eq-or-lt_of_le (le_of_suc-le-suc l))
    where
      by : child_first nodes order n Right ≡ true → child_first nodes order n Left ≡ true → (c : Choice) → child_first nodes order n c ≡ true
      by r l Right = r
      by r l Left = l

  pub children_stop : (n i : ℕ) → i < n → both_first i ≡ false → children_ok nodes order n ≡ false
  children_stop n i l e =
      not_held (children_ok nodes order n)
      (λ t. not_both (both_first i) (held_both (children_each n t i l Right) (children_each n t i l Left)) e)

-- ---- by the words

module _ (nodes : List ℕ) (count : ℕ) (words order : List ℕ) (o : Ordered nodes count words order) (i : ℕ) (l : i < length order) where
  -- the node at place `i` lies in the lump
  pub order-inside : node_size * old_at order i + node_size ≤ length nodes
  order-inside = omega (arith, o.low i l, o.whole)

  child_low : (c : Choice) → child_of nodes (old_at order i) c < subsector_bit → child_of nodes (old_at order i) c < count
  child_low c h =
      let counted = nodes_of-whole nodes count o.whole in
      let low : old_at order i < nodes_of nodes = omega (arith, o.low i l, counted) in
      omega (arith, o.in_range (old_at order i) low c h, counted)

  pub order-placed : ChildrenPlaced nodes count words (old_at order i)
  order-placed c h = omega (arith, child_low c h, o.enough)

  -- the word of a child is its place
  pub child_word : (c : Choice) → child_of nodes (old_at order i) c < subsector_bit
      → place_word words count (child_of nodes (old_at order i) c) ≡ placed order (length order) (child_of nodes (old_at order i) c)
  child_word c h = o.places (child_of nodes (old_at order i) c) (child_low c h)

  before-first : (c : Choice) → before_ok words count i (child_of nodes (old_at order i) c) ≡ child_first nodes order i c
  before-first c =
      let w = child_of nodes (old_at order i) c in
      ⊎_elim
      (λ (h : w < subsector_bit).
      ap (λ (b : Bool). not (is_node w) || b) (ap (λ (k : ℕ). ltb k i) (child_word c h) ∙ before_same order w i o.once o.few l))
      (λ (h : subsector_bit ≤ w). rw (le-ltb w subsector_bit h))
      (node_or_end w)

  pub both_first_lem : both_before nodes words count i (old_at order i) ≡ child_first nodes order i Right && child_first nodes order i Left
  both_first_lem = λ j. before-first Right j && before-first Left j
