-- Laws of marks: a node that is marked, and the list of those that are. Assumes nothing.
use Prim.Native.Nat.{ℕ, zero, suc, ◌+◌, ◌≤◌, ◌<◌}
use mathlib.Core.Bool.{Bool, true, false, not, cond}
use mathlib.Core.List.{List, [], ◌∷◌}
use mathlib.Core.Logic.{⊎_elim}
use mathlib.Core.Path.{◌≡◌, refl, sym, ap, ◌∙◌}
use native.Mathlib.Nat.{not-suc-le-zero, le_of_suc-le-suc, eq-or-lt_of_le}
use native.Mathlib.Numerals.{add-one}
use native.Mathlib.Omega.{arith}
use borrow.Author.Tests.{ltb-true, lt-ltb, eqb-false, ne_eqb, not-true}
use lib.Dec.{ltb, eqb}
use lib.ListN.{length}
use Rattle.refusal.proofs.Checks.{both, not_both, same_test}
use Rattle.node_route.specs.Heights.{member, repeats}
use Rattle.node_route.proofs.Repeats.{member_head, member_tail, member_cons}
use Rattle.node_graph.specs.Looks.{mark_of}
use Rattle.renumber_order.specs.Places.{marked_ok, marked_below}
use Rattle.renumber_order.proofs.Members.{not_held}

module _ (words : List ℕ) where
  -- ---- one node's mark

  pub marked-is : (count v : ℕ) → marked_ok words count v ≡ true → (v < count) × (mark_of words v ≡ 0 → ⊥)
  marked-is count v e =
      let p = both (ltb v count) (not (eqb (mark_of words v) 0)) e in
      (ltb-true v count p.0, eqb-false (mark_of words v) 0 (not-true (eqb (mark_of words v) 0) p.1))

  pub is-marked : (count v : ℕ) → v < count → (mark_of words v ≡ 0 → ⊥) → marked_ok words count v ≡ true
  is-marked count v l n = rw (lt-ltb v count l, ne_eqb (mark_of words v) 0 n)

  -- ---- the list of the marked nodes

  pub below_none : marked_below words 0 ≡ []
  unfolding marked_below
  below_none = refl

  below_suc : (n : ℕ) → marked_below words (suc n) ≡ cond (eqb (mark_of words n) 0) (marked_below words n) (n ∷ marked_below words n)
  unfolding marked_below
  below_suc n = refl

  -- one more where node `n` is marked
  pub below_more : (n k : ℕ) → k ≡ cond (not (eqb (mark_of words n) 0)) 1 0
      → length (marked_below words (n + 1)) ≡ length (marked_below words n) + k
  below_more n k e = rw (add-one n, below_suc n, e) (by (eqb (mark_of words n) 0))
    where
      by : (b : Bool) → length (cond b (marked_below words n) (n ∷ marked_below words n)) ≡ length (marked_below words n) + cond (not b) 1 0
      by true = omega arith
      by false = omega arith

  below-is : (n v : ℕ) → member v (marked_below words n) ≡ true → (v < n) × (mark_of words v ≡ 0 → ⊥)
  below-is zero v e = absurd (not_both false (sym (ap (member v) below_none) ∙ e) refl)
  below-is (suc n) v e = by (eqb (mark_of words n) 0) refl (sym (ap (member v) (below_suc n)) ∙ e) (below-is n v)
    where
      by : (b : Bool) → eqb (mark_of words n) 0 ≡ b → member v (cond b (marked_below words n) (n ∷ marked_below words n)) ≡ true
          → (member v (marked_below words n) ≡ true → (v < n) × (mark_of words v ≡ 0 → ⊥)) → (v < suc n) × (mark_of words v ≡ 0 → ⊥)
      by true t m rec = let p = rec m in (omega (arith, p.0), p.1)
      by false t m rec =
          ⊎_elim
          (λ (h : v ≡ n). (omega arith, rw h (eqb-false (mark_of words n) 0 t)))
          (λ (h : member v (marked_below words n) ≡ true). let p = rec h in (omega (arith, p.0), p.1))
          (member_cons v n (marked_below words n) m)

  is_below : (n v : ℕ) → v < n → (mark_of words v ≡ 0 → ⊥) → member v (marked_below words n) ≡ true
  is_below zero v l e = absurd (not-suc-le-zero l)
  is_below (suc n) v l e = ap (member v) (below_suc n) ∙ by (eqb (mark_of words n) 0) refl (is_below n v)
    where
      by : (b : Bool) → eqb (mark_of words n) 0 ≡ b → (v < n → (mark_of words v ≡ 0 → ⊥) → member v (marked_below words n) ≡ true)
          → member v (cond b (marked_below words n) (n ∷ marked_below words n)) ≡ true
      by true t rec =
          ⊎_elim
          (λ (h : v ≡ n). let off = e in absurd (not_both (eqb (mark_of words n) 0) t (ne_eqb (mark_of words n) 0 (rw h at off))))
          (λ (h : v < n). rec h e)
          (eq-or-lt_of_le (le_of_suc-le-suc l))
      by false t rec =
          ⊎_elim
          (λ (h : v ≡ n). member_head v n (marked_below words n) h)
          (λ (h : v < n). member_tail v n (marked_below words n) (rec h e))
          (eq-or-lt_of_le (le_of_suc-le-suc l))

  pub below-once : (n : ℕ) → repeats (marked_below words n) ≡ false
  below-once zero = ap repeats below_none
  below-once (suc n) = ap repeats (below_suc n) ∙ by (eqb (mark_of words n) 0) (below-once n)
    where
      by : (b : Bool) → repeats (marked_below words n) ≡ false → repeats (cond b (marked_below words n) (n ∷ marked_below words n)) ≡ false
      by true e = e
      by false e =
          let new : member n (marked_below words n) ≡ false = not_held (member n (marked_below words n)) (λ m. let p = below-is n n m in omega (arith, p.0)) in
          rw (new, e)

  pub below-few : (n : ℕ) → length (marked_below words n) ≤ n
  below-few zero = rw below_none (omega arith)
  below-few (suc n) = rw (below_suc n) (by (eqb (mark_of words n) 0) (below-few n))
    where
      by : (b : Bool) → length (marked_below words n) ≤ n → length (cond b (marked_below words n) (n ∷ marked_below words n)) ≤ suc n
      by true h = omega arith
      by false h = omega arith

  pub below-says : (n v : ℕ) → member v (marked_below words n) ≡ marked_ok words n v
  below-says n v =
      same_test (member v (marked_below words n)) (marked_ok words n v)
      (λ m. let p = below-is n v m in is-marked n v p.0 p.1)
      (λ m. let p = marked-is n v m in is_below n v p.0 p.1)
