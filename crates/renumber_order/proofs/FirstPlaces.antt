-- Laws of places: those of the first numbers of the list, and as they are given. Assumes nothing.
use Prim.Native.Nat.{ℕ, zero, suc, ◌+◌, ◌≤◌, ◌<◌}
use mathlib.Core.Bool.{Bool, true, false, cond}
use mathlib.Core.List.{List, [], ◌∷◌}
use mathlib.Core.Logic.{⊎_elim}
use mathlib.Core.Path.{◌≡◌, refl, sym, ◌∙◌}
use native.Mathlib.Nat.{not-suc-le-zero, le_of_suc-le-suc, eq-or-lt_of_le, le_step, le_refl}
use native.Mathlib.Numerals.{add-one}
use native.Mathlib.Omega.{arith}
use borrow.Author.Tests.{eqb-true, eqb-false, eq-eqb, ne_eqb}
use lib.Dec.{eqb}
use lib.ListN.{length}
use Rattle.refusal.proofs.Checks.{both}
use Rattle.renumber_order.specs.Orders.{old_at}
use Rattle.renumber_order.specs.Places.{marked_ok, all_marked, no_place, placed, place_word, free_ok}
use Rattle.renumber_order.proofs.Members.{held_both}

-- ---- the places of the first numbers

module _ (order : List ℕ) where
  pub placed-none : (v : ℕ) → placed order 0 v ≡ no_place
  unfolding placed
  placed-none v = refl

  placed-suc : (n v : ℕ) → placed order (suc n) v ≡ cond (eqb (old_at order n) v) n (placed order n v)
  unfolding placed
  placed-suc n v = refl

  pub placed-here : (n v : ℕ) → old_at order n ≡ v → placed order (n + 1) v ≡ n
  placed-here n v e = rw (add-one n, placed-suc n v, eq-eqb (old_at order n) v e)

  pub placed_there : (n v : ℕ) → (old_at order n ≡ v → ⊥) → placed order (n + 1) v ≡ placed order n v
  placed_there n v e = rw (add-one n, placed-suc n v, ne_eqb (old_at order n) v e)

  -- a number that is not there has no place
  pub placed-absent : (n v : ℕ) → ((k : ℕ) → k < n → old_at order k ≡ v → ⊥) → placed order n v ≡ no_place
  placed-absent zero v h = placed-none v
  placed-absent (suc n) v h =
      rw (placed-suc n v, ne_eqb (old_at order n) v (h n (le_refl (suc n)))) (placed-absent n v (λ k l. h k (le_step l)))

  -- and one that has none is not there
  pub absent-placed : (n v : ℕ) → n ≤ no_place → placed order n v ≡ no_place → (k : ℕ) → k < n → old_at order k ≡ v → ⊥
  absent-placed zero v h e k l = absurd (not-suc-le-zero l)
  absent-placed (suc n) v h e k l = by (eqb (old_at order n) v) refl (sym (placed-suc n v) ∙ e) (absent-placed n v (omega arith))
    where
      by : (b : Bool) → eqb (old_at order n) v ≡ b → cond b n (placed order n v) ≡ no_place
          → (placed order n v ≡ no_place → (k : ℕ) → k < n → old_at order k ≡ v → ⊥) → old_at order k ≡ v → ⊥
      by true t q rec = absurd (omega arith)
      by false t q rec =
          ⊎_elim
          (λ (s : k ≡ n). rw s (eqb-false (old_at order n) v t))
          (λ (s : k < n). rec q k s)
          (eq-or-lt_of_le (le_of_suc-le-suc l))

  -- the place of the last one
  pub placed-last : (n v j : ℕ) → j < n → old_at order j ≡ v → ((k : ℕ) → j < k → k < n → old_at order k ≡ v → ⊥) → placed order n v ≡ j
  placed-last zero v j l e h = absurd (not-suc-le-zero l)
  placed-last (suc n) v j l e h =
      ⊎_elim
      (λ (s : j ≡ n). rw (placed-suc n v, eq-eqb (old_at order n) v (rw s at e)) (sym s))
      (λ (s : j < n).
      rw (placed-suc n v, ne_eqb (old_at order n) v (h n s (le_refl (suc n)))) (placed-last n v j s e (λ k a b. h k a (le_step b))))
      (eq-or-lt_of_le (le_of_suc-le-suc l))

-- ---- the places as they are given

module _ (words : List ℕ) (count : ℕ) where
  pub free_is : (v : ℕ) → free_ok words count v ≡ true → (marked_ok words count v ≡ true) × (place_word words count v ≡ no_place)
  free_is v e =
      let p = both (marked_ok words count v) (eqb (place_word words count v) no_place) e in
      (p.0, eqb-true (place_word words count v) no_place p.1)

  pub is_free : (v : ℕ) → marked_ok words count v ≡ true → place_word words count v ≡ no_place → free_ok words count v ≡ true
  is_free v m e = rw (m, eq-eqb (place_word words count v) no_place e)

  pub all-places : (order : List ℕ) → all_marked words count order ≡ true → (i : ℕ) → i < length order → marked_ok words count (old_at order i) ≡ true
  all-places [] e i h = absurd (not-suc-le-zero h)
  all-places (x ∷ xs) e zero h = (both (marked_ok words count x) (all_marked words count xs) e).0
  all-places (x ∷ xs) e (suc i) h = all-places xs (both (marked_ok words count x) (all_marked words count xs) e).1 i (le_of_suc-le-suc h)

  pub places-all : (order : List ℕ) → ((i : ℕ) → i < length order → marked_ok words count (old_at order i) ≡ true) → all_marked words count order ≡ true
  places-all [] h = refl
  places-all (x ∷ xs) h = held_both (h 0 (omega arith)) (places-all xs (λ i l. h (suc i) (omega arith)))
