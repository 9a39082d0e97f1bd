-- Laws of places: where the list has no number twice, the place that the words hold is the list's own. Assumes nothing.
use Prim.Native.Nat.{ℕ, zero, suc, ◌≤◌, ◌<◌}
use mathlib.Core.Bool.{Bool, true, false, cond}
use mathlib.Core.List.{List, [], ◌∷◌}
use mathlib.Core.Path.{◌≡◌, refl, sym, ap, ◌∙◌}
use native.Mathlib.Nat.{not-suc-le-zero, le_of_suc-le-suc}
use native.Mathlib.Omega.{arith}
use borrow.Author.Tests.{ltb-true, ltb-false, le-ltb, eqb-true, eqb-false}
use lib.Dec.{ltb, eqb}
use lib.ListN.{length}
use Rattle.node_route.specs.Heights.{repeats}
use Rattle.renumber_order.specs.Orders.{index_in}
use Rattle.renumber_order.specs.Orders.{old_at}
use Rattle.renumber_order.specs.Places.{no_place, placed}
use Rattle.renumber_order.proofs.Members.{once-apart}
use Rattle.renumber_order.proofs.FirstPlaces.{placed-absent, placed-last}

pub place-low : (xs : List ℕ) (v : ℕ) → index_in xs v ≤ length xs
place-low [] v = omega arith
place-low (x ∷ xs) v = by (eqb x v) (place-low xs v)
  where
    by : (b : Bool) → index_in xs v ≤ length xs → cond b 0 (suc (index_in xs v)) ≤ suc (length xs)
    by true h = omega arith
    by false h = omega arith

place_is : (xs : List ℕ) (v : ℕ) → index_in xs v < length xs → old_at xs (index_in xs v) ≡ v
place_is [] v h = absurd (not-suc-le-zero h)
place_is (x ∷ xs) v h = by (eqb x v) refl h (place_is xs v)
  where
    by : (b : Bool) → eqb x v ≡ b → cond b 0 (suc (index_in xs v)) < suc (length xs) → (index_in xs v < length xs → old_at xs (index_in xs v) ≡ v)
        → old_at (x ∷ xs) (cond b 0 (suc (index_in xs v))) ≡ v
    by true t l rec = eqb-true x v t
    by false t l rec = rec (le_of_suc-le-suc l)

place-new : (xs : List ℕ) (v k : ℕ) → k < index_in xs v → old_at xs k ≡ v → ⊥
place-new [] v k h = absurd (not-suc-le-zero h)
place-new (x ∷ xs) v k h = by (eqb x v) refl k h (place-new xs v)
  where
    by : (b : Bool) → eqb x v ≡ b → (k : ℕ) → k < cond b 0 (suc (index_in xs v)) → ((k : ℕ) → k < index_in xs v → old_at xs k ≡ v → ⊥)
        → old_at (x ∷ xs) k ≡ v → ⊥
    by true t k l rec = absurd (not-suc-le-zero l)
    by false t zero l rec = eqb-false x v t
    by false t (suc k) l rec = rec k (le_of_suc-le-suc l)

-- what the words hold is the list's own place, or none where the number is not there
pub record OwnPlace (order : List ℕ) (v : ℕ) : Type 0 where
  pub there : index_in order v < length order → placed order (length order) v ≡ index_in order v
  pub absent : length order ≤ index_in order v → placed order (length order) v ≡ no_place

pub own-place : (order : List ℕ) (v : ℕ) → repeats order ≡ false → OwnPlace order v
own-place order v e =
    record {
      there = λ h.
          placed-last order (length order) v (index_in order v) h (place_is order v h)
          (λ k a b q. once-apart order e (index_in order v) k a b (place_is order v h ∙ sym q));
      absent = λ h. placed-absent order (length order) v (λ k l. place-new order v k (omega arith));
    }

-- a place is before `i` by the words exactly if it is by the list
pub before_same : (order : List ℕ) (v i : ℕ) → repeats order ≡ false → length order ≤ 32767 → i < length order
    → ltb (placed order (length order) v) i ≡ ltb (index_in order v) i
before_same order v i e few l = by (ltb (index_in order v) (length order)) refl
  where
    by : (b : Bool) → ltb (index_in order v) (length order) ≡ b → ltb (placed order (length order) v) i ≡ ltb (index_in order v) i
    by true t = ap (λ (k : ℕ). ltb k i) ((own-place order v e).there (ltb-true (index_in order v) (length order) t))
    by false t =
        let past = ltb-false (index_in order v) (length order) t in
        let none = (own-place order v e).absent past in
        le-ltb (placed order (length order) v) i (omega (arith, none)) ∙ sym (le-ltb (index_in order v) i (omega arith))
