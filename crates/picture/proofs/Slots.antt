-- Laws of the notes on places: none at first, one more, and what a noted place is known to be. Assumes nothing.
use Prim.Native.Nat.{ℕ, ◌/◌, ◌%◌, ◌≤◌, ◌<◌}
use mathlib.Core.Bool.{Bool, true, false, cond}
use mathlib.Core.List.{List}
use mathlib.Core.Path.{◌≡◌, refl, sym, ◌∙◌, subst}
use native.Mathlib.Omega.{arith}
use borrow.Author.Tests.{eqb-true, eqb-false, ltb-true, ltb-false}
use lib.Arith.{digits_div, digits_mod}
use lib.Dec.{ltb, eqb}
use lib.ListN.{length, get_or, set, length-set, replicate, length-replicate, get_or-replicate, get_or-eq_default}
use lib.Seq.{get_or-set_other}
use Rattle.refusal.proofs.Checks.{both}
use Rattle.picture.specs.Stepping.{slot_place, has_slot, slot_of, is_noted, noted, Notes}

place_slot : (at : ℕ) → at % 1024 < 4 → slot_place (slot_of at) ≡ at
place_slot at h = rw (digits_div (at / 1024) h, digits_mod (at / 1024) h) (omega arith)

pub length-noted : (notes : List ℕ) (at : ℕ) → length (noted notes at) ≡ length notes
length-noted notes at = by_slot (has_slot at)
  where
    by_slot : (b : Bool) → length (cond b (set notes (slot_of at) 1) notes) ≡ length notes
    by_slot true = length-set notes (slot_of at) 1
    by_slot false = refl

module _ (P : ℕ → Type 0) where
  -- no place is noted
  pub notes-none : (count : ℕ) → Notes P (replicate count 0)
  notes-none count slot e = absurd (none (ltb slot count) refl)
    where
      none : (b : Bool) → ltb slot count ≡ b → ⊥
      none true t = let z = sym (get_or-replicate count slot 0 0 (ltb-true slot count t)) ∙ e in omega arith
      none false t =
          let h : length (replicate {A = ℕ} count 0) ≤ slot = rw (length-replicate {A = ℕ} count 0) (ltb-false slot count t) in
          let z = sym (get_or-eq_default (replicate count 0) 0 h) ∙ e in omega arith

  pub notes-here : (notes : List ℕ) (at : ℕ) → Notes P notes → is_noted notes at ≡ true → P at
  notes-here notes at known e =
      let two = both (has_slot at) _ e in
      subst P (place_slot at (ltb-true _ _ two.0)) (known (slot_of at) (eqb-true _ _ two.1))

  pub notes-more : (notes : List ℕ) (at : ℕ) → Notes P notes → P at → Notes P (noted notes at)
  notes-more notes at known p = by_slot (has_slot at) refl
    where
      by_place : (slot : ℕ) → at % 1024 < 4 → get_or (set notes (slot_of at) 1) slot 0 ≡ 1 → (b : Bool) → eqb slot (slot_of at) ≡ b
          → P (slot_place slot)
      by_place slot h e true t = subst (λ (s : ℕ). P (slot_place s)) (sym (eqb-true slot (slot_of at) t)) (subst P (sym (place_slot at h)) p)
      by_place slot h e false t = known slot (sym (get_or-set_other notes (slot_of at) slot 1 0 (eqb-false slot (slot_of at) t)) ∙ e)

      by_slot : (b : Bool) → has_slot at ≡ b → Notes P (cond b (set notes (slot_of at) 1) notes)
      by_slot true t slot e = by_place slot (ltb-true _ _ t) e (eqb slot (slot_of at)) refl
      by_slot false t slot e = known slot e
