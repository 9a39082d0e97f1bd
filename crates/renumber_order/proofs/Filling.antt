-- The places as they are given, number by number: what is known before the next, and what is answered. Assumes nothing.
use Prim.Native.Nat.{ℕ, ◌+◌, ◌*◌, ◌≤◌, ◌<◌}
use mathlib.Core.Bool.{Bool, true, false, ◌&&◌, not}
use mathlib.Core.List.{List}
use mathlib.Core.Logic.{⊎_elim}
use mathlib.Core.Path.{◌≡◌, refl, sym, ap, ◌∙◌}
use native.Mathlib.Nat.{not-suc-le-zero, le_of_suc-le-suc, eq-or-lt_of_le}
use native.Mathlib.Omega.{arith}
use borrow.Author.Tests.{not-true, eqb-true, eqb-false}
use lib.Dec.{eqb}
use lib.ListN.{length, set, length-set}
use lib.Seq.{get_or-set_same, get_or-set_other}
use Rattle.refusal.proofs.Checks.{both, not_both}
use Rattle.node_route.specs.Heights.{repeats}
use Rattle.node_graph.specs.Looks.{mark_of}
use Rattle.renumber_order.specs.Orders.{old_at}
use Rattle.renumber_order.specs.Places.{marked_ok, all_marked, no_place, placed, place_word, PlacesHeld, free_ok, Filled}
use Rattle.renumber_order.proofs.Members.{not_held, held_both, once-apart, apart-once}
use Rattle.renumber_order.proofs.Marks.{marked-is, is-marked}
use Rattle.renumber_order.proofs.FirstPlaces.{placed-here, placed_there, placed-absent, absent-placed, free_is, is_free, all-places, places-all}

-- ---- the list's places

-- the first `i` numbers of the list are marked nodes that stood nowhere before, and the words hold their places
pub record Filling (count : ℕ) (before order : List ℕ) (i : ℕ) (after : List ℕ) : Type 0 where
  pub long : length after ≡ length before
  pub marks : (v : ℕ) → v < count → mark_of after v ≡ mark_of before v
  pub places : PlacesHeld order i after count
  pub good : (j : ℕ) → j < i → (marked_ok before count (old_at order j) ≡ true) × (placed order j (old_at order j) ≡ no_place)

module _ (count : ℕ) (before order : List ℕ) where
  pub filling_none : PlacesHeld order 0 before count → Filling count before order 0 before
  filling_none p = record { long = refl; marks = λ v l. refl; places = p; good = λ j l. absurd (not-suc-le-zero l) }

  module _ (i : ℕ) (after : List ℕ) (f : Filling count before order i after) where
    -- the marks are those before
    same-marked : (v : ℕ) → marked_ok after count v ≡ true → marked_ok before count v ≡ true
    same-marked v e =
        let p = marked-is after count v e in is-marked before count v p.0 (λ (q : mark_of before v ≡ 0). p.1 (f.marks v p.0 ∙ q))

    marked-same : (v : ℕ) → marked_ok before count v ≡ true → marked_ok after count v ≡ true
    marked-same v e =
        let p = marked-is before count v e in is-marked after count v p.0 (λ (q : mark_of after v ≡ 0). p.1 (sym (f.marks v p.0) ∙ q))

    pub filling_low : free_ok after count (old_at order i) ≡ true → old_at order i < count
    filling_low e = (marked-is after count (old_at order i) (free_is after count (old_at order i) e).0).0

    pub filling_more : 2 * count ≤ length before → free_ok after count (old_at order i) ≡ true
        → Filling count before order (i + 1) (set after (count + old_at order i) i)
    filling_more h e =
        let v = old_at order i in
        let low = filling_low e in
        let free = free_is after count v e in
        record {
          long = length-set after (count + v) i ∙ f.long;
          marks = λ u k. get_or-set_other after (count + v) u i 0 (λ q. omega arith) ∙ f.marks u k;
          places = λ u k.
              by u k (eqb v u) refl;
          good = λ j k.
              ⊎_elim
              (λ (q : j ≡ i). rw q (same-marked v free.0, sym (f.places v low) ∙ free.1))
              (λ (q : j < i). f.good j q)
              (eq-or-lt_of_le (le_of_suc-le-suc (omega arith)));
        }
      where
        by : (u : ℕ) → u < count → (b : Bool) → eqb (old_at order i) u ≡ b
            → place_word (set after (count + old_at order i) i) count u ≡ placed order (i + 1) u
        by u k true t =
            let same = eqb-true (old_at order i) u t in
            let inside : count + old_at order i < length after = omega (arith, f.long) in
            rw (← same) (get_or-set_same after (count + old_at order i) i 0 inside ∙ sym (placed-here order i (old_at order i) refl))
        by u k false t =
            let other = eqb-false (old_at order i) u t in
            get_or-set_other after (count + old_at order i) (count + u) i 0 (λ (s : count + u ≡ count + old_at order i). other (omega arith))
            ∙ f.places u k ∙ sym (placed_there order i u other)

    -- a number that is no marked node, or stood before
    pub filling_stop : i < length order → free_ok after count (old_at order i) ≡ false → (last : List ℕ) → Filled count before order last false
    filling_stop l e last =
        record {
          tells = sym (not_held (all_marked before count order && not (repeats order)) (λ t. not_both (free_ok after count (old_at order i)) (free t) e));
          holds = λ t. absurd (not_both false t refl);
        }
      where
        free : (all_marked before count order && not (repeats order)) ≡ true → free_ok after count (old_at order i) ≡ true
        free t =
            let v = old_at order i in
            let p = both (all_marked before count order) (not (repeats order)) t in
            let marked = all-places before count order p.0 i l in
            let apart = once-apart order (not-true (repeats order) p.1) in
            is_free after count v (marked-same v marked)
            (f.places v (marked-is before count v marked).0 ∙ placed-absent order i v (λ k s q. apart k i s l q))

    -- all of them
    pub filling_done : i ≡ length order → length order ≤ 32767 → Filled count before order after true
    filling_done e few =
        record {
          tells = sym
              (held_both
              (places-all before count order (λ j l. (f.good j (omega arith)).0))
              (ap not
              (apart-once order
              (λ j k a b. absent-placed order k (old_at order k) (omega arith) (f.good k (omega arith)).1 j a))));
          holds = λ t. rw e at f.places;
        }
