-- Laws of the children of marked nodes: one node more, and what is noted of them. Assumes nothing.
use Prim.Native.Nat.{ℕ, zero, suc, ◌+◌, ◌%◌, ◌≤◌, ◌<◌}
use mathlib.Core.Bool.{Bool, true, false, ◌||◌}
use mathlib.Core.List.{List, [], ◌∷◌}
use mathlib.Core.Logic.{⊎_elim}
use mathlib.Core.Path.{◌≡◌, refl, sym, ap, ◌∙◌}
use native.Mathlib.Nat.{eq-or-lt_of_le, le_of_suc-le-suc}
use native.Mathlib.Numerals.{add-one}
use native.Mathlib.Omega.{arith}
use borrow.Author.Tests.{eqb-true, eqb-false, ne_eqb}
use lib.Dec.{eqb}
use lib.ListN.{length, get_or, replicate, length-replicate}
use Rattle.node.specs.declared.Choice.TheVariants.{Right, Left}
use Rattle.node.specs.Nodes.{child_of}
use Rattle.node_route.specs.Heights.{member, repeats}
use Rattle.node_route.proofs.Repeats.{repeats_head, repeats_tail}
use Rattle.node_sharing.specs.Children.{child_words}
use Rattle.bits.specs.Bits.{is_noted, with_note}
use Rattle.bits.proofs.Bits.{note-more, length-note, note-none}
use Rattle.node_sharing.specs.Inner.{Seen, Met}

-- `seen` says which words are in the list
abbrev Noted : List ℕ → List ℕ → Type 0
Noted seen xs = (w : ℕ) → w < 65536 → is_noted 8192 seen w ≡ member w xs

noted_more : (seen xs : List ℕ) (v : ℕ) → v % 8192 < length seen → Noted seen xs → Noted (with_note 8192 seen v) (v ∷ xs)
noted_more seen xs v h noted w l = note-more 8192 seen v w h ∙ ap (λ (b : Bool). eqb w v || b) (noted w l)

module _ (nodes marks : List ℕ) where
  pub children_none : child_words nodes marks 0 ≡ []
  unfolding child_words
  children_none = refl

  pub children_skip : (n : ℕ) → get_or marks n 0 ≡ 0 → child_words nodes marks (n + 1) ≡ child_words nodes marks n
  unfolding child_words
  children_skip n e = rw (add-one n, e)

  pub children_more : (n : ℕ) → (get_or marks n 0 ≡ 0 → ⊥)
      → child_words nodes marks (n + 1) ≡ child_of nodes n Left ∷ child_of nodes n Right ∷ child_words nodes marks n
  unfolding child_words
  children_more n e = rw (add-one n, ne_eqb (get_or marks n 0) 0 e)

  -- a child that came twice stays the answer, however many follow
  more_by : (n : ℕ) (b : Bool) → eqb (get_or marks n 0) 0 ≡ b → repeats (child_words nodes marks n) ≡ true → repeats (child_words nodes marks (n + 1)) ≡ true
  more_by n true z e = rw (children_skip n (eqb-true (get_or marks n 0) 0 z)) e
  more_by n false z e =
      let right = child_of nodes n Right in
      rw (children_more n (eqb-false (get_or marks n 0) 0 z))
      (repeats_tail (child_of nodes n Left) (right ∷ child_words nodes marks n) (repeats_tail right (child_words nodes marks n) e))

  pub repeats-kept : (i n : ℕ) → repeats (child_words nodes marks i) ≡ true → i ≤ n → repeats (child_words nodes marks n) ≡ true
  repeats-kept i zero e h = let z : i ≡ 0 = omega arith in rw z at e
  repeats-kept i (suc n) e h =
      ⊎_elim
      (λ (q : i ≡ suc n). rw q at e)
      (λ (l : i < suc n). rw (← add-one n) (more_by n (eqb (get_or marks n 0) 0) refl (repeats-kept i n e (le_of_suc-le-suc l))))
      (eq-or-lt_of_le h)

  -- ---- what is seen

  pub seen_none : Seen nodes marks 0 (replicate 8192 0)
  seen_none =
      record {
        places = length-replicate {A = ℕ} 8192 0;
        noted = λ w h. rw children_none (note-none 8192 w (omega arith));
        once = rw children_none;
      }

  module _ (n : ℕ) (seen : List ℕ) (s : Seen nodes marks n seen) where
    pub seen_skip : get_or marks n 0 ≡ 0 → Seen nodes marks (n + 1) seen
    seen_skip z = record { places = s.places; noted = rw (children_skip n z) s.noted; once = rw (children_skip n z) s.once }

    module _ (some : get_or marks n 0 ≡ 0 → ⊥) (right left : ℕ) (r : right ≡ child_of nodes n Right) (l : left ≡ child_of nodes n Left)
        (lowRight : right < 65536) where
      pub met_right : is_noted 8192 seen right ≡ true → repeats (child_words nodes marks (n + 1)) ≡ true
      met_right e =
          let m : member right (child_words nodes marks n) ≡ true = sym (s.noted right lowRight) ∙ e in
          rw (children_more n some, ← r)
          (repeats_tail (child_of nodes n Left) (right ∷ child_words nodes marks n) (repeats_head right (child_words nodes marks n) m))

      two : child_words nodes marks (n + 1) ≡ left ∷ right ∷ child_words nodes marks n
      two = children_more n some ∙ (λ i. sym l i ∷ sym r i ∷ child_words nodes marks n)

      noted_right : Noted (with_note 8192 seen right) (right ∷ child_words nodes marks n)
      noted_right = noted_more seen (child_words nodes marks n) right (rw s.places (omega arith)) s.noted

      module _ (lowLeft : left < 65536) where
        met-left : is_noted 8192 (with_note 8192 seen right) left ≡ true → repeats (child_words nodes marks (n + 1)) ≡ true
        met-left e =
            let m : member left (right ∷ child_words nodes marks n) ≡ true = sym (noted_right left lowLeft) ∙ e in
            rw two (repeats_head left (right ∷ child_words nodes marks n) m)

        seen_both : is_noted 8192 seen right ≡ false → is_noted 8192 (with_note 8192 seen right) left ≡ false
            → Seen nodes marks (n + 1) (with_note 8192 (with_note 8192 seen right) left)
        seen_both a b =
            let long : length (with_note 8192 seen right) ≡ 8192 = length-note 8192 seen right ∙ s.places in
            let all = noted_more (with_note 8192 seen right) (right ∷ child_words nodes marks n) left (rw long (omega arith)) noted_right in
            let m : member right (child_words nodes marks n) ≡ false = sym (s.noted right lowRight) ∙ a in
            let k : member left (right ∷ child_words nodes marks n) ≡ false = sym (noted_right left lowLeft) ∙ b in
            record {
              places = length-note 8192 (with_note 8192 seen right) left ∙ long;
              noted = rw two all;
              once = rw (two, k, m, s.once);
            }

        -- what the left child tells, where the right one is new
        pub met_left : is_noted 8192 seen right ≡ false → (b : Bool) → is_noted 8192 (with_note 8192 seen right) left ≡ b
            → Met nodes marks (n + 1) (with_note 8192 (with_note 8192 seen right) left) b
        met_left a true e = met-left e
        met_left a false e = seen_both a e
