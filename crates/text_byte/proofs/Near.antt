-- The laws of 32 bytes compared at once: the mask of the comparison gives where a scan of them ends. Assumes nothing.
use Prim.Native.Nat.{ℕ, zero, suc, ◌+◌, ◌-◌, ◌/◌, ◌%◌, ◌^◌, ◌≤◌, ◌<◌, min}
use mathlib.Core.Bool.{Bool, true, false, not, ◌||◌, cond}
use mathlib.Core.List.{List, [], ◌∷◌, map}
use mathlib.Core.Path.{◌≡◌, refl, sym, ap, ◌∙◌}
use native.Mathlib.Nat.{zero-div}
use native.Mathlib.Omega.{arith}
use borrow.Author.Tests.{ltb-true, ltb-false}
use lib.Dec.{ltb, eqb}
use lib.Lanes.{chunk, mask_l}
use lib.ListN.{length, get_or, drop, length-drop, length-map}
use lib.Pow.{pow_mono}
use lib.Seq.{length-take-le, get_or-take, get_or-drop}
use Rattle.std.proofs.Common.{w64}
use Rattle.std.proofs.lemmas.Nat.Bits.{bit_at-trailing_zeros}
use Rattle.std.proofs.lemmas.Simd.{bit_mask_l, mask_l-lt}
use Rattle.std.specs.Int.{bit_at, trailing_zeros}
use Rattle.text_byte.specs.Spans.{span_end, other_at}
use Rattle.text_byte.proofs.Spans.{step, span_reach, span_found, span_all}

mapped : {X : Type 0} (f : X → Bool) (xs : List X) (k : ℕ) (d : X) → k < length xs → get_or (map f xs) k false ≡ f (get_or xs k d)
mapped f [] k d h = absurd (omega (arith, h))
mapped f (x ∷ xs) zero d h = refl
mapped f (x ∷ xs) (suc k) d h = mapped f xs k d (omega (arith, h))

behind : {X : Type 0} (f : X → Bool) (xs : List X) (k : ℕ) → length xs ≤ k → get_or (map f xs) k false ≡ false
behind f [] k h = refl
behind f (x ∷ xs) zero h = absurd (omega (arith, h))
behind f (x ∷ xs) (suc k) h = behind f xs k (omega (arith, h))

bit_set : (m : Bool) → ◌≡◌ {A = ℕ} (cond m 1 0) 1 → m ≡ true
bit_set true e = refl
bit_set false e = absurd (omega (arith, e))

bit_clear : (m : Bool) → ◌≡◌ {A = ℕ} (cond m 1 0) 0 → m ≡ false
bit_clear true e = absurd (omega (arith, e))
bit_clear false e = refl

module _ (text : List ℕ) (from b : ℕ) (room : from + 32 ≤ length text) where
  abbrev next : List ℕ
  next = chunk from 32 text

  -- a bit for each of the 32 bytes, set where it is `b`
  abbrev pub marks : ℕ
  marks = mask_l (map (λ x. eqb x b) next)

  long : length next ≡ 32
  long = length-take-le 32 (drop from text) (omega (arith, room, length-drop from text))

  bit : (k : ℕ) → bit_at marks k ≡ cond (get_or (map (λ x. eqb x b) next) k false) 1 0
  bit k = bit_mask_l (map (λ x. eqb x b) next) k

  there : (k : ℕ) → k < 32 → get_or (map (λ x. eqb x b) next) k false ≡ eqb (get_or text (from + k) 0) b
  there k h =
      mapped (λ x. eqb x b) next k 0 (omega (arith, long, h))
      ∙ ap (λ x. eqb x b) (get_or-take 32 (drop from text) k 0 h ∙ get_or-drop from text k 0)

  passes : (k : ℕ) → k < 32 → bit_at marks k ≡ 0 → other_at text b (from + k) ≡ true
  passes k h e = ap not (sym (there k h) ∙ bit_clear _ (sym (bit k) ∙ e))

  inside : (k : ℕ) → bit_at marks k ≡ 1 → k < 32
  inside k e = by (ltb k 32) refl
    where
      by : (t : Bool) → ltb k 32 ≡ t → k < 32
      by true h = ltb-true k 32 h
      by false h =
          let past : bit_at marks k ≡ 0 =
          bit k ∙ ap (λ (x : Bool). cond {A = ℕ} x 1 0) (behind (λ x. eqb x b) next k (omega (arith, long, ltb-false k 32 h))) in
          absurd (omega (arith, e, past))

  pub near_none : marks ≡ 0 → from + 32 ≡ span_end (other_at text b) from 32
  near_none e =
      sym (span_all (other_at text b) 32 from λ j low high.
      let at : from + (j - from) ≡ j = omega (arith, low) in
      ap (other_at text b) (sym at) ∙ passes (j - from) (omega (arith, low, high)) (clear (j - from)))
    where
      clear : (k : ℕ) → bit_at marks k ≡ 0
      clear k = ap (λ n. n / 2 ^ k % 2) e ∙ ap (λ n. n % 2) (zero-div (2 ^ k))

  pub near_some : 0 < marks → from + trailing_zeros w64 marks ≡ span_end (other_at text b) from 32
  near_some some =
      let all = map (λ x. eqb x b) next in
      let h = bit_at-trailing_zeros w64 marks some (omega (arith, mask_l-lt all, length-map next (λ x. eqb x b), long, pow_mono {i = length all} {j = 64} (omega (arith, length-map next (λ x. eqb x b), long)))) in
      let t = trailing_zeros w64 marks in
      let low = inside t h.1 in
      sym (span_found (other_at text b) 32 from t (λ k before. passes k (omega (arith, low, before)) (h.2 k before)) low
      (ap not (sym (there t low) ∙ bit_set _ (sym (bit t) ∙ h.1))))

-- of two tests the scan ends where the first of them fails
module _ (p q : ℕ → Bool) where
  abbrev left : ℕ → Bool
  left i = not (p i)

  abbrev right : ℕ → Bool
  right i = not (q i)

  abbrev both : ℕ → Bool
  both i = not (p i || q i)

  here : (at : ℕ) (a b : Bool) → p at ≡ a → q at ≡ b → both at ≡ not (a || b)
  here at a b e f = λ j. not (e j || f j)

  none : (at : ℕ) → span_end both at 0 ≡ min (span_end left at 0) (span_end right at 0)
  unfolding span_end
  none at = omega arith

  abbrev Least : ℕ → ℕ → Type 0
  Least at n = span_end both at n ≡ min (span_end left at n) (span_end right at n)

  by : (n at : ℕ) → Least (at + 1) n → (a b : Bool) → p at ≡ a → q at ≡ b → Least at (suc n)
  by n at rest false false e f =
      step both at n (here at false false e f) ∙ rest ∙ sym (λ j. min (step left at n (ap not e) j) (step right at n (ap not f) j))
  by n at rest true b e f =
      let r = span_reach right at (suc n) in
      let first : min at (span_end right at (suc n)) ≡ at = omega (arith, r.0) in
      step both at n (here at true b e f) ∙ sym ((λ j. min (step left at n (ap not e) j) (span_end right at (suc n))) ∙ first)
  by n at rest false true e f =
      let r = span_reach left at (suc n) in
      let first : min (span_end left at (suc n)) at ≡ at = omega (arith, r.0) in
      step both at n (here at false true e f) ∙ sym ((λ j. min (span_end left at (suc n)) (step right at n (ap not f) j)) ∙ first)

  pub span_min : (n at : ℕ) → Least at n
  span_min zero at = none at
  span_min (suc n) at = by n at (span_min n (at + 1)) (p at) (q at) refl refl
