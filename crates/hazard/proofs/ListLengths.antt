-- Laws of the lengths of BLOCKMAP's lists: one word more from the end, and what the pass over them notes. Assumes nothing.
use Prim.Native.Nat.{ℕ, zero, suc, ◌+◌, ◌-◌, ◌≤◌, ◌<◌}
use mathlib.Core.Bool.{Bool, true, false, not, ◌&&◌, ◌||◌, cond, and-false}
use mathlib.Core.List.{List, [], ◌∷◌}
use mathlib.Core.Path.{◌≡◌, refl, sym, ap, ◌∙◌}
use Prim.Native.Nat.{suc-le-suc}
use native.Mathlib.Omega.{arith}
use borrow.Author.Tests.{eqb-true, eqb-false, le-leb, lt-leb, lt-ltb, le-ltb, leb-true, leb-false}
use lib.Dec.{leb, ltb, eqb}
use lib.ListN.{length, replicate, length-replicate}
use Rattle.bits.specs.Bits.{is_noted, with_note}
use Rattle.bits.proofs.Bits.{note-more, length-note, note-none}
use Rattle.map_blockmap.specs.Blockmap.{word_count, word_at, list_end, numbers_from}
use Rattle.hazard.specs.Lists.{short_ok}
use Rattle.hazard.specs.Inner.{LongNoted}

module _ (lump : List ℕ) where
  -- how many linedefs are named from word `at` on
  abbrev pub named_from : ℕ → ℕ
  named_from at = length (numbers_from lump (word_count lump - at))

  nothing : numbers_from lump 0 ≡ []
  unfolding numbers_from
  nothing = refl

  step : (left : ℕ)
      → numbers_from lump (suc left)
      ≡ cond (eqb (word_at lump (word_count lump - suc left)) list_end) [] (word_at lump (word_count lump - suc left) ∷ numbers_from lump left)
  unfolding numbers_from
  step left = refl

  pub named_none : named_from (word_count lump) ≡ 0
  named_none =
      let z : word_count lump - word_count lump ≡ 0 = omega arith in
      ap (λ (n : ℕ). length (numbers_from lump n)) z ∙ ap length nothing

  counted : (b : Bool) (w : ℕ) (rest : List ℕ) → length (cond b [] (w ∷ rest)) ≡ cond b 0 (suc (length rest))
  counted true w rest = refl
  counted false w rest = refl

  -- from the word after `at` to `at` itself
  pub named_more : (at : ℕ) {w named r : ℕ} → at < word_count lump → w ≡ word_at lump at → named ≡ named_from (at + 1)
      → r ≡ cond (eqb w 65535) 0 (suc named) → r ≡ named_from at
  named_more at {w} {named} h e q t =
      let left : word_count lump - at ≡ suc (word_count lump - (at + 1)) = omega arith in
      let place : word_count lump - suc (word_count lump - (at + 1)) ≡ at = omega arith in
      rw (t, e, q, left, step (word_count lump - (at + 1)), place)
      (sym (counted (eqb (word_at lump at) 65535) (word_at lump at) (numbers_from lump (word_count lump - (at + 1)))))

  -- a list names no more words than there are
  pub named-few : (left : ℕ) → length (numbers_from lump left) ≤ left
  named-few zero = rw nothing (omega arith)
  named-few (suc left) =
      rw (step left, counted (eqb (word_at lump (word_count lump - suc left)) list_end) (word_at lump (word_count lump - suc left)) (numbers_from lump left))
      (by (eqb (word_at lump (word_count lump - suc left)) list_end) (named-few left))
    where
      by : (b : Bool) → length (numbers_from lump left) ≤ left → cond b 0 (suc (length (numbers_from lump left))) ≤ suc left
      by true h = omega arith
      by false h = suc-le-suc h

  module _ (linedefs : ℕ) where
    -- at first nothing is noted: no offset past the last word is asked for
    past : (offset : ℕ) → word_count lump ≤ offset → short_ok lump linedefs offset ≡ true
    past offset h =
        let z : word_count lump - (offset + 1) ≡ 0 = omega arith in
        ap (λ (n : ℕ). leb (length (numbers_from lump n)) linedefs) z
        ∙ ap (λ (xs : List ℕ). leb (length xs) linedefs) nothing ∙ le-leb 0 linedefs (omega arith)

    pub long-none : LongNoted lump linedefs (word_count lump) (replicate 8192 0)
    long-none =
        record {
          places = length-replicate {A = ℕ} 8192 0;
          noted = λ offset h. note-none 8192 offset (omega arith) ∙ sym (by offset (leb (word_count lump) offset) refl);
        }
      where
        by : (offset : ℕ) (b : Bool) → leb (word_count lump) offset ≡ b → (b && not (short_ok lump linedefs offset)) ≡ false
        by offset true e = rw (past offset (leb-true (word_count lump) offset e))
        by offset false e = refl

    -- the test of an offset, as the pass makes it
    long_test : (at : ℕ) {named : ℕ} → named ≡ named_from (at + 1) → ltb linedefs named ≡ not (short_ok lump linedefs at)
    long_test at {named} e = ap (ltb linedefs) e ∙ by (leb (named_from (at + 1)) linedefs) refl
      where
        by : (b : Bool) → leb (named_from (at + 1)) linedefs ≡ b → ltb linedefs (named_from (at + 1)) ≡ not b
        by true q = let h = leb-true (named_from (at + 1)) linedefs q in le-ltb linedefs (named_from (at + 1)) h
        by false q = let h = leb-false (named_from (at + 1)) linedefs q in lt-ltb linedefs (named_from (at + 1)) h

    -- the offset `at` is looked at after all behind it
    module _ (at : ℕ) (notes : List ℕ) (n : LongNoted lump linedefs (at + 1) notes) where
      noted_if : (c : Bool) (offset : ℕ)
          → is_noted 8192 (cond c (with_note 8192 notes at) notes) offset ≡ (c && eqb offset at || is_noted 8192 notes offset)
      noted_if true offset = note-more 8192 notes at offset (rw n.places (omega arith))
      noted_if false offset = refl

      length_if : (c : Bool) → length (cond c (with_note 8192 notes at) notes) ≡ 8192
      length_if true = length-note 8192 notes at ∙ n.places
      length_if false = n.places

      -- another offset is behind `at` exactly if it is at `at` or behind it
      behind : (offset : ℕ) → (offset ≡ at → ⊥) → (b : Bool) → leb (at + 1) offset ≡ b → leb at offset ≡ b
      behind offset apart true e = let h = leb-true (at + 1) offset e in le-leb at offset (omega arith)
      behind offset apart false e = let h = leb-false (at + 1) offset e in lt-leb at offset (omega arith)

      alone : (s : Bool) → (s && true && true || false) ≡ s
      alone true = refl
      alone false = refl

      same : (offset : ℕ) → offset < 65536 → (b : Bool) → eqb offset at ≡ b
          → (not (short_ok lump linedefs at) && ltb at 65536 && b || (leb (at + 1) offset && not (short_ok lump linedefs offset)))
          ≡ (leb at offset && not (short_ok lump linedefs offset))
      same offset l true x =
          let q : at ≡ offset = sym (eqb-true offset at x) in
          let low : ltb at 65536 ≡ true = lt-ltb at 65536 (omega arith) in
          let before : leb (at + 1) offset ≡ false = lt-leb (at + 1) offset (omega arith) in
          let here : leb at offset ≡ true = le-leb at offset (omega arith) in
          rw (low, before, here, q) (alone (not (short_ok lump linedefs offset)))
      same offset l false x =
          let later = behind offset (eqb-false offset at x) (leb (at + 1) offset) refl in
          rw (later, and-false (not (short_ok lump linedefs at) && ltb at 65536))

      pub long-more : {long : Bool} {named : ℕ} {after : List ℕ} → named ≡ named_from (at + 1) → long ≡ ltb linedefs named
          → after ≡ cond (long && ltb at 65536) (with_note 8192 notes at) notes → LongNoted lump linedefs at after
      long-more {long} {named} {after} e q t =
          let test : (long && ltb at 65536) ≡ (not (short_ok lump linedefs at) && ltb at 65536) = ap (λ (b : Bool). b && ltb at 65536) (q ∙ long_test at e) in
          record {
            places = rw t (length_if (long && ltb at 65536));
            noted = λ offset l.
                ap (λ (xs : List ℕ). is_noted 8192 xs offset) t ∙ noted_if (long && ltb at 65536) offset
                ∙ (λ i. test i && eqb offset at || n.noted offset l i) ∙ same offset l (eqb offset at) refl;
          }

-- a note that says "too long", asked the other way round
pub not-not : (b : Bool) → not (not b) ≡ b
not-not true = refl
not-not false = refl
