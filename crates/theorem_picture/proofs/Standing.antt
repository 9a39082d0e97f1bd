-- Bytes that stand at a place of a lump, and what is read there. Assumes nothing.
use Prim.Native.Nat.{ℕ, ◌+◌, ◌≤◌, ◌<◌}
use mathlib.Core.List.{List, ◌++◌}
use mathlib.Core.Path.{◌≡◌, ap, ◌∙◌}
use native.Mathlib.Omega.{arith}
use lib.ListN.{length, get_or, length-append, get_or-append}
use lib.Seq.{get_or-append-add}
use Rattle.endian.specs.Unsigned.{u16_at, u32_at}

-- the bytes `ys` stand in the lump from `at` on
pub record Stands (lump : List ℕ) (at : ℕ) (ys : List ℕ) : Type 0 where
  pub inside : at + length ys ≤ length lump
  pub byte : (i : ℕ) → i < length ys → get_or lump (at + i) 0 ≡ get_or ys i 0

pub stands-whole : (lump : List ℕ) → Stands lump 0 lump
stands-whole lump = record { inside = omega arith; byte = λ i h. ap (λ (k : ℕ). get_or lump k 0) (omega arith) }

module _ {lump : List ℕ} {at : ℕ} where
  -- the first part of bytes that stand somewhere, and the second, after it
  pub stands-left : (xs ys : List ℕ) → Stands lump at (xs ++ ys) → Stands lump at xs
  stands-left xs ys s =
      let n = length-append xs ys in
      let h = s.inside in
      record { inside = omega arith; byte = λ i l. s.byte i (omega arith) ∙ get_or-append xs ys 0 i l }

  pub stands_right : (xs ys : List ℕ) → Stands lump at (xs ++ ys) → Stands lump (at + length xs) ys
  stands_right xs ys s =
      let n = length-append xs ys in
      let h = s.inside in
      record {
        inside = omega arith;
        byte = λ i l.
            let q : at + length xs + i ≡ at + (length xs + i) = omega arith in
            ap (λ (k : ℕ). get_or lump k 0) q ∙ s.byte (length xs + i) (omega arith) ∙ get_or-append-add xs ys i 0;
      }

  pub stands_u16 : {ys : List ℕ} → Stands lump at ys → (i : ℕ) → i + 1 < length ys → u16_at lump (at + i) ≡ u16_at ys i
  stands_u16 s i h =
      let q : at + i + 1 ≡ at + (i + 1) = omega arith in
      rw (q, s.byte i (omega arith), s.byte (i + 1) h)

  pub stands_u32 : {ys : List ℕ} → Stands lump at ys → (i : ℕ) → i + 3 < length ys → u32_at lump (at + i) ≡ u32_at ys i
  stands_u32 s i h =
      let q : at + i + 2 ≡ at + (i + 2) = omega arith in
      rw (q, stands_u16 s i (omega arith), stands_u16 s (i + 2) (omega arith))
