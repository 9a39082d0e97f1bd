-- Laws of records of any size: where one lies, its fields in the lump, and what replacing it keeps. Assumes nothing.
use Prim.Native.Nat.{ℕ, zero, suc, ◌+◌, ◌*◌, ◌/◌, ◌≤◌, ◌<◌}
use mathlib.Core.Bool.{Bool, true, false, cond}
use mathlib.Core.Path.{◌≡◌, refl, ap, ◌∙◌, sym}
use mathlib.Core.List.{List, [], ◌∷◌, ◌++◌, append_assoc}
use native.Mathlib.Omega.{arith}
use native.Mathlib.Nat.{le_refl, le_of_eq, le_trans, mul-le-mul_left, mul-div-le, mul-suc, add_assoc}
use borrow.Author.Tests.{ltb-true}
use lib.Dec.{ltb}
use lib.ListN.{length, get_or, take, drop, length-drop, take-append-drop}
use lib.Seq.{paste, length-paste, take-take, take-add, drop-paste, take_all, get_or-take, get_or-drop, length-take-le, drop_at, take_at}
use Rattle.endian.specs.Unsigned.{Bytes, u16_at}
use Rattle.endian.specs.Signed.{i16_at, signed}
use Rattle.record_field.specs.Records.{inside, record_bytes, bytes_or_zeros, replaced}

-- a record whose number is below how many fit lies inside
pub fits-inside : (size index n : ℕ) → index < n / size → size * index + size ≤ n
fits-inside size index n h = rw (← mul-suc size index) (le_trans (mul-le-mul_left size h) (mul-div-le n size))

bytes_take : (n : ℕ) (xs : List ℕ) → Bytes xs → Bytes (take n xs)
bytes_take zero xs h i = omega arith
bytes_take (suc n) [] h i = omega arith
bytes_take (suc n) (x ∷ xs) h zero = h zero
bytes_take (suc n) (x ∷ xs) h (suc i) = bytes_take n xs (λ (j : ℕ). h (suc j)) i

module _ (lump : List ℕ) (size index : ℕ) where
  -- ---- the test says that the record's bytes are in the lump, neither more nor less

  pub inside-fits : inside lump size index ≡ true → size * index + size ≤ length lump
  inside-fits e = fits-inside size index (length lump) (ltb-true index (length lump / size) e)

  -- ---- a record's bytes in the lump

  pub length-record_bytes : size * index + size ≤ length lump → length (record_bytes lump size index) ≡ size
  length-record_bytes h =
      let l : size ≤ length (drop (size * index) lump) = simp length-drop (omega arith) in
      length-take-le size (drop (size * index) lump) l

  pub get_d_record_bytes : (k : ℕ) → k < size → get_or (record_bytes lump size index) k 0 ≡ get_or lump (size * index + k) 0
  get_d_record_bytes k h = rw (get_or-take size (drop (size * index) lump) k 0 h) (get_or-drop (size * index) lump k 0)

  -- a field of a record is the number at its offset in the lump
  pub u16_at-record_bytes : (k : ℕ) → k + 1 < size → u16_at (record_bytes lump size index) k ≡ u16_at lump (size * index + k)
  u16_at-record_bytes k h =
      let low : k < size = omega arith in
      rw (get_d_record_bytes k low, get_d_record_bytes (k + 1) h, add_assoc (size * index) k 1)

  pub i16_at-record_bytes : (k : ℕ) → k + 1 < size → i16_at (record_bytes lump size index) k ≡ i16_at lump (size * index + k)
  i16_at-record_bytes k h = ap (signed 32768) (u16_at-record_bytes k h)

  pub bytes-record_bytes : Bytes lump → Bytes (record_bytes lump size index)
  bytes-record_bytes h =
      bytes_take size (drop (size * index) lump) (λ (i : ℕ). rw (get_or-drop (size * index) lump i 0) (h (size * index + i)))

  -- ---- a record replaced: within the lump it is a copy, else nothing

  module _ (bytes : List ℕ) where
    pub replaced-by : (P : List ℕ → Type 0)
        → (inside lump size index ≡ true → P (paste lump (size * index) bytes size)) → P lump
        → P (replaced lump size index bytes)
    replaced-by P copied kept = by (inside lump size index) refl
      where
        by : (b : Bool) → inside lump size index ≡ b → P (cond b (paste lump (size * index) bytes size) lump)
        by true e = copied e
        by false e = kept

    pub replaced-same : (inside lump size index ≡ true → bytes ≡ record_bytes lump size index)
        → replaced lump size index bytes ≡ lump
    replaced-same h =
        replaced-by (λ (l : List ℕ). l ≡ lump)
        (λ (e : inside lump size index ≡ true).
        rw (h e, take-take size size (drop (size * index) lump) (le_refl size), ← take-add (size * index) size lump)
        (take-append-drop (size * index + size) lump))
        refl

    module _ (long : length bytes ≡ size) where
      pub length-replaced : length (replaced lump size index bytes) ≡ length lump
      length-replaced =
          replaced-by (λ (l : List ℕ). length l ≡ length lump)
          (λ (e : inside lump size index ≡ true).
          length-paste lump (size * index) bytes size (inside-fits e) (le_of_eq (sym long)))
          refl

      pub take-replaced : take (size * index) (replaced lump size index bytes) ≡ take (size * index) lump
      take-replaced =
          replaced-by (λ (l : List ℕ). take (size * index) l ≡ take (size * index) lump)
          (λ (e : inside lump size index ≡ true). start (inside-fits e))
          refl
        where
          start : size * index + size ≤ length lump
              → take (size * index) (paste lump (size * index) bytes size) ≡ take (size * index) lump
          start h =
              let l : size * index ≤ length lump = omega arith in
              rw (append_assoc (take (size * index) lump) (take size bytes) (drop (size * index + size) lump))
              (take_at (take (size * index) lump) (take size bytes ++ drop (size * index + size) lump) (size * index)
              (length-take-le (size * index) lump l))

      pub drop-replaced : drop (size * index + size) (replaced lump size index bytes) ≡ drop (size * index + size) lump
      drop-replaced =
          replaced-by (λ (l : List ℕ). drop (size * index + size) l ≡ drop (size * index + size) lump)
          (λ (e : inside lump size index ≡ true).
          let h = inside-fits e in drop-paste lump (size * index) bytes size (omega arith) (le_of_eq (sym long)))
          refl

      record_bytes-paste : size * index + size ≤ length lump
          → record_bytes (paste lump (size * index) bytes size) size index ≡ bytes
      record_bytes-paste h =
          let l : size * index ≤ length lump = omega arith in
          rw (
            append_assoc (take (size * index) lump) (take size bytes) (drop (size * index + size) lump),
            drop_at (take (size * index) lump) (take size bytes ++ drop (size * index + size) lump) (size * index)
                (length-take-le (size * index) lump l),
            take_at (take size bytes) (drop (size * index + size) lump) size (length-take-le size bytes (le_of_eq (sym long))),
          )
          (take_all size bytes (le_of_eq long))

      pub inside-replaced : inside lump size index ≡ true → inside (replaced lump size index bytes) size index ≡ true
      inside-replaced e = ap (λ (n : ℕ). ltb index (n / size)) length-replaced ∙ e

      pub record_bytes-replaced : inside lump size index ≡ true
          → record_bytes (replaced lump size index bytes) size index ≡ bytes
      record_bytes-replaced e = rw e (record_bytes-paste (inside-fits e))

      pub bytes_or_zeros-replaced : inside lump size index ≡ true
          → bytes_or_zeros (replaced lump size index bytes) size index ≡ bytes
      bytes_or_zeros-replaced e =
          let same = inside-replaced e in
          rw (same, e) (record_bytes-paste (inside-fits e))
