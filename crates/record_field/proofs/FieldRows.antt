-- A record's bytes as its fields in a row: the bytes made of the fields of some bytes are those bytes, whatever the row.
-- Assumes nothing.
use Prim.Native.Nat.{ℕ, zero, suc, ◌+◌}
use mathlib.Core.List.{List, [], ◌∷◌, ◌++◌}
use native.Mathlib.Omega.{arith}
use mathlib.Core.Path.{◌≡◌, refl, ap, ◌∙◌, sym}
use lib.ListN.{length, get_or}
use Rattle.endian.specs.Unsigned.{Bytes, u16_at, u16_bytes}
use Rattle.endian.specs.Signed.{i16_at}
use Rattle.endian.proofs.Unsigned.{u16_bytes_read, u16_at-fits}
use Rattle.endian.proofs.Signed.{bits-signed}
use Rattle.record_field.specs.Fields.{i16_bytes, name_at}

-- ---- a list, element by element

-- `n` elements from `at` on, one by one
abbrev spelt : {A : Type 0} → A → List A → ℕ → ℕ → List A
spelt d xs at zero = []
spelt d xs at (suc n) = get_or xs at d ∷ spelt d xs (suc at) n

spelt_cons : {A : Type 0} (d x : A) (xs : List A) (at n : ℕ) → spelt d (x ∷ xs) (suc at) n ≡ spelt d xs at n
spelt_cons d x xs at zero = refl
spelt_cons {A} d x xs at (suc n) = ap (λ (ys : List A). get_or xs at d ∷ ys) (spelt_cons d x xs (suc at) n)

spelt_length : {A : Type 0} (d : A) (xs : List A) → spelt d xs 0 (length xs) ≡ xs
spelt_length d [] = refl
spelt_length {A} d (x ∷ xs) = ap (λ (ys : List A). x ∷ ys) (spelt_cons d x xs 0 (length xs) ∙ spelt_length d xs)

pub spelt_whole : {A : Type 0} (d : A) (xs : List A) {n : ℕ} → length xs ≡ n → spelt d xs 0 n ≡ xs
spelt_whole d xs e = ap (spelt d xs 0) (sym e) ∙ spelt_length d xs

-- ---- a row of fields

-- a byte, two bytes unsigned, two bytes signed, or eight bytes
pub data Field : Type 0 where
  byte : Field
  number : Field
  signed16 : Field
  name : Field

-- the bytes made of the fields at `at`, and of those after them
abbrev pub written : List Field → List ℕ → ℕ → List ℕ
written [] bytes at = []
written (byte ∷ fs) bytes at = get_or bytes at 0 ∷ written fs bytes (at + 1)
written (number ∷ fs) bytes at = u16_bytes (u16_at bytes at) ++ written fs bytes (at + 2)
written (signed16 ∷ fs) bytes at = i16_bytes (i16_at bytes at) ++ written fs bytes (at + 2)
written (name ∷ fs) bytes at = name_at bytes at ++ written fs bytes (at + 8)

-- how many bytes they take
abbrev pub width : List Field → ℕ
width [] = 0
width (byte ∷ fs) = suc (width fs)
width (number ∷ fs) = suc (suc (width fs))
width (signed16 ∷ fs) = suc (suc (width fs))
width (name ∷ fs) = suc (suc (suc (suc (suc (suc (suc (suc (width fs))))))))

u16_spelt : (xs : List ℕ) (at : ℕ) → Bytes xs → u16_bytes (u16_at xs at) ≡ get_or xs at 0 ∷ get_or xs (at + 1) 0 ∷ []
u16_spelt xs at h = u16_bytes_read (get_or xs at 0) (get_or xs (at + 1) 0) (h at)

i16_spelt : (xs : List ℕ) (at : ℕ) → Bytes xs → i16_bytes (i16_at xs at) ≡ get_or xs at 0 ∷ get_or xs (at + 1) 0 ∷ []
i16_spelt xs at h = ap u16_bytes (bits-signed 32768 (u16_at xs at) (u16_at-fits xs at h)) ∙ u16_spelt xs at h

one_spelt : (xs : List ℕ) (at n : ℕ) {zs : List ℕ} → zs ≡ spelt 0 xs (at + 1) n → get_or xs at 0 ∷ zs ≡ spelt 0 xs at (suc n)
one_spelt xs at n f = let one : at + 1 ≡ suc at = omega arith in rw (f, one)

two_spelt : (xs : List ℕ) (at n : ℕ) {ys zs : List ℕ} → ys ≡ get_or xs at 0 ∷ get_or xs (at + 1) 0 ∷ [] → zs ≡ spelt 0 xs (at + 2) n
    → ys ++ zs ≡ spelt 0 xs at (suc (suc n))
two_spelt xs at n e f =
    let one : at + 1 ≡ suc at = omega arith in
    let two : at + 2 ≡ suc (suc at) = omega arith in
    rw (e, f, one, two)

name_spelt : (xs : List ℕ) (at n : ℕ) {zs : List ℕ} → zs ≡ spelt 0 xs (at + 8) n
    → name_at xs at ++ zs ≡ spelt 0 xs at (suc (suc (suc (suc (suc (suc (suc (suc n))))))))
name_spelt xs at n f =
    let one : at + 1 ≡ suc at = omega arith in
    let two : at + 2 ≡ suc (suc at) = omega arith in
    let three : at + 3 ≡ suc (suc (suc at)) = omega arith in
    let four : at + 4 ≡ suc (suc (suc (suc at))) = omega arith in
    let five : at + 5 ≡ suc (suc (suc (suc (suc at)))) = omega arith in
    let six : at + 6 ≡ suc (suc (suc (suc (suc (suc at))))) = omega arith in
    let seven : at + 7 ≡ suc (suc (suc (suc (suc (suc (suc at)))))) = omega arith in
    let eight : at + 8 ≡ suc (suc (suc (suc (suc (suc (suc (suc at))))))) = omega arith in
    rw (f, one, two, three, four, five, six, seven, eight)

written_spelt : (fs : List Field) (xs : List ℕ) (at : ℕ) → Bytes xs → written fs xs at ≡ spelt 0 xs at (width fs)
written_spelt [] xs at h = refl
written_spelt (byte ∷ fs) xs at h = one_spelt xs at (width fs) (written_spelt fs xs (at + 1) h)
written_spelt (number ∷ fs) xs at h = two_spelt xs at (width fs) (u16_spelt xs at h) (written_spelt fs xs (at + 2) h)
written_spelt (signed16 ∷ fs) xs at h = two_spelt xs at (width fs) (i16_spelt xs at h) (written_spelt fs xs (at + 2) h)
written_spelt (name ∷ fs) xs at h = name_spelt xs at (width fs) (written_spelt fs xs (at + 8) h)

-- the bytes made of all fields of a record's bytes are those bytes
pub written-whole : (fs : List Field) (xs : List ℕ) → length xs ≡ width fs → Bytes xs → written fs xs 0 ≡ xs
written-whole fs xs e h = written_spelt fs xs 0 h ∙ spelt_whole 0 xs e
