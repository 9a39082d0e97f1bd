-- Laws of bits: a byte with one bit set, and a row of bytes with one bit set, in two layouts. Assumes nothing.
use Prim.Native.Nat.{ℕ, zero, suc, max, ◌+◌, ◌*◌, ◌/◌, ◌%◌, ◌^◌, ◌≤◌, ◌<◌}
use mathlib.Core.Bool.{Bool, true, false, ◌||◌}
use mathlib.Core.List.{List}
use mathlib.Core.Path.{◌≡◌, refl, sym, ap, ◌∙◌}
use native.Mathlib.Nat.{div-one, pow-suc, div-add-mod'}
use native.Mathlib.Numerals.{one-add}
use native.Mathlib.Omega.{arith}
use borrow.Author.Tests.{eqb-true, eqb-false, eq-eqb, ne_eqb, ltb-true, ltb-false}
use lib.Bits.{bit_or, or_step, or_shr, or_zero_r}
use lib.Dec.{ltb, eqb, eqb-zero-suc, eqb-suc-zero, eqb-suc-suc}
use lib.ListN.{length, get_or, set, replicate, length-set, length-replicate, get_or-replicate, get_or-eq_default}
use lib.Pow.{shr-shr}
use lib.Seq.{get_or-set_same, get_or-set_other, set_out}
use Rattle.bits.specs.Bits.{bit_of, with_bit, is_noted, with_note, bit_at, with_bit_at}

-- a number's bits are its lowest one and those of its half
bit-none : (b : ℕ) → bit_of b 0 ≡ eqb (b % 2) 1
bit-none b = rw (div-one b)

bit-more : (b j : ℕ) → bit_of b (suc j) ≡ bit_of (b / 2) j
bit-more b j = rw (← one-add j, ← shr-shr b 1 j)

-- and 0 has none
pub bit-zero : (j : ℕ) → bit_of 0 j ≡ false
bit-zero zero = refl
bit-zero (suc j) = bit-more 0 j ∙ bit-zero j

or_odd : (a b : ℕ) → bit_or a b % 2 ≡ max (a % 2) (b % 2)
or_odd a b = rw (or_step a b) (omega arith)

or_half : (a b : ℕ) → bit_or a b / 2 ≡ bit_or (a / 2) (b / 2)
or_half a b = or_shr a b 1

-- setting a bit changes that one alone
bit-set : (i j b : ℕ) → bit_of (with_bit b i) j ≡ (eqb j i || bit_of b j)
bit-set zero zero b = bit-none (bit_or b 1) ∙ eq-eqb (bit_or b 1 % 2) 1 (rw (or_odd b 1) (omega arith))
bit-set zero (suc j) b =
    bit-more (bit_or b 1) j ∙ ap (λ (x : ℕ). bit_of x j) (or_half b 1 ∙ or_zero_r (b / 2)) ∙ rw (eqb-suc-zero j) (sym (bit-more b j))
bit-set (suc i) zero b =
    let e : bit_or b (2 ^ suc i) % 2 ≡ b % 2 = rw (or_odd b (2 ^ suc i), pow-suc 2 i) (omega arith) in
    bit-none (bit_or b (2 ^ suc i)) ∙ ap (λ (x : ℕ). eqb x 1) e ∙ rw (eqb-zero-suc i) (sym (bit-none b))
bit-set (suc i) (suc j) b =
    let half : 2 ^ suc i / 2 ≡ 2 ^ i = rw (pow-suc 2 i) (omega arith) in
    bit-more (bit_or b (2 ^ suc i)) j ∙ ap (λ (x : ℕ). bit_of x j) (or_half b (2 ^ suc i) ∙ ap (bit_or (b / 2)) half)
    ∙ bit-set i j (b / 2) ∙ rw (eqb-suc-suc j i, bit-more b j)

-- ---- a bit among the bits of a row of bytes

-- a layout gives each number a byte and a bit, and no two numbers the same ones
module _ (byte bit : ℕ → ℕ) (one : (n m : ℕ) → byte n ≡ byte m → bit n ≡ bit m → n ≡ m) where
  -- numbers of one byte are the same if their bits are
  same_bit : (n m : ℕ) → byte n ≡ byte m → eqb (bit n) (bit m) ≡ eqb n m
  same_bit n m e = by (eqb n m) refl
    where
      by : (b : Bool) → eqb n m ≡ b → eqb (bit n) (bit m) ≡ b
      by true h = rw (eqb-true n m h) (eq-eqb (bit m) (bit m) refl)
      by false h = ne_eqb (bit n) (bit m) (λ (k : bit n ≡ bit m). eqb-false n m h (one n m e k))

  -- setting the bit of a number changes that one alone
  set_more : (bytes : List ℕ) (m n : ℕ) → byte m < length bytes
      → bit_of (get_or (set bytes (byte m) (with_bit (get_or bytes (byte m) 0) (bit m))) (byte n) 0) (bit n)
      ≡ (eqb n m || bit_of (get_or bytes (byte n) 0) (bit n))
  set_more bytes m n h = by (eqb (byte n) (byte m)) refl
    where
      by : (b : Bool) → eqb (byte n) (byte m) ≡ b
          → bit_of (get_or (set bytes (byte m) (with_bit (get_or bytes (byte m) 0) (bit m))) (byte n) 0) (bit n)
          ≡ (eqb n m || bit_of (get_or bytes (byte n) 0) (bit n))
      by true e =
          let k = eqb-true (byte n) (byte m) e in
          rw (k, get_or-set_same bytes (byte m) (with_bit (get_or bytes (byte m) 0) (bit m)) 0 h, ← same_bit n m k)
          (bit-set (bit m) (bit n) (get_or bytes (byte m) 0))
      by false e =
          let k = eqb-false (byte n) (byte m) e in
          let apart : n ≡ m → ⊥ = λ (q : n ≡ m). k (ap byte q) in
          rw (get_or-set_other bytes (byte m) (byte n) (with_bit (get_or bytes (byte m) 0) (bit m)) 0 k, ne_eqb n m apart)

-- ---- notes with neighbours in different bytes

-- noting a number changes the note of that one alone
pub note-more : (size : ℕ) (notes : List ℕ) (m n : ℕ) → m % size < length notes
    → is_noted size (with_note size notes m) n ≡ (eqb n m || is_noted size notes n)
note-more size notes m n h =
    set_more (λ k. k % size) (λ k. k / size)
    (λ i j e q. sym (div-add-mod' i size) ∙ (λ t. q t * size + e t) ∙ div-add-mod' j size) notes m n h

pub length-note : (size : ℕ) (notes : List ℕ) (m : ℕ) → length (with_note size notes m) ≡ length notes
length-note size notes m = length-set notes (m % size) (with_bit (get_or notes (m % size) 0) (m / size))

-- at first nothing is noted
pub note-none : (size n : ℕ) → n % size < size → is_noted size (replicate size 0) n ≡ false
note-none size n h = rw (get_or-replicate {A = ℕ} size (n % size) 0 0 h) (bit-zero (n / size))

-- ---- bits one after the other, eight to a byte

pub at_more : (bytes : List ℕ) (m n : ℕ) → m / 8 < length bytes → bit_at (with_bit_at bytes m) n ≡ (eqb n m || bit_at bytes n)
at_more bytes m n h =
    set_more (λ k. k / 8) (λ k. k % 8)
    (λ i j e q. sym (div-add-mod' i 8) ∙ (λ t. e t * 8 + q t) ∙ div-add-mod' j 8) bytes m n h

-- past the last byte nothing is set
pub at_past : (bytes : List ℕ) (n : ℕ) → length bytes ≤ n / 8 → bit_at bytes n ≡ false
at_past bytes n h = rw (get_or-eq_default bytes 0 h) (bit-zero (n % 8))

pub set_past : (bytes : List ℕ) (m : ℕ) → length bytes ≤ m / 8 → with_bit_at bytes m ≡ bytes
set_past bytes m h = set_out bytes (m / 8) (with_bit (get_or bytes (m / 8) 0) (m % 8)) h

pub at_none : (count n : ℕ) → bit_at (replicate count 0) n ≡ false
at_none count n = by (ltb (n / 8) count) refl
  where
    by : (b : Bool) → ltb (n / 8) count ≡ b → bit_at (replicate count 0) n ≡ false
    by true e = rw (get_or-replicate {A = ℕ} count (n / 8) 0 0 (ltb-true (n / 8) count e)) (bit-zero (n % 8))
    by false e = at_past (replicate count 0) n (rw (length-replicate {A = ℕ} count 0) (ltb-false (n / 8) count e))

pub length_at : (bytes : List ℕ) (m : ℕ) → length (with_bit_at bytes m) ≡ length bytes
length_at bytes m = length-set bytes (m / 8) (with_bit (get_or bytes (m / 8) 0) (m % 8))
