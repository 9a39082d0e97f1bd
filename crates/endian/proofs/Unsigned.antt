-- Laws of unsigned numbers: reading what was written, and writing back what was read. Assumes nothing.
use Prim.Native.Nat.{ℕ, ◌+◌, ◌*◌, ◌/◌, ◌%◌, ◌<◌}
use mathlib.Core.List.{List, [], ◌∷◌}
use mathlib.Core.Path.{◌≡◌, ap, ◌∙◌}
use native.Mathlib.Omega.{arith}
use lib.ListN.{length, get_or, set, length-set}
use lib.Seq.{get_or-set_same, get_or-set_other, set-get_or}
use Rattle.endian.specs.Unsigned.{Bytes, u16_at, u32_at, u16_bytes, put_u16, put_u32}

pub low_byte : (a b : ℕ) → a < 256 → (a + 256 * b) % 256 ≡ a
low_byte a b h = omega arith

pub high_byte : (a b : ℕ) → a < 256 → (a + 256 * b) / 256 ≡ b
high_byte a b h = omega arith

-- the two bytes of what two bytes say are those bytes
pub u16_bytes_read : (a b : ℕ) → a < 256 → u16_bytes (a + 256 * b) ≡ a ∷ b ∷ []
u16_bytes_read a b h = rw (low_byte a b h, high_byte a b h)

-- and what the two bytes of a number say is the number
pub u16_whole : (n : ℕ) → n % 256 + 256 * (n / 256) ≡ n
u16_whole n = omega arith

pub u16_fits : (a b : ℕ) → a < 256 → b < 256 → a + 256 * b < 65536
u16_fits a b h k = omega arith

pub u16_at-fits : (xs : List ℕ) (at : ℕ) → Bytes xs → u16_at xs at < 65536
u16_at-fits xs at h = u16_fits (get_or xs at 0) (get_or xs (at + 1) 0) (h at) (h (at + 1))

-- reading what was written
pub u16_at-put_u16 : (xs : List ℕ) (at n : ℕ) → at + 1 < length xs → u16_at (put_u16 xs at n) at ≡ n
u16_at-put_u16 xs at n h =
    let h0 : at < length xs = omega arith in
    let differ : (at ≡ at + 1 → ⊥) = λ e. omega arith in
    let h1 : at + 1 < length (set xs at (n % 256)) = simp length-set h in
    rw (
      get_or-set_other (set xs at (n % 256)) (at + 1) at (n / 256) 0 differ,
      get_or-set_same xs at (n % 256) 0 h0,
      get_or-set_same (set xs at (n % 256)) (at + 1) (n / 256) 0 h1,
    )
    (u16_whole n)

-- writing back what was read changes nothing
pub put_u16-u16_at : (xs : List ℕ) (at : ℕ) → Bytes xs → put_u16 xs at (u16_at xs at) ≡ xs
put_u16-u16_at xs at h =
    rw (
      low_byte (get_or xs at 0) (get_or xs (at + 1) 0) (h at),
      high_byte (get_or xs at 0) (get_or xs (at + 1) 0) (h at),
      set-get_or xs at 0,
    ) (set-get_or xs (at + 1) 0)

-- ---- the same for four bytes

length-put_u16 : (xs : List ℕ) (at n : ℕ) → length (put_u16 xs at n) ≡ length xs
length-put_u16 xs at n = simp length-set

-- two bytes before those that are written stay
pub u16_at-before : (xs : List ℕ) (at n i : ℕ) → i + 1 < at → u16_at (put_u16 xs at n) i ≡ u16_at xs i
u16_at-before xs at n i h =
    let low : (k : ℕ) → k < at → get_or (put_u16 xs at n) k 0 ≡ get_or xs k 0 =
    λ (k : ℕ) (l : k < at).
    get_or-set_other (set xs at (n % 256)) (at + 1) k (n / 256) 0 (λ (e : k ≡ at + 1). omega arith)
    ∙ get_or-set_other xs at k (n % 256) 0 (λ (e : k ≡ at). omega arith) in
    rw (low i (omega arith), low (i + 1) h)

pub u32_at-put_u32 : (xs : List ℕ) (at n : ℕ) → at + 3 < length xs → u32_at (put_u32 xs at n) at ≡ n
u32_at-put_u32 xs at n h =
    let ys = put_u16 xs at (n % 65536) in
    let long : at + 2 + 1 < length ys = rw (length-put_u16 xs at (n % 65536)) (omega arith) in
    rw (
      u16_at-before ys (at + 2) (n / 65536) at (omega arith),
      u16_at-put_u16 xs at (n % 65536) (omega arith),
      u16_at-put_u16 ys (at + 2) (n / 65536) long,
    )
    (omega arith)

pub put_u32-u32_at : (xs : List ℕ) (at : ℕ) → Bytes xs → put_u32 xs at (u32_at xs at) ≡ xs
put_u32-u32_at xs at h =
    let a = u16_at xs at in
    let b = u16_at xs (at + 2) in
    let fits : a < 65536 = u16_at-fits xs at h in
    let low : (a + 65536 * b) % 65536 ≡ a = omega arith in
    let high : (a + 65536 * b) / 65536 ≡ b = omega arith in
    (λ i. put_u16 (put_u16 xs at (low i)) (at + 2) (high i))
    ∙ ap (λ (ys : List ℕ). put_u16 ys (at + 2) b) (put_u16-u16_at xs at h)
    ∙ put_u16-u16_at xs (at + 2) h
