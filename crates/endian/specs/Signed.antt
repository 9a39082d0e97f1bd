-- Signed numbers in two's complement, of 16 and of 32 bits (01, "each four bytes and signed"; document 004's int16 and
-- int32). Assumes nothing.
use Rattle.std.specs.Prelude.{ℕ, suc, ◌+◌, ◌-◌, Bool, false, ◌&&◌, cond, List, leb, ltb, ℤ, pos, negsuc}
use Rattle.endian.specs.Unsigned.{u16_at, u32_at}

-- the signed number whose bits are `n`, of a width with `half` negative numbers: `n` below `half`, else `n - 2 × half`
-- (`negsuc k` is `- k - 1`)
abbrev pub signed : ℕ → ℕ → ℤ
signed half n = cond (ltb n half) (pos n) (negsuc (half + half - suc n))

-- the bits of a signed number of such a width
abbrev pub bits_of : ℕ → ℤ → ℕ
bits_of half (pos n) = n
bits_of half (negsuc n) = half + half - suc n

-- the signed number of two bytes at `at`
abbrev pub i16_at : List ℕ → ℕ → ℤ
i16_at xs at = signed 32768 (u16_at xs at)

-- the signed number of four bytes at `at`
abbrev pub i32_at : List ℕ → ℕ → ℤ
i32_at xs at = signed 2147483648 (u32_at xs at)

-- `z` is `least` to `most`; a negative number never is
abbrev pub between : ℤ → ℕ → ℕ → Bool
between (pos n) least most = leb least n && leb n most
between (negsuc n) least most = false

-- `z` as a count, which a negative number is not: 0 there
abbrev pub natural : ℤ → ℕ
natural (pos n) = n
natural (negsuc n) = 0
