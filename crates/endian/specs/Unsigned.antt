-- Little-endian unsigned numbers of two and of four bytes, read out of a list of bytes and written back (01, "All
-- numbers are little-endian"). Past the list's end a byte reads as 0. Assumes nothing.
use Rattle.std.specs.Prelude.{ℕ, ◌+◌, ◌*◌, ◌/◌, ◌%◌, ◌<◌, List, [], ◌∷◌, ◌++◌, get_or, set}

-- every element of `xs` is a byte
abbrev pub Bytes : List ℕ → Type 0
Bytes xs = (i : ℕ) → get_or xs i 0 < 256

-- the number of two bytes at `at`
abbrev pub u16_at : List ℕ → ℕ → ℕ
u16_at xs at = get_or xs at 0 + 256 * get_or xs (at + 1) 0

-- the number of four bytes at `at`
abbrev pub u32_at : List ℕ → ℕ → ℕ
u32_at xs at = u16_at xs at + 65536 * u16_at xs (at + 2)

-- the two bytes of `n`
abbrev pub u16_bytes : ℕ → List ℕ
u16_bytes n = n % 256 ∷ n / 256 ∷ []

-- the four bytes of `n`
abbrev pub u32_bytes : ℕ → List ℕ
u32_bytes n = u16_bytes (n % 65536) ++ u16_bytes (n / 65536)

-- `xs` with the two bytes of `n` at `at`
abbrev pub put_u16 : List ℕ → ℕ → ℕ → List ℕ
put_u16 xs at n = set (set xs at (n % 256)) (at + 1) (n / 256)

-- `xs` with the four bytes of `n` at `at`
abbrev pub put_u32 : List ℕ → ℕ → ℕ → List ℕ
put_u32 xs at n = put_u16 (put_u16 xs at (n % 65536)) (at + 2) (n / 65536)
