-- Bits of a byte, and a bit for each of many numbers in a row of bytes. Assumes nothing.
use Rattle.std.specs.Prelude.{ℕ, ◌/◌, ◌%◌, ◌^◌, Bool, List, eqb, get_or, set}
use Rattle.std.specs.Int.Bits.{bit_or}

-- bit `i` of a byte is 1
abbrev pub bit_of : ℕ → ℕ → Bool
bit_of byte i = eqb (byte / 2 ^ i % 2) 1

-- the byte with a 1 as its bit `i`
abbrev pub with_bit : ℕ → ℕ → ℕ
with_bit byte i = bit_or byte (2 ^ i)

-- ---- `8 * size` numbers in `size` bytes, with neighbours in different bytes: a byte that was just written is slow to read

-- the bit of the number `n` is 1
abbrev pub is_noted : ℕ → List ℕ → ℕ → Bool
is_noted size notes n = bit_of (get_or notes (n % size) 0) (n / size)

-- the notes with the bit of `n` set
abbrev pub with_note : ℕ → List ℕ → ℕ → List ℕ
with_note size notes n = set notes (n % size) (with_bit (get_or notes (n % size) 0) (n / size))

-- ---- eight numbers to a byte

-- bit `n` of a row of bytes is 1; past the last byte none is
abbrev pub bit_at : List ℕ → ℕ → Bool
bit_at bytes n = bit_of (get_or bytes (n / 8) 0) (n % 8)

-- the bytes with bit `n` set
abbrev pub with_bit_at : List ℕ → ℕ → List ℕ
with_bit_at bytes n = set bytes (n / 8) (with_bit (get_or bytes (n / 8) 0) (n % 8))
