-- A name as one number, which only contracts of inner functions cite (W-210). Assumes nothing.
use Rattle.std.specs.Prelude.{ℕ, zero, suc, ◌+◌, ◌*◌, List, get_or}

-- the first `n` bytes as one number, the first byte highest
abbrev pub key_of : ℕ → List ℕ → ℕ
key_of zero bytes = 0
key_of (suc n) bytes = key_of n bytes * 256 + get_or bytes n 0
