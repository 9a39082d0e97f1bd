-- Bytes read out of an index: a number as the bytes that it stands in. Assumes nothing.
use Prim.Native.Nat.{ℕ, zero, suc, ◌+◌, ◌≤◌}
use mathlib.Core.List.{List, [], ◌∷◌}
use mathlib.Core.Path.{◌≡◌, refl, ap, ◌∙◌}
use native.Mathlib.Omega.{arith}
use lib.ListN.{length, get_or, take}
use lib.Seq.{drop-cons}
use Rattle.endian.specs.Unsigned.{Bytes, u16_at, u16_bytes}
use Rattle.endian.proofs.Unsigned.{u16_bytes_read}
use Rattle.wad.specs.Slices.{part}

-- `n` bytes from `at` on, one by one
abbrev spelt : List ℕ → ℕ → ℕ → List ℕ
spelt xs at zero = []
spelt xs at (suc n) = get_or xs at 0 ∷ spelt xs (suc at) n

part_spelt : (xs : List ℕ) (at n : ℕ) → at + n ≤ length xs → part xs at n ≡ spelt xs at n
part_spelt xs at zero h = refl
part_spelt xs at (suc n) h =
    ap (take (suc n)) (drop-cons xs at 0 (omega arith))
    ∙ ap (λ (ys : List ℕ). get_or xs at 0 ∷ ys) (part_spelt xs (suc at) n (omega arith))

pub number-part : (xs : List ℕ) (at : ℕ) → Bytes xs → at + 2 ≤ length xs → part xs at 2 ≡ u16_bytes (u16_at xs at)
number-part xs at b h =
    let one : at + 1 ≡ suc at = omega arith in
    rw (part_spelt xs at 2 h, u16_bytes_read (get_or xs at 0) (get_or xs (at + 1) 0) (b at), one)
