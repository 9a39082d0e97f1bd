-- What the stores of an offset leave, as runs of stores. Assumes nothing.
use Prim.Native.Nat.{ℕ, suc, ◌+◌}
use mathlib.Core.List.{List}
use mathlib.Core.Path.{◌≡◌}
use native.Mathlib.Omega.{arith}
use lib.ListN.{length, length-set}
use lib.Seq.{sets}
use Rattle.endian.specs.Unsigned.{put_u32, u32_bytes}

-- an offset's four bytes
pub sets_u32 : (l : List ℕ) (at n : ℕ) → put_u32 l at n ≡ sets l at (u32_bytes n)
sets_u32 l at n =
    let one : at + 1 ≡ suc at = omega arith in
    let two : at + 2 ≡ suc (suc at) = omega arith in
    let three : at + 2 + 1 ≡ suc (suc (suc at)) = omega arith in
    rw (three, two, one)

pub length-put_u32 : (l : List ℕ) (at n : ℕ) → length (put_u32 l at n) ≡ length l
length-put_u32 l at n = simp length-set
