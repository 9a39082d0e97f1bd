-- Laws of parts of a file. Assumes nothing.
use Prim.Native.Nat.{ℕ, ◌+◌, ◌≤◌, ◌<◌}
use mathlib.Core.List.{List, []}
use mathlib.Core.Path.{◌≡◌}
use native.Mathlib.Omega.{arith}
use borrow.Author.Tests.{le-leb, lt-leb}
use lib.ListN.{length, drop, length-drop}
use lib.Seq.{length-take-le}
use Rattle.wad.specs.Slices.{part, part_if}

pub length_part : (xs : List ℕ) (at n : ℕ) → at + n ≤ length xs → length (part xs at n) ≡ n
length_part xs at n h =
    let k : n ≤ length (drop at xs) = simp length-drop (omega arith) in
    length-take-le n (drop at xs) k

-- the part that lies inside, and the one that does not
pub part_if-inside : (xs : List ℕ) (at n : ℕ) → at + n ≤ length xs → part_if xs at n ≡ part xs at n
part_if-inside xs at n h = rw (le-leb (at + n) (length xs) h)

pub part_if_outside : (xs : List ℕ) (at n : ℕ) → length xs < at + n → part_if xs at n ≡ []
part_if_outside xs at n h = rw (lt-leb (at + n) (length xs) h)
