-- What the stores of a post's first bytes leave, as runs of stores. Assumes nothing.
use Prim.Native.Nat.{ℕ, suc, ◌+◌}
use mathlib.Core.List.{List, ◌∷◌}
use mathlib.Core.Path.{◌≡◌}
use native.Mathlib.Omega.{arith}
use lib.ListN.{set}
use lib.Seq.{sets}

-- a post's first three bytes
abbrev pub headed : List ℕ → ℕ → ℕ → ℕ → List ℕ
headed l at row count = set (set (set l at row) (at + 1) count) (at + 2) 0

pub sets_headed : (l : List ℕ) (at row count : ℕ) (vs : List ℕ)
    → sets (headed l at row count) (at + 3) vs ≡ sets l at (row ∷ count ∷ 0 ∷ vs)
sets_headed l at row count vs =
    let one : at + 1 ≡ suc at = omega arith in
    let two : at + 2 ≡ suc (suc at) = omega arith in
    let three : at + 3 ≡ suc (suc (suc at)) = omega arith in
    rw (three, two, one)
