-- A whole number read with a cap. Assumes nothing.
use Prim.Native.Nat.{ℕ, ◌<◌, min}
use mathlib.Core.Bool.{Bool, true, false}
use mathlib.Core.Path.{◌≡◌, refl, ap, ◌∙◌}
use native.Mathlib.Nat.{min-eq_left, min-eq_right}
use native.Mathlib.Omega.{arith}
use borrow.Author.Tests.{leb-true, leb-false, lt-leb}
use lib.Dec.{leb}
use Rattle.text_value.specs.Numbers.{most_of}
use Rattle.text_value.proofs.Numbers.{cap}
use Rattle.text_value.specs.Values.{whole_read}

-- what is capped beyond the limits reads the same
pub whole_read_capped : (minus : Bool) (n : ℕ) → whole_read minus (min n cap) ≡ whole_read minus n
whole_read_capped minus n = by (leb n cap) refl
  where
    past : (b : Bool) → most_of b < cap
    past true = omega arith
    past false = omega arith

    by : (b : Bool) → leb n cap ≡ b → whole_read minus (min n cap) ≡ whole_read minus n
    by true e = ap (whole_read minus) (min-eq_left (leb-true n cap e))
    by false e =
        let large = leb-false n cap e in
        let h = past minus in
        ap (whole_read minus) (min-eq_right (omega arith))
        ∙ simp (lt-leb cap (most_of minus) h, lt-leb n (most_of minus) (omega arith))
