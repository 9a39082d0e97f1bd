-- Where a linedef's fields stand: inside it, in both games. Assumes nothing.
use Prim.Native.Nat.{ℕ, ◌+◌, ◌<◌}
use mathlib.Core.Bool.{Bool, true, false}
use native.Mathlib.Omega.{arith}
use Rattle.record_field.proofs.Games.{size_positive}
use Rattle.record_linedef.specs.Linedefs.{linedef_size, right_offset, left_offset}

pub linedef_positive : (hexen : Bool) → 0 < linedef_size hexen
linedef_positive = size_positive 14 16 (omega arith) (omega arith)

-- its fields lie inside it
pub linedef_right : (hexen : Bool) → right_offset hexen + 1 < linedef_size hexen
linedef_right true = omega arith
linedef_right false = omega arith

pub linedef-left : (hexen : Bool) → left_offset hexen + 1 < linedef_size hexen
linedef-left true = omega arith
linedef-left false = omega arith

-- those before the special, which stand at the same places in both games
pub linedef_front : (hexen : Bool) (at : ℕ) → at < 5 → at + 1 < linedef_size hexen
linedef_front true at h = omega arith
linedef_front false at h = omega arith
