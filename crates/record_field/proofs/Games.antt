-- Sizes by the game, of which Hexen's is never the smaller: what reading by the game relies on, said once of every such pair.
-- Assumes nothing.
use Prim.Native.Nat.{ℕ, ◌≤◌, ◌<◌}
use mathlib.Core.Bool.{Bool, true, false, ◌&&◌, cond}
use native.Mathlib.Nat.{le_refl}
use native.Mathlib.Omega.{arith}

module _ (doom hexen : ℕ) (some : 0 < doom) (less : doom ≤ hexen) where
  pub size_positive : (game : Bool) → 0 < cond game hexen doom
  size_positive true = omega arith
  size_positive false = some

  pub size-most : (game : Bool) → cond game hexen doom ≤ hexen
  size-most true = le_refl hexen
  size-most false = less

  -- a record that is not there is read as Doom's
  pub size-found : (game found : Bool) → cond (game && found) hexen doom ≤ cond game hexen doom
  size-found true found = size-most found
  size-found false found = le_refl doom
