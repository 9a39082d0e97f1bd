-- `picture::skipping::skip_posts` meets its contract: each turn goes past one block more. The measure is what is left of the lump.
-- Assumes nothing.
use Prim.Native.Nat.{◌-◌, ◌≤◌}
use mathlib.Core.Path.{◌≡◌}
use lib.ListN.{length}
use Rattle.picture.specs.Stepping.{Notes, Over, Block}
use Rattle.picture.proofs.skipping.skip_posts.Given as goal

abbrev pub invariant-loop-at : goal.invariant-loop-at
invariant-loop-at l =
    Over l.lump l.from l.at × (l.at ≤ length l.lump) × Notes (Block l.lump) l.notes × (length l.notes ≡ length l.initial.notes)

abbrev pub decreases-loop-at : goal.decreases-loop-at
decreases-loop-at l =
    length l.lump - l.at
