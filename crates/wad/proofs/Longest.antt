-- Both sides of the longest file: the checks compute. Assumes nothing.
use mathlib.Core.Path.{refl}
use Rattle.refusal.specs.Checks.{each}
use Rattle.wad.specs.Limits.{LengthLimit}

pub length_limit : LengthLimit
unfolding each
length_limit = record { longest = λ wad e h. rw (e, h) refl; longer = λ wad e. rw e refl }
