-- Looks in a row: the first hazard that is found. A look is a check that refuses with a hazard, so the words are those of
-- `refusal/Checks`. Assumes nothing.
use Rattle.std.specs.Prelude.{ℕ, Bool, ⊤, Result}
use Rattle.refusal.specs.Checks.{unless, ◌and_then◌, each}
use Rattle.hazard.specs.declared.Hazard.{Hazard}

-- what a look answers: that it finds nothing, or the hazard
abbrev pub Finding : Type 0
Finding = Result ⊤ Hazard

-- the hazard `h`, unless the test holds
abbrev pub found_unless : Bool → Hazard → Finding
found_unless ok h = unless ok h

-- what the first look finds, and if it finds nothing what the second finds
infixr 5 ◌or_else◌
abbrev pub ◌or_else◌ : Finding → Finding → Finding
x or_else y = x and_then y

-- the first hazard among those of 0 to `n - 1`, in turn
abbrev pub each_of : (ℕ → Finding) → ℕ → Finding
each_of f n = each f n
