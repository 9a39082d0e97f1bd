-- Checks in a row: the order of the refusals is the order of the text. A check refuses with an error of any type, as a look for
-- hazards does with a hazard. Assumes nothing.
use Rattle.std.specs.Prelude.{ℕ, zero, suc, Bool, true, false, ⊤, Result, Ok, Err}
use Rattle.std.specs.Result.{result_and}
use Rattle.refusal.specs.declared.Refusal.{Refusal}

-- what a check answers: that it passed, or the refusal
abbrev pub Check : Type 0
Check = Result ⊤ Refusal

-- refused with `e` unless the test holds
abbrev pub unless : {E : Type 0} → Bool → E → Result ⊤ E
unless true e = Ok tt
unless false e = Err e

-- the first check, and where it passes the second
infixr 5 ◌and_then◌
abbrev pub ◌and_then◌ : {E : Type 0} → Result ⊤ E → Result ⊤ E → Result ⊤ E
x and_then y = result_and x y

-- the first error among the checks of 0 to `n - 1`, in turn
unfoldable pub each : {E : Type 0} → (ℕ → Result ⊤ E) → ℕ → Result ⊤ E
each f zero = Ok tt
each f (suc n) = each f n and_then f n
