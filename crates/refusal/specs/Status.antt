-- What every answer begins with: number 0 is accepted. Assumes nothing.
use Rattle.std.specs.Prelude.{ℕ, Result, Ok, Err}
use Rattle.refusal.specs.declared.Refusal.{Refusal}
use Rattle.refusal.specs.Checks.{Check}
use Rattle.refusal.specs.Table.{number_of, place_of, record_of}
use Rattle.refusal.specs.declared.status.Status.{Status}
use Rattle.refusal.specs.declared.status.LengthAnswer.{LengthAnswer}

-- nothing was refused
abbrev pub accepted : Status
accepted = record { number = 0; place = 0; «record» = 0 }

-- a refusal by the paper's table
abbrev pub refused : Refusal → Status
refused r = record { number = number_of r; place = place_of r; «record» = record_of r }

-- what a check answered
abbrev pub status_of : Check → Status
status_of (Ok passed) = accepted
status_of (Err r) = refused r

-- how many bytes were written; a refusal has no length
abbrev pub length_of : Result ℕ Refusal → LengthAnswer
length_of (Ok length) = record { status = accepted; length = length }
length_of (Err r) = record { status = refused r; length = 0 }
