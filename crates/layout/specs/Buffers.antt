-- A lent buffer after a check. Assumes nothing.
use Rattle.std.specs.Prelude.{List, ◌++◌, ℕ, length, drop, Ok, Err}
use Rattle.refusal.specs.Checks.{Check}

-- where it passes the first bytes are those that are written, and later ones as found; where it refuses nothing is changed
abbrev pub buffer_after : Check → List ℕ → List ℕ → List ℕ
buffer_after (Ok _) written buffer = written ++ drop (length written) buffer
buffer_after (Err r) written buffer = buffer
