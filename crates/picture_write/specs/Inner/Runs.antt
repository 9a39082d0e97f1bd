-- Not for the reader of promises: what only contracts of inner functions cite, a run as it is written. Assumes nothing.
use Rattle.std.specs.Prelude.{ℕ, zero, suc, List, []}
use Rattle.picture_write.specs.Runs.{post_of}

-- a run of `count` rows from `row` on as a post; a run of none is nothing
abbrev pub run_bytes : (ℕ → ℕ) → ℕ → ℕ → List ℕ
run_bytes colour row zero = []
run_bytes colour row (suc count) = post_of colour row (suc count)
