-- A scan over places: the first that fails a test. Assumes nothing.
use Rattle.std.specs.Prelude.{ℕ, zero, suc, ◌+◌, Bool, cond, not, List, eqb, get_or}

-- of the `n` places from `at` on the first that fails the test, or the place behind them
unfoldable pub span_end : (ℕ → Bool) → ℕ → ℕ → ℕ
span_end test at zero = at
span_end test at (suc n) = cond (test at) (span_end test (at + 1) n) at

-- the byte at a place is another than `b`
abbrev pub other_at : List ℕ → ℕ → ℕ → Bool
other_at text b i = not (eqb (get_or text i 0) b)
