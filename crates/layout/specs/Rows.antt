-- Rows of numbers and of bytes, by what stands at each place. Assumes nothing.
use Rattle.std.specs.Prelude.{ℕ, zero, suc, ◌+◌, Bool, cond, List, [], ◌++◌}

-- the sum of `f` of 0 to `n - 1`
unfoldable pub sum_of : (ℕ → ℕ) → ℕ → ℕ
sum_of f zero = 0
sum_of f (suc n) = sum_of f n + f n

-- how many of 0 to `n - 1` the test `f` holds of
abbrev pub count_of : (ℕ → Bool) → ℕ → ℕ
count_of f n = sum_of (λ i. cond (f i) 1 0) n

-- the bytes `f` of 0 to `n - 1`, one after the other
unfoldable pub laid_out : (ℕ → List ℕ) → ℕ → List ℕ
laid_out f zero = []
laid_out f (suc n) = laid_out f n ++ f n
