-- Parts of a file. Assumes nothing.
use Rattle.std.specs.Prelude.{ℕ, ◌+◌, cond, List, [], leb, length, take, drop}

-- the `n` bytes from `at` on; fewer where the list ends before
abbrev pub part : List ℕ → ℕ → ℕ → List ℕ
part xs at n = take n (drop at xs)

-- the `n` bytes from `at` on where all of them lie inside, else none
abbrev pub part_if : List ℕ → ℕ → ℕ → List ℕ
part_if xs at n = cond (leb (at + n) (length xs)) (part xs at n) []
