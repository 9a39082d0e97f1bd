-- Not for the reader of promises: what only contracts of inner functions cite. Assumes nothing.
use Rattle.std.specs.Prelude.{ℕ, ◌+◌, ◌<◌, false, cond, List, [], ◌∷◌, ◌++◌, ◌≡◌, length, drop}
use Rattle.layout.specs.Rows.{laid_out}
use Rattle.difference.specs.Records.{changed}

-- none of the `n` records from record `i` on is changed
abbrev pub NoneChanged : ℕ → List ℕ → List ℕ → ℕ → ℕ → Type 0
NoneChanged size old new i n = (j : ℕ) → j < n → changed size old new (i + j) ≡ false

-- the numbers of those that are
abbrev pub changes_from : ℕ → List ℕ → List ℕ → ℕ → ℕ → List ℕ
changes_from size old new i n = laid_out (λ j. cond (changed size old new (i + j)) ((i + j) ∷ []) []) n

-- a list whose first words are `numbers`
abbrev pub begun_with : List ℕ → List ℕ → List ℕ
begun_with numbers list = numbers ++ drop (length numbers) list
