-- Which records of a lump are others than those of an older one, over the size of a record (02, W-213). Assumes nothing.
use Rattle.std.specs.Prelude.{ℕ, ◌/◌, Bool, ◌||◌, not, cond, List, [], ◌∷◌, leb, length}
use Rattle.layout.specs.Rows.{laid_out}
use Rattle.name.specs.Names.{same_bytes}
use Rattle.record_field.specs.Records.{record_bytes}

-- how many whole records a lump has
abbrev pub count_in : ℕ → List ℕ → ℕ
count_in size lump = length lump / size

-- record `i` of the new lump: the old one does not have it, or has another there
abbrev pub changed : ℕ → List ℕ → List ℕ → ℕ → Bool
changed size old new i = leb (count_in size old) i || not (same_bytes (record_bytes old size i) (record_bytes new size i))

-- the numbers of such records below `n`, ascending
abbrev pub changes_below : ℕ → List ℕ → List ℕ → ℕ → List ℕ
changes_below size old new n = laid_out (λ i. cond (changed size old new i) (i ∷ []) []) n

-- those of all records of the new lump
abbrev pub changes : ℕ → List ℕ → List ℕ → List ℕ
changes size old new = changes_below size old new (count_in size new)
