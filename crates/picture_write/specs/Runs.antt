-- One column of a picture to be written: each unbroken covered run as one post, ignored bytes 0 (02, W-201; 01,
-- "Pictures"). Assumes nothing.
use Rattle.std.specs.Prelude.{ℕ, zero, suc, ◌+◌, ◌-◌, ◌*◌, Bool, false, ◌&&◌, not, cond, List, [], ◌∷◌, ◌++◌}
use Rattle.picture_paint.specs.Pixels.{list_of}
use Rattle.layout.specs.Rows.{count_of, laid_out}

-- ---- a column: `covered` says of each row whether its pixel is covered, `colour` gives its byte

-- the pixel above `row` is covered; there is none above the first
abbrev pub above_of : (ℕ → Bool) → ℕ → Bool
above_of covered zero = false
above_of covered (suc row) = covered row

-- an unbroken run begins at `row`
abbrev pub begins : (ℕ → Bool) → ℕ → Bool
begins covered row = covered row && not (above_of covered row)

-- how many rows from `row` on are covered without a break, where `left` rows are left
unfoldable pub run_from : (ℕ → Bool) → ℕ → ℕ → ℕ
run_from covered row zero = 0
run_from covered row (suc left) = cond (covered row) (suc (run_from covered (suc row) left)) 0

-- a post of `count` pixels from `row` on: start row, length, an ignored byte, the pixels, an ignored byte
abbrev pub post_of : (ℕ → ℕ) → ℕ → ℕ → List ℕ
post_of colour row count = row ∷ count ∷ 0 ∷ (list_of colour row count ++ (0 ∷ []))

-- the post of the run that begins at `row`; nothing where none begins
abbrev pub post_at : (ℕ → ℕ) → (ℕ → Bool) → ℕ → ℕ → List ℕ
post_at colour covered height row = cond (begins covered row) (post_of colour row (run_from covered row (height - row))) []

-- the column: its posts downward, then the end byte
abbrev pub column_bytes : (ℕ → ℕ) → (ℕ → Bool) → ℕ → List ℕ
column_bytes colour covered height = laid_out (post_at colour covered height) height ++ (255 ∷ [])

-- its length, of the cover alone: the end byte, four bytes for each run, and one for each covered pixel
abbrev pub column_length : (ℕ → Bool) → ℕ → ℕ
column_length covered height = 1 + 4 * count_of (begins covered) height + count_of covered height
