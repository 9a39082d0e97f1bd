-- Not for the reader of promises: what only contracts of inner functions cite, what is noted of a place that many
-- columns come to. Assumes nothing.
use Rattle.std.specs.Prelude.{ℕ, ◌≤◌, true, List, ◌≡◌, length}
use Rattle.picture_header.specs.Layout.{start_at, end_row, post_end}
use Rattle.picture.specs.Judging.{rows_ok}

-- the posts from `at` on, below a post that ended before `row`, are good down to the end byte
pub data Ends (lump : List ℕ) (height : ℕ) : ℕ → ℕ → Type 0 where
  ended : (at row : ℕ) → start_at lump at ≡ 255 → Ends lump height at row
  post : (at row : ℕ) → (start_at lump at ≡ 255 → ⊥) → post_end lump at ≤ length lump → rows_ok lump height at row ≡ true
      → Ends lump height (post_end lump at) (end_row lump at) → Ends lump height at row

-- the same for every column that comes to `at` no lower than its start row
abbrev pub Good : List ℕ → ℕ → ℕ → Type 0
Good lump height at = Ends lump height at (start_at lump at)
