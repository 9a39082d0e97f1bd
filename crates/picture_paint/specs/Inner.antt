-- Not for the reader of promises: what only contracts of inner functions cite, what the painting functions do to a plane of
-- `area` pixels in rows of `width`, said of each pixel. Pixel (column, row) stands at row × width + column. Assumes nothing.
use Rattle.std.specs.Prelude.{ℕ, ◌+◌, ◌*◌, ◌≤◌, ◌<◌, List, ◌≡◌, length, get_or, drop}
use Rattle.picture_header.specs.Layout.{height_of}
use Rattle.picture_paint.specs.Pixels.{by_colour, by_cover, over_post, over_posts, over_column}

-- `old` has become `new` in one column alone, where row `row` shows `f row` of what it showed
pub record Stroke (area width column : ℕ) (f : ℕ → ℕ → ℕ) (old new : List ℕ) : Type 0 where
  pub same : length new ≡ length old
  pub beyond : drop area new ≡ drop area old
  pub here : (row : ℕ) → get_or new (row * width + column) 0 ≡ f row (get_or old (row * width + column) 0)
  pub elsewhere : (other row : ℕ) → other < width → (other ≡ column → ⊥)
      → get_or new (row * width + other) 0 ≡ get_or old (row * width + other) 0

-- the same of all columns before `count`
pub record Strokes (area width count : ℕ) (f : ℕ → ℕ → ℕ → ℕ) (old new : List ℕ) : Type 0 where
  pub same : length new ≡ length old
  pub beyond : drop area new ≡ drop area old
  pub done : (column row : ℕ) → column < count
      → get_or new (row * width + column) 0 ≡ f column row (get_or old (row * width + column) 0)
  pub left : (column row : ℕ) → column < width → count ≤ column
      → get_or new (row * width + column) 0 ≡ get_or old (row * width + column) 0

-- `P` says of both planes how they changed, of each by what it shows
pub record Both (P : (ℕ → ℕ) → List ℕ → List ℕ → Type 0) (colour cover colour' cover' : List ℕ) : Type 0 where
  pub on_colour : P by_colour colour colour'
  pub on_cover : P by_cover cover cover'

-- both planes with the post at `at` painted in `column`
abbrev pub PaintsPost : List ℕ → ℕ → ℕ → ℕ → List ℕ → List ℕ → List ℕ → List ℕ → Type 0
PaintsPost lump width column at = Both (λ by. Stroke (height_of lump * width) width column (over_post by lump at))

-- with the posts from `from` on
abbrev pub PaintsPosts : List ℕ → ℕ → ℕ → ℕ → List ℕ → List ℕ → List ℕ → List ℕ → Type 0
PaintsPosts lump width column from = Both (λ by. Stroke (height_of lump * width) width column (over_posts by (length lump) lump from))

-- with the columns before `count`
abbrev pub PaintsFirst : List ℕ → ℕ → ℕ → List ℕ → List ℕ → List ℕ → List ℕ → Type 0
PaintsFirst lump width count = Both (λ by. Strokes (height_of lump * width) width count (over_column by lump))

-- with all columns
abbrev pub AllColumns : List ℕ → ℕ → List ℕ → List ℕ → List ℕ → List ℕ → Type 0
AllColumns lump width = PaintsFirst lump width width
