-- The pixels of a picture, and the two planes that they are painted into (01, "Pictures", "Painted"). Assumes nothing.
use Rattle.std.specs.Prelude.{ℕ, zero, suc, ◌+◌, ◌-◌, ◌/◌, ◌%◌, Bool, ◌&&◌, cond, List, [], ◌∷◌, ◌≡◌, leb, ltb, length, get_or, Result}
use Rattle.layout.specs.Buffers.{buffer_after}
use Rattle.refusal.specs.declared.Refusal.{Refusal}
use Rattle.picture_header.specs.declared.Picture.{Picture}
use Rattle.picture_header.specs.Layout.{width_of, area_of, column_offset, start_at, end_at, end_row, post_end}
use Rattle.picture.specs.Judging.{picture_answer}
use Rattle.picture_paint.specs.Buffers.{paint_check}

-- What a plane shows of a covered pixel, by the pixel's byte: the byte itself, or that it is covered.
abbrev pub by_colour : ℕ → ℕ
by_colour byte = byte

abbrev pub by_cover : ℕ → ℕ
by_cover byte = 1

-- the post at `at` has a pixel for `row`
abbrev pub covers : List ℕ → ℕ → ℕ → Bool
covers lump at row = leb (start_at lump at) row && ltb row (end_row lump at)

-- that pixel's byte: the pixels stand after the start row, the length and the ignored byte
abbrev pub byte_of : List ℕ → ℕ → ℕ → ℕ
byte_of lump at row = get_or lump (at + 3 + (row - start_at lump at)) 0

-- what a plane shows at `row` by that post alone, and `under` where it does not cover it
abbrev pub over_post : (ℕ → ℕ) → List ℕ → ℕ → ℕ → ℕ → ℕ
over_post by lump at row under = cond (covers lump at row) (by (byte_of lump at row)) under

-- the same by the posts from `at` on, down to the end byte; `most` as for `posts_check`
unfoldable pub over_posts : (ℕ → ℕ) → ℕ → List ℕ → ℕ → ℕ → ℕ → ℕ
over_posts by zero lump at row under = under
over_posts by (suc most) lump at row under =
    cond (end_at lump at) under (over_posts by most lump (post_end lump at) row (over_post by lump at row under))

-- the same by the posts of `column`
abbrev pub over_column : (ℕ → ℕ) → List ℕ → ℕ → ℕ → ℕ → ℕ
over_column by lump column = over_posts by (length lump) lump (column_offset lump column)

-- what a plane shows at `column` and `row`: 0 where the column's posts do not cover it
abbrev pub shown : (ℕ → ℕ) → List ℕ → ℕ → ℕ → ℕ
shown by lump column row = over_column by lump column row 0

-- `f` of each number from `from` on, `count` of them
unfoldable pub list_of : (ℕ → ℕ) → ℕ → ℕ → List ℕ
list_of f from zero = []
list_of f from (suc count) = f from ∷ list_of f (suc from) count

-- a plane, row by row from the top: byte i shows column i % width of row i / width
abbrev pub plane_of : (ℕ → ℕ) → List ℕ → List ℕ
plane_of by lump =
    list_of (λ i. shown by lump (i % width_of lump) (i / width_of lump)) 0 (area_of lump)

-- what painting into `colour` and `cover` answers, and what both hold afterwards
pub record Painted (lump colour cover : List ℕ) (answer : Result Picture Refusal) (colour' cover' : List ℕ) : Type 0 where
  -- the header, or the first refusal of 50, 51, 52, 55, 53 and 54
  pub answered : answer ≡ picture_answer (paint_check lump (length colour) (length cover)) lump
  -- each pixel's byte, or the buffer as it was
  pub colours : colour' ≡ buffer_after (paint_check lump (length colour) (length cover)) (plane_of by_colour lump) colour
  -- 1 at each painted pixel, or the buffer as it was
  pub covered : cover' ≡ buffer_after (paint_check lump (length colour) (length cover)) (plane_of by_cover lump) cover
