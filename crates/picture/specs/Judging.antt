-- Which pictures are refused, and with what (01, "Pictures" and the numbers 50 to 54 of "Refusal numbers", in their
-- order). Assumes nothing.
use Rattle.std.specs.Prelude.{ℕ, zero, suc, Bool, ◌&&◌, cond, List, leb, length, Result, Ok, Err}
use Rattle.refusal.specs.declared.Refusal.{Refusal}
use Rattle.refusal.specs.declared.Refusal.TheVariants.{PostBounds, PostRows}
use Rattle.refusal.specs.Checks.{Check, unless, ◌and_then◌, each}
use Rattle.picture_header.specs.declared.Picture.{Picture}
use Rattle.picture_header.specs.Layout.{width_of, height_of, picture_of, table_end, column_offset, start_at, end_at, end_row, post_end}
use Rattle.picture_header.specs.Headers.{picture_header_check}

-- the post at `at` starts at `row`, where the post before it ended, or further down, and does not end past the height
abbrev pub rows_ok : List ℕ → ℕ → ℕ → ℕ → Bool
rows_ok lump height at row = leb row (start_at lump at) && leb (end_row lump at) height

-- 53 and 54 of the post at `at`, below a post that ended before `row`
abbrev pub post_check : List ℕ → ℕ → ℕ → ℕ → ℕ → Check
post_check lump height column at row =
    unless (leb (post_end lump at) (length lump)) (PostBounds column)
    and_then unless (rows_ok lump height at row) (PostRows column)

-- 53 and 54 over the posts from `at` on, downward: the end byte, or a post and then those below it. A post takes bytes,
-- so that as many posts as bytes are enough to look at.
unfoldable pub posts_check : ℕ → List ℕ → ℕ → ℕ → ℕ → ℕ → Check
posts_check zero lump height column at row = Err (PostBounds column)
posts_check (suc most) lump height column at row =
    cond (end_at lump at) (Ok tt)
    (post_check lump height column at row and_then posts_check most lump height column (post_end lump at) (end_row lump at))

-- 53 and 54 of one column: its offset, then its posts
abbrev pub column_check : List ℕ → ℕ → ℕ → ℕ → Check
column_check lump width height column =
    unless (leb (table_end width) (column_offset lump column)) (PostBounds column)
    and_then posts_check (length lump) lump height column (column_offset lump column) 0

-- 53 and 54, columns left to right
abbrev pub columns_check : List ℕ → Check
columns_check lump = each (column_check lump (width_of lump) (height_of lump)) (width_of lump)

-- a picture as such
abbrev pub picture_check : List ℕ → Check
picture_check lump = picture_header_check lump and_then columns_check lump

-- the answer: the header of a picture that passed, or the refusal
abbrev pub picture_answer : Check → List ℕ → Result Picture Refusal
picture_answer (Ok _) lump = Ok (picture_of lump)
picture_answer (Err r) lump = Err r
