-- A picture's header, its column offsets and a post (01, "Pictures"; document 004, "Picture format"). Past the lump's end
-- a byte reads as 0. Assumes nothing.
use Rattle.std.specs.Prelude.{ℕ, ◌+◌, ◌*◌, Bool, List, eqb, get_or}
use Rattle.endian.specs.Unsigned.{u16_at, u32_at}
use Rattle.endian.specs.Signed.{i16_at}
use Rattle.picture_header.specs.declared.Picture.{Picture}

abbrev pub width_of : List ℕ → ℕ
width_of lump = u16_at lump 0

abbrev pub height_of : List ℕ → ℕ
height_of lump = u16_at lump 2

-- the number of pixels, width × height
abbrev pub area_of : List ℕ → ℕ
area_of lump = height_of lump * width_of lump

-- the header: width, height, left and top offset
abbrev pub picture_of : List ℕ → Picture
picture_of lump = record { width = width_of lump; height = height_of lump; left = i16_at lump 4; top = i16_at lump 6 }

-- where the posts may begin: after the header and `width` column offsets
abbrev pub table_end : ℕ → ℕ
table_end width = 8 + 4 * width

-- where the posts of `column` begin, counted from the lump's start
abbrev pub column_offset : List ℕ → ℕ → ℕ
column_offset lump column = u32_at lump (8 + 4 * column)

-- the start row of the post at `at`, or the end byte
abbrev pub start_at : List ℕ → ℕ → ℕ
start_at lump at = get_or lump at 0

-- the column ends at `at`: 255 is no start row
abbrev pub end_at : List ℕ → ℕ → Bool
end_at lump at = eqb (start_at lump at) 255

-- the post's number of pixels
abbrev pub length_at : List ℕ → ℕ → ℕ
length_at lump at = get_or lump (at + 1) 0

-- the row after the post's last
abbrev pub end_row : List ℕ → ℕ → ℕ
end_row lump at = start_at lump at + length_at lump at

-- where the post ends: start row, length, an ignored byte, the pixels, an ignored byte
abbrev pub post_end : List ℕ → ℕ → ℕ
post_end lump at = at + 4 + length_at lump at
