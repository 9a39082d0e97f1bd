-- The lump that is written: header, column offsets, columns in order with no shared bytes (02, W-201). Assumes nothing.
use Rattle.std.specs.Prelude.{ℕ, ◌+◌, ◌*◌, List, ◌++◌}
use Rattle.endian.specs.Unsigned.{u16_bytes, u32_bytes}
use Rattle.endian.specs.Signed.{bits_of}
use Rattle.picture_header.specs.declared.Picture.{Picture}
use Rattle.picture_header.specs.Layout.{table_end}
use Rattle.layout.specs.Rows.{sum_of, laid_out}
use Rattle.picture_write.specs.Runs.{column_bytes, column_length}
use Rattle.picture_write.specs.Pixels.{pixel_at, covered_at}

-- the number of pixels, width × height
abbrev pub pixels_of : Picture → ℕ
pixels_of picture = picture.height * picture.width

-- one column's bytes
abbrev pub column_of : Picture → List ℕ → List ℕ → ℕ → List ℕ
column_of picture colour cover column =
    column_bytes (pixel_at colour picture.width column) (covered_at cover picture.width column) picture.height

-- and how many they are
abbrev pub column_size : Picture → List ℕ → ℕ → ℕ
column_size picture cover column = column_length (covered_at cover picture.width column) picture.height

-- where the column begins: after the header, the offsets and the columns before it
abbrev pub column_start : Picture → List ℕ → ℕ → ℕ
column_start picture cover column = table_end picture.width + sum_of (column_size picture cover) column

-- the lump's length, the layout's sum: 8 + 4 × width, and for each column 1 + 4 × runs + covered pixels
abbrev pub written_length : Picture → List ℕ → ℕ
written_length picture cover = column_start picture cover picture.width

-- width, height, left and top offset
abbrev pub header_bytes : Picture → List ℕ
header_bytes picture =
    u16_bytes picture.width
    ++ u16_bytes picture.height
    ++ u16_bytes (bits_of 32768 picture.left)
    ++ u16_bytes (bits_of 32768 picture.top)

-- the lump
abbrev pub written_of : Picture → List ℕ → List ℕ → List ℕ
written_of picture colour cover =
    header_bytes picture
    ++ laid_out (λ column. u32_bytes (column_start picture cover column)) picture.width
    ++ laid_out (column_of picture colour cover) picture.width
