-- A picture's size, and what is judged before any column (01, "Pictures" and the numbers 50 to 52 of "Refusal
-- numbers"). Assumes nothing.
use Rattle.std.specs.Prelude.{ℕ, Bool, ◌&&◌, List, leb, length}
use Rattle.refusal.specs.declared.Refusal.TheVariants.{PictureLength, PictureSize, PictureOffsets}
use Rattle.refusal.specs.Checks.{Check, unless, ◌and_then◌}
use Rattle.picture_header.specs.Layout.{width_of, height_of, table_end}

-- width 1 to 320, height 1 to 200
abbrev pub size_ok : ℕ → ℕ → Bool
size_ok width height = (leb 1 width && leb width 320) && (leb 1 height && leb height 200)

-- 50, 51 and 52
abbrev pub picture_header_check : List ℕ → Check
picture_header_check lump =
    unless (leb 8 (length lump)) PictureLength
    and_then unless (size_ok (width_of lump) (height_of lump)) PictureSize
    and_then unless (leb (table_end (width_of lump)) (length lump)) PictureOffsets
