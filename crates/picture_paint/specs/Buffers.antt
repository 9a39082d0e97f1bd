-- The lent buffers: 55, and its place between the checks of a picture (01, "Pictures" and "Refusal numbers"). Assumes nothing.
use Rattle.std.specs.Prelude.{ℕ, ◌&&◌, List, leb}
use Rattle.refusal.specs.declared.Refusal.TheVariants.{PixelBuffer}
use Rattle.refusal.specs.Checks.{Check, unless, ◌and_then◌}
use Rattle.picture_header.specs.Layout.{area_of}
use Rattle.picture_header.specs.Headers.{picture_header_check}
use Rattle.picture.specs.Judging.{columns_check}

-- 55: buffers of `colours` and `covers` bytes, each at least width × height
abbrev pub room_check : List ℕ → ℕ → ℕ → Check
room_check lump colours covers = unless (leb (area_of lump) colours && leb (area_of lump) covers) PixelBuffer

-- a picture to be painted into buffers of `colours` and `covers` bytes
abbrev pub paint_check : List ℕ → ℕ → ℕ → Check
paint_check lump colours covers =
    picture_header_check lump and_then room_check lump colours covers and_then columns_check lump
