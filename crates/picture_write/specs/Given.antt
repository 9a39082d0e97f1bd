-- Which pixels are refused before the room for them is asked for (02, W-201: 55, 56 and 57, in that order). Assumes nothing.
use Rattle.std.specs.Prelude.{ℕ, zero, suc, ◌*◌, Bool, true, ◌&&◌, List, leb, get_or}
use Rattle.refusal.specs.declared.Refusal.TheVariants.{PixelBuffer, EncodeSize, EncodeCover}
use Rattle.refusal.specs.Checks.{Check, unless}
use Rattle.picture_header.specs.Headers.{size_ok}

-- the first `count` cover bytes are 0 or 1
unfoldable pub cover_ok : List ℕ → ℕ → Bool
cover_ok cover zero = true
cover_ok cover (suc count) = cover_ok cover count && leb (get_or cover count 0) 1

-- 55: buffers of `colours` and `covers` bytes, each at least width × height, over whole numbers
abbrev pub buffers_check : ℕ → ℕ → ℕ → ℕ → Check
buffers_check width height colours covers = unless (leb (height * width) colours && leb (height * width) covers) PixelBuffer

-- 56: a size that the picture check accepts
abbrev pub sides_check : ℕ → ℕ → Check
sides_check width height = unless (size_ok width height) EncodeSize

-- 57: the first `count` bytes of cover
abbrev pub cover_check : List ℕ → ℕ → Check
cover_check cover count = unless (cover_ok cover count) EncodeCover
