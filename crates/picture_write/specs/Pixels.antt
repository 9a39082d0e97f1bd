-- Pixel (column, row) stands at row × width + column of both buffers (02, W-201). Assumes nothing.
use Rattle.std.specs.Prelude.{ℕ, ◌+◌, ◌*◌, Bool, List, eqb, get_or}

-- the pixel's byte in a buffer with rows of `width`
abbrev pub pixel_at : List ℕ → ℕ → ℕ → ℕ → ℕ
pixel_at buffer width column row = get_or buffer (row * width + column) 0

-- the pixel is covered
abbrev pub covered_at : List ℕ → ℕ → ℕ → ℕ → Bool
covered_at cover width column row = eqb (pixel_at cover width column row) 1
