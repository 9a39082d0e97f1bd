-- Two lumps written out: 01's example (l) the other way round, and columns with a hole, with nothing and with all rows.
-- Assumes nothing.
use Rattle.std.specs.Prelude.{ℕ, List, [], ◌∷◌, ◌≡◌, pos, negsuc}
use Rattle.picture_header.specs.declared.Picture.{Picture}
use Rattle.picture_write.specs.Lump.{written_of, written_length}

-- 1 × 3 pixels, the middle one covered
abbrev pub narrow : Picture
narrow = record { width = 1; height = 3; left = pos 0; top = pos 0 }

-- 3 × 3 pixels, offsets -1 and 258
abbrev pub wide : Picture
wide = record { width = 3; height = 3; left = negsuc 0; top = pos 258 }

-- rows 9 5 7, 1 6 7 and 4 8 7, covered 1 0 1, 0 0 1 and 1 0 1
abbrev pub colours : List ℕ
colours = 9 ∷ 5 ∷ 7 ∷ 1 ∷ 6 ∷ 7 ∷ 4 ∷ 8 ∷ 7 ∷ []

abbrev pub covers : List ℕ
covers = 1 ∷ 0 ∷ 1 ∷ 0 ∷ 0 ∷ 1 ∷ 1 ∷ 0 ∷ 1 ∷ []

pub record Examples : Type 0 where
  pub narrow-lump : written_of narrow (0 ∷ 7 ∷ 0 ∷ []) (0 ∷ 1 ∷ 0 ∷ [])
      ≡ 1 ∷ 0 ∷ 3 ∷ 0 ∷ 0 ∷ 0 ∷ 0 ∷ 0 ∷ 12 ∷ 0 ∷ 0 ∷ 0 ∷ 1 ∷ 1 ∷ 0 ∷ 7 ∷ 0 ∷ 255 ∷ []
  pub wide-lump : written_of wide colours covers
      ≡ 3 ∷ 0 ∷ 3 ∷ 0 ∷ 255 ∷ 255 ∷ 2 ∷ 1
      ∷ 20 ∷ 0 ∷ 0 ∷ 0 ∷ 31 ∷ 0 ∷ 0 ∷ 0 ∷ 32 ∷ 0 ∷ 0 ∷ 0
      ∷ 0 ∷ 1 ∷ 0 ∷ 9 ∷ 0 ∷ 2 ∷ 1 ∷ 0 ∷ 4 ∷ 0 ∷ 255 ∷ 255
      ∷ 0 ∷ 3 ∷ 0 ∷ 7 ∷ 7 ∷ 7 ∷ 0 ∷ 255 ∷ []
  pub wide-length : ◌≡◌ {A = ℕ} (written_length wide covers) 40
