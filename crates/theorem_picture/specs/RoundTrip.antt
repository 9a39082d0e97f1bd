-- What was written, read again (02, W-201: "reading what was written gives the cover back, and the colour wherever
-- covered"). Assumes nothing.
use Rattle.std.specs.Prelude.{ℕ, ◌≤◌, cond, List, ◌++◌, ◌≡◌, eqb, length, get_or, take, drop, Result, Ok}
use Rattle.std.specs.Int.{w16}
use Rattle.std.proofs.Common.{SFits}
use Rattle.refusal.specs.declared.Refusal.{Refusal}
use Rattle.picture_header.specs.declared.Picture.{Picture}
use Rattle.picture_header.specs.Layout.{picture_of}
use Rattle.picture.specs.Judging.{picture_check}
use Rattle.picture_paint.specs.Pixels.{by_colour, by_cover, list_of, plane_of, Painted}
use Rattle.picture_write.specs.Lump.{pixels_of, written_length, written_of}
use Rattle.picture_write.specs.Encoding.{given_check, Encoded}

-- the given colour where `cover` covers pixel `i`, 0 elsewhere
abbrev pub colour_where : List ℕ → List ℕ → ℕ → ℕ
colour_where colour cover i = cond (eqb (get_or cover i 0) 1) (get_or colour i 0) 0

-- of one lump: what the picture check and the painter make of it
pub record ReadBack (picture : Picture) (colour cover lump : List ℕ) : Type 0 where
  -- it is accepted
  pub accepted : picture_check lump ≡ Ok tt
  -- its width, height and offsets are the given ones
  pub header : picture_of lump ≡ picture
  -- painted, its cover is the given one
  pub covers : plane_of by_cover lump ≡ take (pixels_of picture) cover
  -- and its colour the given one wherever that covers, 0 elsewhere
  pub colours : plane_of by_colour lump ≡ list_of (colour_where colour cover) 0 (pixels_of picture)
  -- it is as long as the layout's sum
  pub long : length lump ≡ written_length picture cover

-- everything that can be written reads back, with offsets of 16 bits as a header holds them
abbrev pub RoundTrip : Type 0
RoundTrip =
    (picture : Picture) (colour cover : List ℕ)
    → SFits w16 picture.left → SFits w16 picture.top → given_check picture colour cover ≡ Ok tt
    → ReadBack picture colour cover (written_of picture colour cover)

-- so does the output that was written to: its first `count` bytes, where `count` is the answer
abbrev pub OutputRoundTrip : Type 0
OutputRoundTrip =
    (picture : Picture) (colour cover out : List ℕ) (count : ℕ) (out' : List ℕ)
    → SFits w16 picture.left → SFits w16 picture.top → Encoded picture colour cover out (Ok count) out'
    → ReadBack picture colour cover (take count out')

-- the answer of painting such a lump into two buffers, and what both hold afterwards: the given pixels, then as they
-- were
pub record PaintedBack (picture : Picture) (colour cover colour₁ cover₁ : List ℕ) (answer : Result Picture Refusal) (colour₂ cover₂ : List ℕ)
    : Type 0 where
  pub answered : answer ≡ Ok picture
  pub colours : colour₂ ≡ list_of (colour_where colour cover) 0 (pixels_of picture) ++ drop (pixels_of picture) colour₁
  pub covered : cover₂ ≡ take (pixels_of picture) cover ++ drop (pixels_of picture) cover₁

-- a lump that reads back paints back, into any two buffers that have room
abbrev pub PaintedRoundTrip : Type 0
PaintedRoundTrip =
    (picture : Picture) (colour cover lump colour₁ cover₁ : List ℕ) (answer : Result Picture Refusal) (colour₂ cover₂ : List ℕ)
    → ReadBack picture colour cover lump → pixels_of picture ≤ length colour₁ → pixels_of picture ≤ length cover₁
    → Painted lump colour₁ cover₁ answer colour₂ cover₂
    → PaintedBack picture colour cover colour₁ cover₁ answer colour₂ cover₂
