-- Answers on a picture. Assumes nothing.
use Rattle.std.specs.Prelude.{ℕ, List, ◌≡◌, pos, length, Result, Ok, Err}
use Rattle.picture_header.specs.declared.Picture.{Picture}
use Rattle.picture.specs.Judging.{picture_check, picture_answer}
use Rattle.picture_paint.specs.Buffers.{paint_check}
use Rattle.layout.specs.Buffers.{buffer_after}
use Rattle.picture_paint.specs.Pixels.{plane_of, by_colour, by_cover}
use Rattle.picture_write.specs.Lump.{written_length, written_of}
use Rattle.picture_write.specs.Encoding.{encode_check, encoding_of}
use Rattle.export_pictures.specs.declared.PictureAnswer.{PictureAnswer}
use Rattle.refusal.specs.declared.Refusal.{Refusal}
use Rattle.refusal.specs.declared.status.LengthAnswer.{LengthAnswer}
use Rattle.refusal.specs.Status.{accepted, refused, length_of}

-- a header of zeros
abbrev pub no_picture : Picture
no_picture = record { width = 0; height = 0; left = pos 0; top = pos 0 }

-- the header of an accepted picture
abbrev pub picture_out : Result Picture Refusal → PictureAnswer
picture_out (Ok picture) = record { status = accepted; picture = picture }
picture_out (Err r) = record { status = refused r; picture = no_picture }

-- the judging entry's answer
abbrev pub picture_judged : List ℕ → PictureAnswer
picture_judged lump = picture_out (picture_answer (picture_check lump) lump)

-- the painting entry's answer, and both buffers afterwards
pub record PicturePainted (lump colour cover : List ℕ) (answer : PictureAnswer) (colour' cover' : List ℕ) : Type 0 where
  pub answers : answer ≡ picture_out (picture_answer (paint_check lump (length colour) (length cover)) lump)
  pub colours : colour' ≡ buffer_after (paint_check lump (length colour) (length cover)) (plane_of by_colour lump) colour
  pub covered : cover' ≡ buffer_after (paint_check lump (length colour) (length cover)) (plane_of by_cover lump) cover

-- the writing entry's answer, and the output afterwards
pub record PictureWritten (picture : Picture) (colour cover out : List ℕ) (answer : LengthAnswer) (out' : List ℕ) : Type 0 where
  pub answers : answer ≡ length_of (encoding_of (encode_check picture colour cover (length out)) (written_length picture cover))
  pub leaves : out' ≡ buffer_after (encode_check picture colour cover (length out)) (written_of picture colour cover) out
