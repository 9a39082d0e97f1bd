-- Which pixels are refused, and with what (02, W-201: 55, 56, 57 and 58, in that order), and what a lent output holds
-- afterwards. Assumes nothing.
use Rattle.std.specs.Prelude.{ℕ, List, ◌≡◌, leb, length, Result, Ok, Err}
use Rattle.refusal.specs.declared.Refusal.{Refusal}
use Rattle.refusal.specs.declared.Refusal.TheVariants.{EncodeRoom}
use Rattle.refusal.specs.Checks.{Check, unless, ◌and_then◌}
use Rattle.picture_header.specs.declared.Picture.{Picture}
use Rattle.layout.specs.Buffers.{buffer_after}
use Rattle.picture_write.specs.Lump.{pixels_of, written_length, written_of}
use Rattle.picture_write.specs.Given.{buffers_check, sides_check, cover_check}

-- 58: an output of `room` bytes has place for `count`
abbrev pub output_check : ℕ → ℕ → Check
output_check count room = unless (leb count room) EncodeRoom

-- 55, 56 and 57: what is given can be written
abbrev pub given_check : Picture → List ℕ → List ℕ → Check
given_check picture colour cover =
    buffers_check picture.width picture.height (length colour) (length cover)
    and_then sides_check picture.width picture.height
    and_then cover_check cover (pixels_of picture)

-- and 58: written into an output of `room` bytes
abbrev pub encode_check : Picture → List ℕ → List ℕ → ℕ → Check
encode_check picture colour cover room = given_check picture colour cover and_then output_check (written_length picture cover) room

-- the answer: how many bytes are written, or the refusal
abbrev pub encoding_of : Check → ℕ → Result ℕ Refusal
encoding_of (Ok _) count = Ok count
encoding_of (Err r) count = Err r

-- what encoding answers, and what the output holds afterwards
pub record Encoded (picture : Picture) (colour cover out : List ℕ) (answer : Result ℕ Refusal) (out' : List ℕ) : Type 0 where
  -- the layout's sum, or the first refusal of 55 to 58
  pub answered : answer ≡ encoding_of (encode_check picture colour cover (length out)) (written_length picture cover)
  -- the lump, then as it was; with a refusal all as it was
  pub leaves : out' ≡ buffer_after (encode_check picture colour cover (length out)) (written_of picture colour cover) out
