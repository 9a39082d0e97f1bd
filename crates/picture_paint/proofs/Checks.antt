-- Laws of painting: what a picture that may be painted is known to have. Assumes nothing.
use Prim.Native.Nat.{ℕ, ◌≤◌}
use mathlib.Core.List.{List}
use mathlib.Core.Path.{◌≡◌}
use native.Mathlib.Omega.{arith}
use borrow.Author.Tests.{leb-true}
use lib.Dec.{leb}
use Rattle.refusal.specs.declared.Refusal.TheVariants.{PixelBuffer}
use Rattle.refusal.specs.declared.Refusal.{Refusal}
use Rattle.refusal.specs.Checks.{Check}
use Rattle.std.specs.Prelude.{Ok, Err}
use Rattle.refusal.specs.Checks.{◌and_then◌}
use Rattle.refusal.proofs.Checks.{both, unless_pass, and_then_pass}
use Rattle.picture_header.specs.Layout.{area_of}
use Rattle.picture_header.specs.Headers.{picture_header_check}
use Rattle.picture.specs.Judging.{columns_check, picture_check}
use Rattle.picture_header.proofs.Checks.{Header, header_of}
use Rattle.picture_paint.specs.Buffers.{room_check, paint_check}

-- ---- two questions for one: the header with the room, then the header with the columns

refused_both : (a b c : Check) {r : Refusal} → a and_then b ≡ Err r → a and_then b and_then c ≡ Err r
refused_both (Err s) b c e = e
refused_both (Ok _) (Err s) c e = e
refused_both (Ok _) (Ok _) c e = let z : ◌≡◌ {A = ℕ} 0 1 = cc in absurd (omega arith)

passed_both : (a b c : Check) → a and_then b ≡ Ok tt → a and_then b and_then c ≡ a and_then c
passed_both a b c e = let both = and_then_pass a b e in simp (both.0, both.1)

module _ (lump : List ℕ) (colours covers : ℕ) where
  -- what the header and the room refuse is refused before any column
  pub room-refused : {r : Refusal} → picture_header_check lump and_then room_check lump colours covers ≡ Err r
      → paint_check lump colours covers ≡ Err r
  room-refused = refused_both (picture_header_check lump) (room_check lump colours covers) (columns_check lump)

  -- and where both pass the rest is to judge the picture
  pub room_passed : picture_header_check lump and_then room_check lump colours covers ≡ Ok tt
      → paint_check lump colours covers ≡ picture_check lump
  room_passed = passed_both (picture_header_check lump) (room_check lump colours covers) (columns_check lump)

-- ---- a picture that may be painted

pub record Good (lump : List ℕ) (colours covers : ℕ) : Type 0 where
  pub header : Header lump
  pub colours_fit : area_of lump ≤ colours
  pub covers_fit : area_of lump ≤ covers
  pub columns : columns_check lump ≡ Ok tt

pub good_of : (lump : List ℕ) (colours covers : ℕ) → paint_check lump colours covers ≡ Ok tt → Good lump colours covers
good_of lump colours covers e =
    let first = and_then_pass (picture_header_check lump) (room_check lump colours covers and_then columns_check lump) e in
    let second = and_then_pass (room_check lump colours covers) (columns_check lump) first.1 in
    let room = both (leb (area_of lump) colours) (leb (area_of lump) covers) (unless_pass _ PixelBuffer second.0) in
    record {
      header = header_of lump first.0;
      colours_fit = leb-true _ _ room.0;
      covers_fit = leb-true _ _ room.1;
      columns = second.1;
    }
