-- Laws of a picture's checks: what a header that passed says. Assumes nothing.
use Prim.Native.Nat.{ℕ, ◌≤◌}
use mathlib.Core.Bool.{◌&&◌}
use mathlib.Core.List.{List}
use mathlib.Core.Path.{◌≡◌}
use native.Mathlib.Nat.{mul-le-mul}
use borrow.Author.Tests.{leb-true}
use lib.Dec.{leb}
use lib.ListN.{length}
use Rattle.refusal.specs.declared.Refusal.TheVariants.{PictureLength, PictureSize, PictureOffsets}
use Rattle.std.specs.Prelude.{Ok}
use Rattle.refusal.specs.Checks.{unless, ◌and_then◌}
use Rattle.refusal.proofs.Checks.{both, unless_pass, and_then_pass}
use Rattle.picture_header.specs.Layout.{width_of, height_of, area_of, table_end}
use Rattle.picture_header.specs.Headers.{size_ok, picture_header_check}

pub record Header (lump : List ℕ) : Type 0 where
  pub long : 8 ≤ length lump
  pub some_width : 1 ≤ width_of lump
  pub width : width_of lump ≤ 320
  pub some-height : 1 ≤ height_of lump
  pub height : height_of lump ≤ 200
  pub table : table_end (width_of lump) ≤ length lump

pub header_of : (lump : List ℕ) → picture_header_check lump ≡ Ok tt → Header lump
header_of lump e =
    let length_part = unless (leb 8 (length lump)) PictureLength in
    let size-part = unless (size_ok (width_of lump) (height_of lump)) PictureSize in
    let table-part = unless (leb (table_end (width_of lump)) (length lump)) PictureOffsets in
    let first = and_then_pass length_part (size-part and_then table-part) e in
    let second = and_then_pass size-part table-part first.1 in
    let size = both (leb 1 (width_of lump) && leb (width_of lump) 320) _ (unless_pass _ PictureSize second.0) in
    let wide = both (leb 1 (width_of lump)) _ size.0 in
    let tall = both (leb 1 (height_of lump)) _ size.1 in
    record {
      long = leb-true _ _ (unless_pass _ PictureLength first.0);
      some_width = leb-true _ _ wide.0;
      width = leb-true _ _ wide.1;
      some-height = leb-true _ _ tall.0;
      height = leb-true _ _ tall.1;
      table = leb-true _ _ (unless_pass _ PictureOffsets second.1);
    }

pub area_small : {lump : List ℕ} → Header lump → area_of lump ≤ 64000
area_small h = mul-le-mul h.height h.width
