-- What passes 55, 56 and 57: its sizes, its buffers and its cover. Assumes nothing.
use Prim.Native.Nat.{ℕ, zero, suc, ◌≤◌, ◌<◌}
use mathlib.Core.Bool.{true, ◌&&◌}
use mathlib.Core.List.{List}
use mathlib.Core.Path.{◌≡◌}
use native.Mathlib.Nat.{not-suc-le-zero, le_of_suc-le-suc, eq-or-lt_of_le}
use mathlib.Core.Logic.{⊎_elim}
use borrow.Author.Tests.{leb-true}
use lib.Dec.{leb}
use lib.ListN.{length, get_or}
use Rattle.refusal.specs.declared.Refusal.TheVariants.{PixelBuffer, EncodeSize, EncodeCover}
use Rattle.std.specs.Prelude.{Ok}
use Rattle.refusal.specs.Checks.{unless, ◌and_then◌}
use Rattle.refusal.proofs.Checks.{both, unless_pass, and_then_pass}
use Rattle.picture_header.specs.declared.Picture.{Picture}
use Rattle.picture_header.specs.Headers.{size_ok}
use Rattle.picture_write.specs.Lump.{pixels_of}
use Rattle.picture_write.specs.Given.{cover_ok}
use Rattle.picture_write.specs.Encoding.{given_check}

pub record Fit (picture : Picture) (colour cover : List ℕ) : Type 0 where
  pub size : size_ok picture.width picture.height ≡ true
  pub low : picture.height ≤ 200
  pub some : 0 < picture.width
  pub colours : pixels_of picture ≤ length colour
  pub covers : pixels_of picture ≤ length cover
  pub binary : cover_ok cover (pixels_of picture) ≡ true

pub fit_of : (picture : Picture) (colour cover : List ℕ) → given_check picture colour cover ≡ Ok tt → Fit picture colour cover
fit_of picture colour cover e =
    let room-ok = leb (pixels_of picture) (length colour) && leb (pixels_of picture) (length cover) in
    let room-part = unless room-ok PixelBuffer in
    let size-part = unless (size_ok picture.width picture.height) EncodeSize in
    let cover-part = unless (cover_ok cover (pixels_of picture)) EncodeCover in
    let first = and_then_pass room-part (size-part and_then cover-part) e in
    let second = and_then_pass size-part cover-part first.1 in
    let room = both (leb (pixels_of picture) (length colour)) _ (unless_pass room-ok PixelBuffer first.0) in
    let size = unless_pass _ EncodeSize second.0 in
    let parts = both (leb 1 picture.width && leb picture.width 320) _ size in
    record {
      size = size;
      low = leb-true _ _ (both (leb 1 picture.height) _ parts.1).1;
      some = leb-true _ _ (both (leb 1 picture.width) _ parts.0).0;
      colours = leb-true _ _ room.0;
      covers = leb-true _ _ room.1;
      binary = unless_pass _ EncodeCover second.1;
    }

-- each of the judged cover bytes is 0 or 1
pub cover_bit : (cover : List ℕ) (count i : ℕ) → cover_ok cover count ≡ true → i < count → get_or cover i 0 ≤ 1
unfolding cover_ok
cover_bit cover zero i e h = absurd (not-suc-le-zero h)
cover_bit cover (suc count) i e h =
    let parts = both (cover_ok cover count) _ e in
    ⊎_elim
    (λ (q : i ≡ count). rw q (leb-true _ _ parts.1))
    (λ (l : i < count). cover_bit cover count i parts.0 l)
    (eq-or-lt_of_le (le_of_suc-le-suc h))
