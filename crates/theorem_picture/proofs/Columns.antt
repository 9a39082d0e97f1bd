-- A lump whose header and columns are read as they were given is accepted, and its planes are those that were given. Assumes
-- nothing.
use Prim.Native.Nat.{ℕ, zero, suc, ◌+◌, ◌*◌, ◌/◌, ◌%◌, ◌≤◌, ◌<◌}
use mathlib.Core.Bool.{Bool, true, ◌&&◌, cond}
use mathlib.Core.List.{List, ◌∷◌}
use mathlib.Core.Path.{◌≡◌, refl}
use native.Mathlib.Nat.{mod-lt, div-lt_iff_lt-mul}
use native.Mathlib.Omega.{arith}
use borrow.Author.Tests.{le-leb, leb-true}
use lib.Dec.{leb}
use lib.ListN.{length}
use Rattle.std.specs.Prelude.{Ok}
use Rattle.refusal.proofs.Checks.{both, each_all}
use Rattle.picture_header.specs.Layout.{width_of, height_of, table_end, column_offset}
use Rattle.picture_header.specs.Headers.{size_ok}
use Rattle.picture.specs.Judging.{column_check, picture_check}
use Rattle.picture_paint.specs.Pixels.{shown, list_of, plane_of}
use Rattle.theorem_picture.proofs.Reading.{Reads}

-- lists of equal elements are equal
pub list_of-same : (f g : ℕ → ℕ) (from count : ℕ) → ((i : ℕ) → from ≤ i → i < from + count → f i ≡ g i)
    → list_of f from count ≡ list_of g from count
unfolding list_of
list_of-same f g from zero h = refl
list_of-same f g from (suc count) h =
    (λ i. h from (omega arith) (omega arith) i ∷ list_of-same f g (suc from) count (λ k l m. h k (omega arith) (omega arith)) i)

module _ (lump : List ℕ) (width height : ℕ) (covered : ℕ → ℕ → Bool) (colour : ℕ → ℕ → ℕ) where
  -- how such a lump is read
  pub record Given : Type 0 where
    pub wide : width_of lump ≡ width
    pub tall : height_of lump ≡ height
    pub size : size_ok width height ≡ true
    pub table : table_end width ≤ length lump
    pub offset : (column : ℕ) → column < width → table_end width ≤ column_offset lump column
    pub column : (column : ℕ) → column < width
        → Reads lump height column (covered column) (colour column) (column_offset lump column) 0

  module _ (g : Given) where
    one_passes : (column : ℕ) → column < width → column_check lump width height column ≡ Ok tt
    one_passes column h =
        simp (le-leb _ _ (g.offset column h)) ((g.column column h).passes (length lump) 0 (omega arith) (omega arith))

    pub accepted : picture_check lump ≡ Ok tt
    accepted =
        let long : 8 ≤ length lump = (let t = g.table in omega arith) in
        simp (le-leb 8 (length lump) long, g.wide, g.tall, g.size, le-leb _ _ g.table)
        (each_all (column_check lump width height) width one_passes)

    some : 0 < width
    some = leb-true 1 width (both (leb 1 width) (leb width 320) (both (leb 1 width && leb width 320) _ g.size).0).0

    -- pixel `i` of a plane
    abbrev pub pixel_of : (ℕ → ℕ) → ℕ → ℕ
    pixel_of by i = cond (covered (i % width) (i / width)) (by (colour (i % width) (i / width))) 0

    pixel_shown : (by : ℕ → ℕ) (i : ℕ) → i < height * width → shown by lump (i % width) (i / width) ≡ pixel_of by i
    pixel_shown by i h =
        let row : i / width < height = (div-lt_iff_lt-mul some).1 h in
        rw (le-leb 0 (i / width) (omega arith)) at
        ((g.column (i % width) (mod-lt i some)).shows by (length lump) (i / width) 0 (omega arith) row)

    pub plane_given : (by : ℕ → ℕ) → plane_of by lump ≡ list_of (pixel_of by) 0 (height * width)
    plane_given by =
        rw (g.wide, g.tall) (list_of-same _ (pixel_of by) 0 (height * width) (λ i l m. pixel_shown by i (omega arith)))
