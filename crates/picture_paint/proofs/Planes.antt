-- The painted planes: cleared and then painted column by column, they are the definition's. Assumes nothing.
use Prim.Native.Nat.{ℕ, zero, suc, ◌+◌, ◌*◌, ◌/◌, ◌%◌, ◌≤◌, ◌<◌}
use mathlib.Core.List.{List, ◌++◌}
use mathlib.Core.Path.{◌≡◌, refl, sym, ap, ◌∙◌, subst}
use native.Mathlib.Nat.{not-suc-le-zero, le_of_suc-le-suc, mod-lt, div-add-mod', zero-add}
use native.Mathlib.Omega.{arith}
use lib.ListN.{length, get_or, take, drop, replicate, length-append, length-drop, length-replicate, get_or-replicate, get_or-append, take-append-drop}
use lib.Seq.{ext_get_or, get_or-take, length-take-le, drop_at}
use Rattle.picture_header.specs.Layout.{width_of, height_of, area_of}
use Rattle.picture_paint.specs.Pixels.{over_column, list_of, plane_of}
use Rattle.picture_paint.specs.Inner.{Strokes}

pub length-list_of : (f : ℕ → ℕ) (from count : ℕ) → length (list_of f from count) ≡ count
unfolding list_of
length-list_of f from zero = refl
length-list_of f from (suc count) = ap suc (length-list_of f (suc from) count)

pub get_d_list_of : (f : ℕ → ℕ) (from count i : ℕ) → i < count → get_or (list_of f from count) i 0 ≡ f (from + i)
unfolding list_of
get_d_list_of f from zero i h = absurd (not-suc-le-zero h)
get_d_list_of f from (suc count) zero h = ap f (omega arith)
get_d_list_of f from (suc count) (suc i) h = get_d_list_of f (suc from) count i (le_of_suc-le-suc h) ∙ ap f (omega arith)

-- a plane with its first pixels cleared
abbrev cleared : ℕ → List ℕ → List ℕ
cleared area plane = replicate area 0 ++ drop area plane

module _ (f : ℕ → ℕ → ℕ → ℕ) (area width : ℕ) (old new : List ℕ) (some : 0 < width) (room : area ≤ length old)
    (s : Strokes area width width f (cleared area old) new) where
  abbrev pixel : ℕ → ℕ
  pixel i = f (i % width) (i / width) 0

  abbrev plane : List ℕ
  plane = list_of pixel 0 area

  pixel_new : (i : ℕ) → i < area → get_or new i 0 ≡ pixel i
  pixel_new i h =
      let h' : i < length {A = ℕ} (replicate area 0) = simp length-replicate h in
      subst (λ (j : ℕ). get_or new j 0 ≡ f (i % width) (i / width) (get_or (cleared area old) j 0)) (div-add-mod' i width)
      (s.done (i % width) (i / width) (mod-lt i some))
      ∙ ap (f (i % width) (i / width)) (get_or-append (replicate area 0) (drop area old) 0 i h' ∙ get_or-replicate area i 0 0 h)

  front : take area new ≡ plane
  front =
      let e = simp (length-append, length-replicate, length-drop) at s.same in
      let n : length (take area new) ≡ area = length-take-le area new (omega arith) in
      ext_get_or 0 (take area new) plane (n ∙ sym (length-list_of pixel 0 area))
      (λ i h.
      let h' : i < area = omega arith in
      get_or-take area new i 0 h' ∙ pixel_new i h' ∙ sym (get_d_list_of pixel 0 area i h' ∙ ap pixel (zero-add i)))

  back : drop area new ≡ drop (length plane) old
  back =
      s.beyond
      ∙ drop_at (replicate area 0) (drop area old) area (length-replicate area 0)
      ∙ ap (λ (n : ℕ). drop n old) (sym (length-list_of pixel 0 area))

  pub painted : new ≡ plane ++ drop (length plane) old
  painted =
      sym (take-append-drop area new) ∙ ap (λ (x : List ℕ). x ++ drop area new) front ∙ ap (λ (x : List ℕ). plane ++ x) back

-- the same of a picture's plane, with its width and height as they were read
pub plane_painted : (by : ℕ → ℕ) (lump : List ℕ) (width height : ℕ) (old : List ℕ) {mid new : List ℕ}
    → width ≡ width_of lump → height ≡ height_of lump → 1 ≤ width_of lump → area_of lump ≤ length old
    → mid ≡ cleared (height * width) old
    → Strokes (height_of lump * width) width width (over_column by lump) mid new
    → new ≡ plane_of by lump ++ drop (length (plane_of by lump)) old
plane_painted by lump width height old {mid} {new} w h some room e s =
    let f = over_column by lump in
    let q : height * width ≡ area_of lump = cc in
    let t = subst (λ (w : ℕ). Strokes (height_of lump * w) w w f mid new) w s in
    painted f (area_of lump) (width_of lump) old new some room
    (subst (λ (m : List ℕ). Strokes (area_of lump) (width_of lump) (width_of lump) f m new) (e ∙ ap (λ (n : ℕ). cleared n old) q) t)
