-- Laws of a canvas that is painted on: what is said of its picture stays true. Assumes nothing.
use Prim.Native.Nat.{ℕ}
use mathlib.Core.List.{List}
use mathlib.Core.Path.{refl, sym, ◌∙◌, subst}
use Rattle.picture_paint.specs.declared.canvas.Canvas.{Canvas}
use Rattle.picture_paint.specs.Canvases.{IsSamePicture}

pub same_first : (canvas : Canvas) → IsSamePicture canvas canvas
same_first canvas = record { lump = refl; width = refl; colour = refl; cover = refl }

module _ {a b : Canvas} (s : IsSamePicture a b) where
  pub same_then : {c : Canvas} → IsSamePicture b c → IsSamePicture a c
  same_then t =
      record { lump = t.lump ∙ s.lump; width = t.width ∙ s.width; colour = t.colour ∙ s.colour; cover = t.cover ∙ s.cover }

  -- what is said of the picture, before and after
  pub as_before : (P : List ℕ → ℕ → Type 0) → P b.lump.now b.width → P a.lump.now a.width
  as_before P p = subst (P a.lump.now) s.width (subst (λ (lump : List ℕ). P lump b.width) s.lump p)

  pub as_after : (P : List ℕ → ℕ → Type 0) → P a.lump.now a.width → P b.lump.now b.width
  as_after P p = subst (P b.lump.now) (sym s.width) (subst (λ (lump : List ℕ). P lump a.width) (sym s.lump) p)
