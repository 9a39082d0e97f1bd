-- A column on its way: whatever the posts that are left make of the planes as they are now, all its posts make of the
-- planes as they were. Assumes nothing.
use Prim.Native.Nat.{ℕ, ◌+◌, ◌*◌, ◌<◌}
use mathlib.Core.List.{List}
use mathlib.Core.Path.{◌≡◌, sym, ◌∙◌, subst}
use native.Mathlib.Omega.{arith}
use lib.Dec.{leb}
use lib.ListN.{length}
use Rattle.std.specs.Prelude.{Ok}
use Rattle.refusal.specs.declared.Refusal.TheVariants.{PostBounds}
use Rattle.refusal.specs.Checks.{unless, each}
use Rattle.refusal.proofs.Checks.{and_then_pass, each_pass}
use Rattle.picture_header.specs.Layout.{height_of, table_end, column_offset, start_at, length_at, post_end, end_row}
use Rattle.picture.specs.Judging.{posts_check, column_check}
use Rattle.picture.specs.Stepping.{Over}
use Rattle.picture_paint.specs.Pixels.{over_post, over_posts, over_column}
use Rattle.picture_paint.specs.Inner.{Stroke, Strokes, Both}
use Rattle.picture.proofs.Inner.{over_holds}
use Rattle.picture.proofs.Posts.{pass_inside}
use Rattle.picture_paint.proofs.Posts.{Next, next_of, posts_ended}
use Rattle.picture_paint.proofs.Inner.{both_none, both_as, both_then, over_first, first-none, stroke_none, stroke_then, strokes_more}

module _ (lump : List ℕ) (from width column : ℕ) where
  -- one plane, with `most` posts left to look at
  pub record Plane (by : ℕ → ℕ) (old new : List ℕ) (most at : ℕ) : Type 0 where
    pub same : length new ≡ length old
    pub finish : (last : List ℕ)
        → Stroke (height_of lump * width) width column (over_posts by most lump at) new last
        → Stroke (height_of lump * width) width column (over_posts by (length lump) lump from) old last

  -- both planes, and the rest of the column passes
  pub record Painting (colour₀ cover₀ colour cover : List ℕ) (at : ℕ) : Type 0 where
    pub most : ℕ
    pub row : ℕ
    pub passes : posts_check most lump (height_of lump) column at row ≡ Ok tt
    pub planes : Both (λ by old new. Plane by old new most at) colour₀ cover₀ colour cover

  plane_more : (by : ℕ → ℕ) (most at : ℕ) {old new newer : List ℕ} → Plane by old new most at
      → Stroke (height_of lump * width) width column (over_post by lump at) new newer
      → (n : Next lump (height_of lump) column most at) → Plane by old newer n.left (post_end lump at)
  plane_more by most at p s n =
      record { same = s.same ∙ p.same; finish = λ last t. p.finish last (stroke_then s t (n.shows by)) }

  plane_done : (by : ℕ → ℕ) (most at : ℕ) {old new : List ℕ} → Plane by old new most at → start_at lump at ≡ 255
      → Stroke (height_of lump * width) width column (over_posts by (length lump) lump from) old new
  plane_done by most at {old} {new} p e =
      p.finish new (stroke_none new (posts_ended lump (height_of lump) column by most at e))

  module _ {colour₀ cover₀ colour cover : List ℕ} {at : ℕ} (p : Painting colour₀ cover₀ colour cover at) where
    pub painting_inside : at < length lump
    painting_inside = pass_inside lump (height_of lump) column p.most at p.row p.passes

    pub painting_next : (start_at lump at ≡ 255 → ⊥) → Next lump (height_of lump) column p.most at
    painting_next = next_of lump (height_of lump) column p.most at p.row p.passes

    pub painting_more : {next : ℕ} {colour' cover' : List ℕ} → (start_at lump at ≡ 255 → ⊥) → next ≡ post_end lump at
        → Both (λ by. Stroke (height_of lump * width) width column (over_post by lump at)) colour cover colour' cover'
        → Painting colour₀ cover₀ colour' cover' next
    painting_more {next} {colour'} {cover'} post e s =
        let n = painting_next post in
        subst (Painting colour₀ cover₀ colour' cover') (sym e)
        record {
          most = n.left;
          row = end_row lump at;
          passes = n.rest;
          planes = both_then p.planes s (λ by x y z q t. plane_more by p.most at q t n);
        }

    pub painting_done : start_at lump at ≡ 255
        → Both (λ by. Stroke (height_of lump * width) width column (over_posts by (length lump) lump from)) colour₀ cover₀ colour cover
    painting_done e = both_as p.planes (λ by x y q. plane_done by p.most at q e)

  -- posts of length 0 paint nothing
  post-empty : (by : ℕ → ℕ) (at : ℕ) → length_at lump at ≡ 0 → (row v : ℕ) → v ≡ over_post by lump at row v
  post-empty by at z row v = subst (λ (n : ℕ). v ≡ over_first by lump at n row v) (sym z) (first-none by lump at row v)

  pub painting_over : {colour₀ cover₀ colour cover : List ℕ} {at to : ℕ} → Painting colour₀ cover₀ colour cover at
      → Over lump at to → Painting colour₀ cover₀ colour cover to
  painting_over {colour₀} {cover₀} {colour} {cover} p o =
      over_holds lump (Painting colour₀ cover₀ colour cover)
      (λ x post q.
      let next : x + 4 ≡ post_end lump x = omega (arith, post.none) in
      painting_more q post.starts next
      (both_none colour cover (λ by plane. stroke_none plane (post-empty by x post.none))))
      o p

-- ---- columns

-- a column of a picture that passed has posts that pass
pub column_pass : (lump : List ℕ) (width height column at : ℕ) → each (column_check lump width height) width ≡ Ok tt
    → column < width → at ≡ column_offset lump column → posts_check (length lump) lump height column at 0 ≡ Ok tt
column_pass lump width height column at e h q =
    let one = each_pass (column_check lump width height) width e column h in
    let offset-part = unless (leb (table_end width) (column_offset lump column)) (PostBounds column) in
    rw q (and_then_pass offset-part (posts_check (length lump) lump height column (column_offset lump column) 0) one).1

-- and once it is painted, one column more is done
pub columns-more : (by : ℕ → ℕ) (lump : List ℕ) {area width at : ℕ} (column : ℕ) {a b c : List ℕ} → column < width
    → at ≡ column_offset lump column → Strokes area width column (over_column by lump) a b
    → Stroke area width column (over_posts by (length lump) lump at) b c
    → Strokes area width (column + 1) (over_column by lump) a c
columns-more by lump {area} {width} column {a} {b} {c} h e s t =
    strokes_more column h s (subst (λ (at : ℕ). Stroke area width column (over_posts by (length lump) lump at) b c) e t)
