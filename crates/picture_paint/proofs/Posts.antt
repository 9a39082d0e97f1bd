-- Laws of the posts of a column that has passed: what is painted by one, and by those below it. Assumes nothing.
use Prim.Native.Nat.{ℕ, zero, suc, ◌≤◌}
use mathlib.Core.List.{List}
use mathlib.Core.Path.{◌≡◌, refl}
use native.Mathlib.Omega.{arith}
use borrow.Author.Tests.{eq-eqb, ne_eqb, leb-true}
use lib.Dec.{leb}
use lib.ListN.{length}
use Rattle.refusal.specs.declared.Refusal.TheVariants.{PostBounds, PostRows}
use Rattle.std.specs.Prelude.{Ok}
use Rattle.refusal.specs.Checks.{unless}
use Rattle.refusal.proofs.Checks.{both, unless_pass, and_then_pass}
use Rattle.picture_header.specs.Layout.{start_at, end_row, post_end}
use Rattle.picture.specs.Judging.{posts_check, post_check, rows_ok}
use Rattle.picture_paint.specs.Pixels.{over_post, over_posts}

module _ (lump : List ℕ) (height column : ℕ) where
  -- the end byte: nothing more is painted
  pub posts_ended : (by : ℕ → ℕ) (most at : ℕ) → start_at lump at ≡ 255 → (row v : ℕ) → v ≡ over_posts by most lump at row v
  unfolding over_posts
  posts_ended by zero at e row v = refl
  posts_ended by (suc most) at e row v = simp (eq-eqb _ _ e)

  -- a post, and the rest of the column below it
  pub record Next (most at : ℕ) : Type 0 where
    pub left : ℕ
    pub inside : post_end lump at ≤ length lump
    pub rows : end_row lump at ≤ height
    pub rest : posts_check left lump height column (post_end lump at) (end_row lump at) ≡ Ok tt
    pub shows : (by : ℕ → ℕ) (row v : ℕ)
        → over_posts by left lump (post_end lump at) row (over_post by lump at row v) ≡ over_posts by most lump at row v

  pub next_of : (most at row : ℕ) → posts_check most lump height column at row ≡ Ok tt → (start_at lump at ≡ 255 → ⊥) → Next most at
  unfolding posts_check over_posts
  next_of zero at row e post = let z : ◌≡◌ {A = ℕ} 0 1 = cc in absurd (omega arith)
  next_of (suc most) at row e post =
      let rest = posts_check most lump height column (post_end lump at) (end_row lump at) in
      let first = and_then_pass (post_check lump height column at row) rest (simp (ne_eqb _ _ post) at e) in
      let inside-part = unless (leb (post_end lump at) (length lump)) (PostBounds column) in
      let parts = and_then_pass inside-part (unless (rows_ok lump height at row) (PostRows column)) first.0 in
      record {
        left = most;
        inside = leb-true _ _ (unless_pass _ (PostBounds column) parts.0);
        rows = leb-true _ _ (both (leb row (start_at lump at)) _ (unless_pass _ (PostRows column) parts.1)).1;
        rest = first.1;
        shows = λ by r v. simp (ne_eqb _ _ post);
      }
