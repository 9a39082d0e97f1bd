-- What stands at a place of a lump, told by how it is read: the posts from there on pass, and show covered rows. An end byte, an
-- uncovered row and a run's post are each read so, from what is read below them. Assumes nothing.
use Prim.Native.Nat.{ℕ, zero, suc, ◌+◌, ◌-◌, ◌≤◌, ◌<◌}
use mathlib.Core.Bool.{Bool, true, false, ◌&&◌, cond}
use mathlib.Core.List.{List}
use mathlib.Core.Path.{◌≡◌, refl, sym, ap, ◌∙◌}
use native.Mathlib.Omega.{arith}
use borrow.Author.Tests.{eq-eqb, ne_eqb, le-leb, lt-leb, leb-true, leb-false, lt-ltb, le-ltb}
use lib.Dec.{leb}
use lib.ListN.{length, get_or}
use Rattle.std.specs.Prelude.{Ok}
use Rattle.picture_header.specs.Layout.{start_at, length_at, end_row, post_end}
use Rattle.picture.specs.Judging.{posts_check}
use Rattle.picture_paint.specs.Pixels.{over_post, over_posts}
use Rattle.picture_paint.proofs.Posts.{posts_ended}

module _ (lump : List ℕ) (height column : ℕ) (covered : ℕ → Bool) (colour : ℕ → ℕ) where
  -- what a plane shows at row `r` by the covered rows from `row` on
  abbrev pub rows_from : (ℕ → ℕ) → ℕ → ℕ → ℕ → ℕ
  rows_from by row r under = cond (leb row r && covered r) (by (colour r)) under

  -- the posts at `at` are those of the covered rows from `row` on
  pub record Reads (at row : ℕ) : Type 0 where
    pub passes : (most from : ℕ) → length lump ≤ at + most → from ≤ row → posts_check most lump height column at from ≡ Ok tt
    pub shows : (by : ℕ → ℕ) (most r under : ℕ) → length lump ≤ at + most → r < height
        → over_posts by most lump at r under ≡ rows_from by row r under

  -- ---- the end byte

  ended-passes : (at most from : ℕ) → at < length lump → start_at lump at ≡ 255 → length lump ≤ at + most
      → posts_check most lump height column at from ≡ Ok tt
  unfolding posts_check
  ended-passes at zero from h e k = absurd (omega arith)
  ended-passes at (suc most) from h e k = simp (eq-eqb _ _ e)

  -- rows above `row` are not among those from it on
  above : (by : ℕ → ℕ) (row r under : ℕ) → r < row → rows_from by row r under ≡ under
  above by row r under h = rw (lt-leb row r h)

  pub reads_end : (at row : ℕ) → at < length lump → start_at lump at ≡ 255 → height ≤ row → Reads at row
  reads_end at row h e k =
      record {
        passes = λ most from l m. ended-passes at most from h e l;
        shows = λ by most r under l m.
            sym (posts_ended lump height column by most at e r under) ∙ sym (above by row r under (omega arith));
      }

  -- ---- an uncovered row

  skipped : (by : ℕ → ℕ) (row r under : ℕ) (b : Bool) → leb (suc row) r ≡ b → covered row ≡ false
      → rows_from by (suc row) r under ≡ rows_from by row r under
  skipped by row r under true e n =
      let l : suc row ≤ r = leb-true (suc row) r e in
      let m : row ≤ r = omega arith in
      rw (e, le-leb row r m)
  skipped by row r under false e n = bare (leb row r) refl
    where
      bare : (b : Bool) → leb row r ≡ b → rows_from by (suc row) r under ≡ rows_from by row r under
      bare false f = rw (e, f)
      bare true f =
          let l : row ≤ r = leb-true row r f in
          let m : r < suc row = leb-false (suc row) r e in
          let q : r ≡ row = omega arith in
          let none : covered r ≡ false = ap covered q ∙ n in
          rw (e, f, none)

  pub reads_gap : (at row : ℕ) → covered row ≡ false → Reads at (suc row) → Reads at row
  reads_gap at row n s =
      record {
        passes = λ most from l m. s.passes most from l (omega arith);
        shows = λ by most r under l m. s.shows by most r under l m ∙ skipped by row r under (leb (suc row) r) refl n;
      }

  -- ---- a run, as one post

  -- a post of `count` pixels from `row` on stands at `at`, and has the colours of covered rows
  pub record PostAt (at row count : ℕ) : Type 0 where
    pub inside : at + 4 + count ≤ length lump
    pub start : start_at lump at ≡ row
    pub long : length_at lump at ≡ count
    pub fits : row + count ≤ height
    pub pixels : (i : ℕ) → i < count → get_or lump (at + 3 + i) 0 ≡ colour (row + i)
    pub run : (i : ℕ) → i < count → covered (row + i) ≡ true

  module _ (small : height < 255) (at row count : ℕ) (p : PostAt at row count) where
    next : post_end lump at ≡ at + 4 + count
    next = ap (λ (n : ℕ). at + 4 + n) p.long

    bottom : end_row lump at ≡ row + count
    bottom = (λ i. p.start i + p.long i)

    here : start_at lump at ≡ 255 → ⊥
    here e = let f = p.fits in let s = p.start in omega arith

    -- what the post shows at a row of the run, below it and above it
    within : (by : ℕ → ℕ) (r under : ℕ) → row ≤ r → r < row + count → over_post by lump at r under ≡ by (colour r)
    within by r under h k =
        let i : row + (r - row) ≡ r = omega arith in
        let top : start_at lump at ≤ r = rw p.start h in
        let low : r < end_row lump at = rw bottom k in
        let q : get_or lump (at + 3 + (r - start_at lump at)) 0 ≡ colour r =
        rw p.start (p.pixels (r - row) (omega arith) ∙ ap colour i) in
        simp (le-leb _ _ top, lt-ltb _ _ low, q)

    past : (by : ℕ → ℕ) (r under : ℕ) → row + count ≤ r → over_post by lump at r under ≡ under
    past by r under h =
        let top : start_at lump at ≤ r = rw p.start (omega arith) in
        let low : end_row lump at ≤ r = rw bottom h in
        simp (le-leb _ _ top, le-ltb _ _ low)

    before : (by : ℕ → ℕ) (r under : ℕ) → r < row → over_post by lump at r under ≡ under
    before by r under h = let top : r < start_at lump at = rw p.start h in simp (lt-leb _ _ top)

    row_shows : (by : ℕ → ℕ) (r under : ℕ) (a b : Bool) → leb row r ≡ a → leb (row + count) r ≡ b
        → rows_from by (row + count) r (over_post by lump at r under) ≡ rows_from by row r under
    row_shows by r under a true e f =
        let l : row + count ≤ r = leb-true (row + count) r f in
        let k : row ≤ r = omega arith in
        rw (past by r under l, f, le-leb row r k)
    row_shows by r under true false e f =
        let l : r < row + count = leb-false (row + count) r f in
        let k : row ≤ r = leb-true row r e in
        let i : row + (r - row) ≡ r = omega arith in
        let c : covered r ≡ true = ap covered (sym i) ∙ p.run (r - row) (omega arith) in
        rw (within by r under k l, f, e, c)
    row_shows by r under false false e f = rw (before by r under (leb-false row r e), f, e)

    module _ (rest : Reads (at + 4 + count) (row + count)) where
      post-passes : (most from : ℕ) → length lump ≤ at + most → from ≤ row → posts_check most lump height column at from ≡ Ok tt
      unfolding posts_check
      post-passes zero from l m = let i = p.inside in absurd (omega arith)
      post-passes (suc most) from l m =
          let top : from ≤ start_at lump at = rw p.start m in
          let inside = le-leb (at + 4 + count) (length lump) p.inside in
          let low = le-leb (row + count) height p.fits in
          simp (ne_eqb _ _ here, next, bottom, inside, le-leb _ _ top, low)
          (rest.passes most (row + count) (omega arith) (omega arith))

      post-shows : (by : ℕ → ℕ) (most r under : ℕ) → length lump ≤ at + most → r < height
          → over_posts by most lump at r under ≡ rows_from by row r under
      unfolding over_posts
      post-shows by zero r under l m = let i = p.inside in absurd (omega arith)
      post-shows by (suc most) r under l m =
          simp (ne_eqb _ _ here, next)
          (rest.shows by most r (over_post by lump at r under) (omega arith) m
          ∙ row_shows by r under (leb row r) (leb (row + count) r) refl refl)

      pub reads_post : Reads at row
      reads_post = record { passes = post-passes; shows = post-shows }
