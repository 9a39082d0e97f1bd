-- A column's bytes, wherever they stand in a lump, are read as its covered rows: each run is one post. Assumes nothing.
use Prim.Native.Nat.{ℕ, zero, suc, ◌+◌, ◌-◌, ◌≤◌, ◌<◌}
use mathlib.Core.Bool.{Bool, true, false, cond}
use mathlib.Core.List.{List, [], ◌∷◌}
use mathlib.Core.Logic.{⊎_elim}
use mathlib.Core.Path.{◌≡◌, refl, sym, ap, ◌∙◌, subst}
use native.Mathlib.Nat.{not-suc-le-zero, le_of_suc-le-suc, eq-or-lt_of_le}
use native.Mathlib.Omega.{arith}
use lib.ListN.{length, get_or, get_or-append}
use Rattle.picture_paint.specs.Pixels.{list_of}
use Rattle.picture_paint.proofs.Planes.{length-list_of, get_d_list_of}
use Rattle.layout.specs.Rows.{laid_out}
use Rattle.picture_write.specs.Runs.{above_of, begins, run_from, post_of, post_at, column_bytes}
use Rattle.layout.proofs.LaidOut.{laid_none, laid_suc, length_laid_suc}
use Rattle.picture_write.proofs.Runs.{run_suc, run_most, length-post, run_covered}
use Rattle.theorem_picture.proofs.Standing.{Stands, stands-left, stands_right}
use Rattle.theorem_picture.proofs.Reading.{Reads, PostAt, reads_end, reads_gap, reads_post}

-- each part of bytes that are laid_out stands after those before it
pub stands_laid : (f : ℕ → List ℕ) {lump : List ℕ} {at : ℕ} (n : ℕ) → Stands lump at (laid_out f n) → (k : ℕ) → k < n
    → Stands lump (at + length (laid_out f k)) (f k)
stands_laid f zero s k h = absurd (not-suc-le-zero h)
stands_laid f {lump} {at} (suc n) s k h =
    let both = subst (Stands lump at) (laid_suc f n) s in
    ⊎_elim
    (λ (e : k ≡ n). subst (λ (k : ℕ). Stands lump (at + length (laid_out f k)) (f k)) (sym e) (stands_right (laid_out f n) (f n) both))
    (λ (l : k < n). stands_laid f n (stands-left (laid_out f n) (f n) both) k l)
    (eq-or-lt_of_le (le_of_suc-le-suc h))

module _ (lump : List ℕ) (height column : ℕ) (covered : ℕ → Bool) (colour : ℕ → ℕ) (small : height < 255) where
  abbrev ReadsHere : ℕ → ℕ → Type 0
  ReadsHere = Reads lump height column covered colour

  -- where a run's post stands it is read
  post-stands : (at row left : ℕ) → row + left ≡ height → Stands lump at (post_of colour row (run_from covered row left))
      → PostAt lump height column covered colour at row (run_from covered row left)
  post-stands at row left e s =
      let count = run_from covered row left in
      let pixels = list_of colour row count in
      let long : length (post_of colour row count) ≡ 4 + count = length-post colour row count in
      let most : count ≤ left = run_most covered row left in
      let inside = s.inside in
      record {
        inside = omega arith;
        start = ap (λ (k : ℕ). get_or lump k 0) (omega arith) ∙ s.byte 0 (omega arith);
        long = s.byte 1 (omega arith);
        fits = omega arith;
        pixels = λ i l.
            let here : i < length pixels = rw (length-list_of colour row count) l in
            ap (λ (k : ℕ). get_or lump k 0) (omega arith)
            ∙ s.byte (suc (suc (suc i))) (omega arith)
            ∙ get_or-append pixels (0 ∷ []) 0 i here
            ∙ get_d_list_of colour row count i l;
        run = run_covered covered row left;
      }

  -- how many rows, from `row` on, a run has that began above it
  abbrev pending : ℕ → ℕ → ℕ
  pending row left = cond (above_of covered row) (run_from covered row left) 0

  -- what is pending at a row that is covered, and at one that is not
  pending_more : (row left : ℕ) → covered row ≡ true → run_from covered row (suc left) ≡ suc (pending (suc row) left)
  pending_more row left e = rw (run_suc covered row left, e)

  pending_none : (row left : ℕ) (b : Bool) → covered row ≡ false → cond b (run_from covered row (suc left)) 0 ≡ 0
  pending_none row left true e = rw (run_suc covered row left, e)
  pending_none row left false e = refl

  module _ (at : ℕ) (s : Stands lump at (column_bytes colour covered height)) where
    abbrev posts : ℕ → List ℕ
    posts = post_at colour covered height

    -- where the posts of the rows from `row` on stand
    abbrev place : ℕ → ℕ
    place row = at + length (laid_out posts row)

    place-more : (row : ℕ) → place (suc row) ≡ place row + length (posts row)
    place-more row = let more = length_laid_suc posts row in omega arith

    moved : {from from' row row' : ℕ} → from ≡ from' → row ≡ row' → ReadsHere from' row' → ReadsHere from row
    moved {from' = from'} {row = row} e f r =
        subst (λ (x : ℕ). ReadsHere x row) (sym e) (subst (λ (x : ℕ). ReadsHere from' x) (sym f) r)

    -- from `row` on, with `left` rows left: what stands there are the rows below a pending run
    abbrev From : ℕ → ℕ → Type 0
    From row left = ReadsHere (place row) (row + pending row left)

    -- below the last row there is the end byte
    from_last : (row : ℕ) → row ≡ height → From row 0
    from_last row e =
        let end = stands_right (laid_out posts height) (255 ∷ []) s in
        let inside : place height + 1 ≤ length lump = end.inside in
        let byte : get_or lump (place height) 0 ≡ 255 = ap (λ (k : ℕ). get_or lump k 0) (omega arith) ∙ end.byte 0 (omega arith) in
        moved (ap place e) refl (reads_end lump height column covered colour (place height) _ (omega arith) byte (omega arith))

    -- where no run begins, the rows below stand at the same place
    same_place : (row : ℕ) → begins covered row ≡ false → place row ≡ place (suc row)
    same_place row e = let none : length (posts row) ≡ 0 = rw e in let more = place-more row in omega arith

    from_more : (row left : ℕ) (here above : Bool) → covered row ≡ here → above_of covered row ≡ above → row + suc left ≡ height
        → From (suc row) left → From row (suc left)
    from_more row left false above e f h r =
        let none : begins covered row ≡ false = rw e in
        let now : pending row (suc left) ≡ 0 = pending_none row left (above_of covered row) e in
        let next : pending (suc row) left ≡ 0 = rw e in
        moved (same_place row none) (omega arith) (reads_gap lump height column covered colour _ row e (moved refl (omega arith) r))
    from_more row left true true e f h r =
        let none : begins covered row ≡ false = rw (e, f) in
        let now : pending row (suc left) ≡ suc (pending (suc row) left) = rw f (pending_more row left e) in
        moved (same_place row none) (omega arith) r
    from_more row left true false e f h r =
        let one : begins covered row ≡ true = rw (e, f) in
        let rows : height - row ≡ suc left = omega arith in
        let count = run_from covered row (suc left) in
        let post : posts row ≡ post_of colour row count = rw (one, rows) in
        let stands = stands_laid posts height (stands-left (laid_out posts height) (255 ∷ []) s) row (omega arith) in
        let long : length (posts row) ≡ 4 + count = ap length post ∙ length-post colour row count in
        let more = place-more row in
        let now : pending row (suc left) ≡ 0 = rw f in
        let next = pending_more row left e in
        moved refl (omega arith)
        (reads_post lump height column covered colour small (place row) row count
        (post-stands (place row) row (suc left) h (rw post at stands))
        (moved (omega arith) (omega arith) r))

    from_row : (left row : ℕ) → row + left ≡ height → From row left
    from_row zero row e = from_last row (omega arith)
    from_row (suc left) row e = from_more row left (covered row) (above_of covered row) refl refl e (from_row left (suc row) (omega arith))

    pub column_reads : ReadsHere at 0
    column_reads =
        let first : length (laid_out posts 0) ≡ 0 = ap length (laid_none posts) in
        moved (omega arith) (omega arith) (from_row height 0 (omega arith))
