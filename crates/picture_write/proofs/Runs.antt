-- Laws of a column's runs: each covered row stands in exactly one post, so that the column is as long as its formula. Assumes
-- nothing.
use Prim.Native.Nat.{ℕ, zero, suc, ◌+◌, ◌-◌, ◌*◌, ◌≤◌, ◌<◌}
use mathlib.Core.Bool.{Bool, true, false, ◌&&◌, not, cond}
use mathlib.Core.List.{List, [], ◌∷◌, ◌++◌}
use mathlib.Core.Path.{◌≡◌, refl, sym, ap, ◌∙◌}
use native.Mathlib.Nat.{not-suc-le-zero, le_of_suc-le-suc}
use native.Mathlib.Numerals.{add-one}
use native.Mathlib.Omega.{arith}
use lib.ListN.{length, length-append}
use Rattle.picture_paint.specs.Pixels.{list_of}
use Rattle.picture_paint.proofs.Planes.{length-list_of}
use Rattle.layout.specs.Rows.{count_of, laid_out}
use Rattle.picture_write.specs.Runs.{above_of, begins, run_from, post_of, post_at, column_bytes, column_length}
use Rattle.layout.proofs.LaidOut.{sum-none, sum-suc, laid_none, length_laid_suc}

module _ (covered : ℕ → Bool) where
  pub run_none : (row : ℕ) → run_from covered row 0 ≡ 0
  unfolding run_from
  run_none row = refl

  pub run_suc : (row left : ℕ) → run_from covered row (suc left) ≡ cond (covered row) (suc (run_from covered (suc row) left)) 0
  unfolding run_from
  run_suc row left = refl

  -- a run ends with the rows
  pub run_most : (row left : ℕ) → run_from covered row left ≤ left
  run_most row zero = rw (run_none row) (omega arith)
  run_most row (suc left) = rw (run_suc row left) (by_cover_lem (covered row) (run_most (suc row) left))
    where
      by_cover_lem : {n left : ℕ} (b : Bool) → n ≤ left → cond b (suc n) 0 ≤ suc left
      by_cover_lem true h = omega arith
      by_cover_lem false h = omega arith

  -- an uncovered row ends a run, a covered one is one more
  pub run_stop : (row left : ℕ) → covered row ≡ false → run_from covered row left ≡ 0
  run_stop row zero e = run_none row
  run_stop row (suc left) e = run_suc row left ∙ ap (λ (b : Bool). cond b (suc (run_from covered (suc row) left)) 0) e

  pub run_go : (row height : ℕ) → row < height → covered row ≡ true
      → run_from covered row (height - row) ≡ suc (run_from covered (row + 1) (height - (row + 1)))
  run_go row height h e =
      let n : height - row ≡ suc (height - (row + 1)) = omega arith in
      ap (run_from covered row) n
      ∙ run_suc row (height - (row + 1))
      ∙ ap (λ (b : Bool). cond b (suc (run_from covered (suc row) (height - (row + 1)))) 0) e
      ∙ ap (λ (r : ℕ). suc (run_from covered r (height - (row + 1)))) (sym (add-one row))

  -- the rows of a run are covered, and the row after it is not
  pub run_covered : (row left i : ℕ) → i < run_from covered row left → covered (row + i) ≡ true
  run_covered row zero i h = absurd (not-suc-le-zero (rw (run_none row) at h))
  run_covered row (suc left) i h = told (covered row) refl i (rw (run_suc row left) at h) (run_covered (suc row) left)
    where
      told : (b : Bool) → covered row ≡ b → (i : ℕ) → i < cond b (suc (run_from covered (suc row) left)) 0
          → ((j : ℕ) → j < run_from covered (suc row) left → covered (suc row + j) ≡ true) → covered (row + i) ≡ true
      told false e i h below = absurd (not-suc-le-zero h)
      told true e zero h below = ap covered (omega arith) ∙ e
      told true e (suc j) h below = let q : row + suc j ≡ suc row + j = omega arith in ap covered q ∙ below j (le_of_suc-le-suc h)

  pub run_ends : (row left : ℕ) → run_from covered row left < left → covered (row + run_from covered row left) ≡ false
  run_ends row zero h = absurd (not-suc-le-zero h)
  run_ends row (suc left) h =
      ap (λ (n : ℕ). covered (row + n)) (run_suc row left)
      ∙ told (covered row) refl (rw (run_suc row left) at h) (run_ends (suc row) left)
    where
      told : (b : Bool) → covered row ≡ b → cond b (suc (run_from covered (suc row) left)) 0 < suc left
          → (run_from covered (suc row) left < left → covered (suc row + run_from covered (suc row) left) ≡ false)
          → covered (row + cond b (suc (run_from covered (suc row) left)) 0) ≡ false
      told false e h below = ap covered (omega arith) ∙ e
      told true e h below =
          let q : row + suc (run_from covered (suc row) left) ≡ suc row + run_from covered (suc row) left = omega arith in
          ap covered q ∙ below (le_of_suc-le-suc h)

-- ---- a post

module _ (f : ℕ → ℕ) where
  pub list_of-none : (from : ℕ) → list_of f from 0 ≡ []
  unfolding list_of
  list_of-none from = refl

  list_of-suc : (from n : ℕ) → list_of f from (suc n) ≡ list_of f from n ++ (f (from + n) ∷ [])
  unfolding list_of
  list_of-suc from zero = ap (λ (k : ℕ). f k ∷ []) (omega arith)
  list_of-suc from (suc n) =
      let e : suc from + n ≡ from + suc n = omega arith in
      ap (λ (r : List ℕ). f from ∷ r) (list_of-suc (suc from) n ∙ ap (λ (k : ℕ). list_of f (suc from) n ++ (f k ∷ [])) e)

  pub list_of-more : (from n : ℕ) → list_of f from (n + 1) ≡ list_of f from n ++ (f (from + n) ∷ [])
  list_of-more from n = rw (add-one n) (list_of-suc from n)

pub length-post : (colour : ℕ → ℕ) (row count : ℕ) → length (post_of colour row count) ≡ 4 + count
length-post colour row count =
    let e = length-append (list_of colour row count) (0 ∷ []) in
    let k = length-list_of colour row count in
    omega arith

module _ (colour : ℕ → ℕ) (covered : ℕ → Bool) (height : ℕ) where
  -- the rows of a run that reaches into row `n` or goes on below it
  abbrev pending : ℕ → ℕ
  pending n = cond (above_of covered n) (run_from covered n (height - n)) 0

  length-cond : (b : Bool) (xs : List ℕ) → length (cond b xs []) ≡ cond b (length xs) 0
  length-cond true xs = refl
  length-cond false xs = refl

  -- one row more, by whether it and the row above it are covered
  one-row : (here above : Bool) (posts runs rows rest run : ℕ)
      → run ≡ cond here (suc rest) 0 → posts ≡ 4 * runs + rows + cond above run 0
      → posts + cond (here && not above) (4 + run) 0
      ≡ 4 * (runs + cond (here && not above) 1 0) + (rows + cond here 1 0) + cond here rest 0
  one-row true true posts runs rows rest run e h = omega arith
  one-row true false posts runs rows rest run e h = omega arith
  one-row false true posts runs rows rest run e h = omega arith
  one-row false false posts runs rows rest run e h = omega arith

  posts_length : (n : ℕ) → n ≤ height
      → length (laid_out (post_at colour covered height) n) ≡ 4 * count_of (begins covered) n + count_of covered n + pending n
  posts_length zero h =
      rw (laid_none (post_at colour covered height), sum-none (λ i. cond (begins covered i) 1 0), sum-none (λ i. cond (covered i) 1 0))
  posts_length (suc n) h =
      let before = posts_length n (omega arith) in
      let left : height - n ≡ suc (height - suc n) = omega arith in
      let run = ap (run_from covered n) left ∙ run_suc covered n (height - suc n) in
      let post = length-post colour n (run_from covered n (height - n)) in
      let here = length-cond (begins covered n) (post_of colour n (run_from covered n (height - n))) ∙ ap (λ (k : ℕ). cond (begins covered n) k 0) post in
      length_laid_suc (post_at colour covered height) n
      ∙ ap (λ (k : ℕ). length (laid_out (post_at colour covered height) n) + k) here
      ∙ one-row (covered n) (above_of covered n) _ _ _ (run_from covered (suc n) (height - suc n)) _ run before
      ∙ rw (sum-suc (λ i. cond (begins covered i) 1 0) n, sum-suc (λ i. cond (covered i) 1 0) n)

  -- the end byte is one byte
  pub length-ended : length (column_bytes colour covered height) ≡ length (laid_out (post_at colour covered height) height) + 1
  length-ended = simp length-append

  pub length_column : length (column_bytes colour covered height) ≡ column_length covered height
  length_column =
      let posts = posts_length height (omega arith) in
      let none : height - height ≡ 0 = omega arith in
      let last : pending height ≡ 0 = ap (λ (k : ℕ). cond (above_of covered height) k 0) (ap (run_from covered height) none ∙ run_none covered height) ∙ cond-zero (above_of covered height) in
      omega (arith, length-ended, posts, last)
    where
      cond-zero : (b : Bool) → ◌≡◌ {A = ℕ} (cond b 0 0) 0
      cond-zero true = refl
      cond-zero false = refl
