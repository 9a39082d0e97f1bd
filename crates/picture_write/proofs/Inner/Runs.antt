-- Laws of the writer's way down a column: it goes from run to run, and no run begins where it does not look. Assumes nothing.
use Prim.Native.Nat.{ℕ, zero, suc, ◌+◌, ◌-◌, ◌≤◌, ◌<◌}
use mathlib.Core.Bool.{Bool, true, false, ◌&&◌, not, cond, and-false}
use mathlib.Core.List.{List, [], ◌++◌, append-nil}
use mathlib.Core.Logic.{⊎_elim}
use mathlib.Core.Path.{◌≡◌, sym, ap, ◌∙◌}
use native.Mathlib.Nat.{eq-or-lt_of_le}
use native.Mathlib.Numerals.{add-one}
use native.Mathlib.Omega.{arith}
use lib.ListN.{length, length-append}
use lib.Seq.{sets}
use Rattle.layout.specs.Rows.{laid_out}
use Rattle.picture_write.specs.Runs.{above_of, begins, run_from, post_of, post_at, column_bytes}
use Rattle.picture_write.specs.Inner.Runs.{run_bytes}
use Rattle.layout.proofs.LaidOut.{laid_suc, length_laid_le}
use Rattle.layout.proofs.Stores.{sets_append}
use Rattle.picture_write.proofs.Runs.{run_most, run_covered, run_ends, length-ended}

module _ (colour : ℕ → ℕ) (covered : ℕ → Bool) (height : ℕ) where
  -- the posts of the runs that begin above row `n`
  abbrev pub posts : ℕ → List ℕ
  posts n = laid_out (post_at colour covered height) n

  -- a row where no run begins adds nothing
  quiet_row : (row : ℕ) → begins covered row ≡ false → posts (suc row) ≡ posts row
  quiet_row row e =
      laid_suc (post_at colour covered height) row
      ∙ ap (λ (b : Bool). posts row ++ cond b (post_of colour row (run_from covered row (height - row))) []) e
      ∙ append-nil (posts row)

  quiet : (row count : ℕ) → ((i : ℕ) → i < count → begins covered (row + i) ≡ false) → posts (row + count) ≡ posts row
  quiet row zero h = ap posts (omega arith)
  quiet row (suc count) h =
      let e : row + suc count ≡ suc (row + count) = omega arith in
      ap posts e ∙ quiet_row (row + count) (h count (omega arith)) ∙ quiet row count (λ i l. h i (omega arith))

  uncovered : (row : ℕ) → covered row ≡ false → begins covered row ≡ false
  uncovered row e = ap (λ (b : Bool). b && not (above_of covered row)) e

  below-covered : (row : ℕ) → covered row ≡ true → begins covered (suc row) ≡ false
  below-covered row e = ap (λ (b : Bool). covered (suc row) && not b) e ∙ and-false (covered (suc row))

  -- a run from a row whose upper neighbour is not covered is one post
  pub run_posts : (row count : ℕ) → above_of covered row ≡ false → count ≡ run_from covered row (height - row)
      → posts (row + count) ≡ posts row ++ run_bytes colour row count
  run_posts row zero above e = ap posts (omega arith) ∙ sym (append-nil (posts row))
  run_posts row (suc count) above e =
      let inside : (i : ℕ) → i < suc count → covered (row + i) ≡ true = λ i l. run_covered covered row (height - row) i (rw (← e) l) in
      let here : covered row ≡ true = ap covered (omega arith) ∙ inside 0 (omega arith) in
      let first : begins covered row ≡ true = λ i. here i && not (above i) in
      let q : row + suc count ≡ suc row + count = omega arith in
      ap posts q
      ∙ quiet (suc row) count (λ i l.
      let n : suc row + i ≡ suc (row + i) = omega arith in
      ap (begins covered) n ∙ below-covered (row + i) (inside i (omega arith)))
      ∙ laid_suc (post_at colour covered height) row
      ∙ ap (λ (b : Bool). posts row ++ cond b (post_of colour row (run_from covered row (height - row))) []) first
      ∙ ap (λ (n : ℕ). posts row ++ post_of colour row n) (sym e)

  pub run_rows : (row count : ℕ) → row ≤ height → count ≡ run_from covered row (height - row) → row + count ≤ height
  run_rows row count h e = omega (arith, e, run_most covered row (height - row))

  -- where the writer goes from `row`, with the run's bytes written
  pub record Next (row count next : ℕ) : Type 0 where
    pub below : row < next
    pub inside : next ≤ height
    pub clear : next < height → above_of covered next ≡ false
    pub so_far : posts next ≡ posts row ++ run_bytes colour row count

  pub next_of : (row count next : ℕ) → row < height → above_of covered row ≡ false → count ≡ run_from covered row (height - row)
      → (row + count < height → next ≡ row + count + 1) → (height ≤ row + count → next ≡ height) → Next row count next
  next_of row count next h above e more last =
      ⊎_elim
      (λ (q : row + count ≡ height).
      let n = last (omega arith) in
      record {
        below = omega arith;
        inside = omega arith;
        clear = λ l. absurd (omega arith);
        so_far = ap posts (n ∙ sym q) ∙ run_posts row count above e;
      })
      (λ (l : row + count < height).
      let n : next ≡ suc (row + count) = more l ∙ add-one (row + count) in
      let bare : covered (row + count) ≡ false =
      ap (λ (k : ℕ). covered (row + k)) e ∙ run_ends covered row (height - row) (omega (arith, e)) in
      record {
        below = omega arith;
        inside = omega arith;
        clear = λ k. ap (above_of covered) n ∙ bare;
        so_far = ap posts n ∙ quiet_row (row + count) (uncovered (row + count) bare) ∙ run_posts row count above e;
      })
      (eq-or-lt_of_le (run_rows row count (omega arith) e))

  -- one run more
  pub column_more : (out₀ : List ℕ) (from to row count next : ℕ) {out last : List ℕ} → Next row count next
      → to ≡ from + length (posts row) → out ≡ sets out₀ from (posts row) → last ≡ sets out to (run_bytes colour row count)
      → last ≡ sets out₀ from (posts next)
  column_more out₀ from to row count next n t o e =
      e
      ∙ (λ i. sets (o i) (t i) (run_bytes colour row count))
      ∙ sets_append out₀ from (posts row) (run_bytes colour row count)
      ∙ ap (sets out₀ from) (sym n.so_far)

  pub place-more : (from to row count next : ℕ) {result : ℕ} → Next row count next → to ≡ from + length (posts row)
      → result ≡ to + length (run_bytes colour row count) → result ≡ from + length (posts next)
  place-more from to row count next n t e =
      omega (arith, t, e, ap length n.so_far, length-append (posts row) (run_bytes colour row count))

  -- a run's bytes lie before the column's end
  pub run_room : (from to row count room : ℕ) → row ≤ height → above_of covered row ≡ false → count ≡ run_from covered row (height - row)
      → to ≡ from + length (posts row) → from + length (column_bytes colour covered height) ≤ room
      → to + length (run_bytes colour row count) ≤ room
  run_room from to row count room h above e t r =
      omega (
        arith,
        t,
        r,
        ap length (run_posts row count above e),
        length-append (posts row) (run_bytes colour row count),
        length_laid_le (post_at colour covered height) (row + count) height (run_rows row count h e),
        length-ended colour covered height,
      )
