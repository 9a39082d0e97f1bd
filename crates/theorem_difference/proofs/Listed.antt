-- Rows laid out one after the other: each row is found again by the lengths of the rows before it. Assumes nothing.
use Prim.Native.Nat.{ℕ, zero, suc, ◌<◌}
use mathlib.Core.List.{List, [], ◌∷◌, ◌++◌, append_assoc}
use mathlib.Core.Logic.{⊎_elim}
use mathlib.Core.Path.{◌≡◌, refl, sym, ap, ◌∙◌}
use native.Mathlib.Nat.{le_of_suc-le-suc, eq-or-lt_of_le}
use native.Mathlib.Omega.{arith}
use lib.ListN.{length, get_or, take, drop, get_or-append}
use lib.Seq.{take-append_seam, drop-append_seam, get_or_at}
use Rattle.layout.specs.Rows.{sum_of, laid_out}
use Rattle.layout.proofs.LaidOut.{sum-none, sum-suc, laid_suc, length_laid, length_parts}

sum_same : (f g : ℕ → ℕ) (n : ℕ) → ((i : ℕ) → i < n → f i ≡ g i) → sum_of f n ≡ sum_of g n
sum_same f g zero h = sum-none f ∙ sym (sum-none g)
sum_same f g (suc n) h =
    let before = sum_same f g n (λ i l. h i (omega arith)) in
    let last = h n (omega arith) in
    sum-suc f n ∙ omega (arith, before, last) ∙ sym (sum-suc g n)

-- a row of single numbers
counts_at : (g : ℕ → ℕ) (n i : ℕ) → i < n → get_or (laid_out (λ i. g i ∷ []) n) i 0 ≡ g i
counts_at g zero i h = absurd (omega arith)
counts_at g (suc n) i h =
    let long = length_parts (λ i. g i ∷ []) 1 n (λ i l. refl) in
    ap (λ (l : List ℕ). get_or l i 0) (laid_suc (λ i. g i ∷ []) n)
    ∙ ⊎_elim
    (λ (e : i ≡ n).
    ap (λ (k : ℕ). get_or (laid_out (λ i. g i ∷ []) n ++ (g n ∷ [])) k 0) e
    ∙ get_or_at (laid_out (λ i. g i ∷ []) n) (g n) [] 0 n (omega arith) ∙ ap g (sym e))
    (λ (l : i < n). get_or-append (laid_out (λ i. g i ∷ []) n) (g n ∷ []) 0 i (omega (arith, long, l)) ∙ counts_at g n i l)
    (eq-or-lt_of_le (le_of_suc-le-suc h))

module _ (f : ℕ → List ℕ) where
  -- row `k` behind those before it
  row_at : (n k : ℕ) (rest : List ℕ) → k < n → take (length (f k)) (drop (length (laid_out f k)) (laid_out f n ++ rest)) ≡ f k
  row_at zero k rest h = absurd (omega arith)
  row_at (suc n) k rest h =
      ap (λ (l : List ℕ). take (length (f k)) (drop (length (laid_out f k)) l)) (ap (λ (l : List ℕ). l ++ rest) (laid_suc f n) ∙ append_assoc (laid_out f n) (f n) rest)
      ∙ ⊎_elim
      (λ (e : k ≡ n).
      ap (λ (j : ℕ). take (length (f j)) (drop (length (laid_out f j)) (laid_out f n ++ (f n ++ rest)))) e
      ∙ ap (take (length (f n))) (drop-append_seam (laid_out f n) (f n ++ rest)) ∙ take-append_seam (f n) rest ∙ ap f (sym e))
      (λ (l : k < n). row_at n k (f n ++ rest) l)
      (eq-or-lt_of_le (le_of_suc-le-suc h))

  -- found by the rows' lengths
  pub row-found : (n k : ℕ) (rest : List ℕ) → k < n
      → take (get_or (laid_out (λ i. length (f i) ∷ []) n) k 0) (drop (sum_of (λ i. get_or (laid_out (λ i. length (f i) ∷ []) n) i 0) k) (laid_out f n ++ rest)) ≡ f k
  row-found n k rest h =
      let own = counts_at (λ i. length (f i)) n k h in
      let before : sum_of (λ i. get_or (laid_out (λ i. length (f i) ∷ []) n) i 0) k ≡ length (laid_out f k) =
      sum_same (λ i. get_or (laid_out (λ i. length (f i) ∷ []) n) i 0) (λ i. length (f i)) k (λ i l. counts_at (λ i. length (f i)) n i (omega (arith, l, h)))
      ∙ sym (length_laid f (λ i. length (f i)) k (λ i l. refl)) in
      (λ x. take (own x) (drop (before x) (laid_out f n ++ rest))) ∙ row_at n k rest h
