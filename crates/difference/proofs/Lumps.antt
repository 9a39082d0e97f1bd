-- The eight lumps one after the other: their counts in an array, and their numbers in the list. Assumes nothing.
use Prim.Native.Nat.{ℕ, ◌+◌, ◌*◌, ◌≤◌, ◌<◌}
use Rattle.std.specs.Prelude.{sum}
use mathlib.Core.List.{List, [], ◌∷◌}
use mathlib.Core.Path.{◌≡◌, refl, sym, ap, ◌∙◌}
use native.Mathlib.Omega.{arith}
use lib.ListN.{length, set, replicate}
use lib.Seq.{sets}
use Rattle.layout.specs.Rows.{sum_of, laid_out}
use Rattle.layout.proofs.LaidOut.{laid_more, length_laid, length_parts}
use Rattle.layout.proofs.Stores.{sets_push}

-- ---- a number for each

module _ (g : ℕ → ℕ) where
  abbrev pub row : ℕ → List ℕ
  row n = laid_out (λ i. g i ∷ []) n

  pub row_more : (l : List ℕ) (n : ℕ) → set (sets l 0 (row n)) n (g n) ≡ sets l 0 (row (n + 1))
  row_more l n =
      let long = length_parts (λ i. g i ∷ []) 1 n (λ i h. refl) in
      sets_push l 0 (row n) (g n) n (omega arith) ∙ ap (sets l 0) (sym (laid_more (λ i. g i ∷ []) n))

  -- eight of them are all that an array of eight holds
  pub row_eight : sets (replicate 8 0) 0 (row 8) ≡ row 8
  unfolding laid_out
  row_eight = refl

  eight : sum_of g 8 ≡ g 0 + g 1 + g 2 + g 3 + g 4 + g 5 + g 6 + g 7
  unfolding sum_of
  eight = omega arith

  pub sum_eight : sum (row 8) ≡ sum_of g 8
  unfolding laid_out sum_of
  sum_eight = refl

  -- where none is more than `most`
  pub eight-most : (most : ℕ) → ((i : ℕ) → i < 8 → g i ≤ most) → sum_of g 8 ≤ 8 * most
  eight-most most h =
      omega (arith, eight, h 0 (omega arith), h 1 (omega arith), h 2 (omega arith), h 3 (omega arith), h 4 (omega arith), h 5 (omega arith), h 6 (omega arith), h 7 (omega arith))

-- ---- a list for each

module _ (f : ℕ → List ℕ) where
  -- the list is as long as the counts' sum
  pub length_eight : length (laid_out f 8) ≡ sum_of (λ i. length (f i)) 8
  length_eight = length_laid f (λ i. length (f i)) 8 (λ i h. refl)
