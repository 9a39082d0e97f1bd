-- Rows laid out one after the other, and stored so: one more, a run more, and none. Assumes nothing.
use Prim.Native.Nat.{ℕ, zero, suc, ◌+◌, ◌≤◌, ◌<◌}
use mathlib.Core.List.{List, [], ◌++◌, append_assoc, append-nil}
use mathlib.Core.Path.{◌≡◌, sym, ap, ◌∙◌}
use native.Mathlib.Omega.{arith}
use lib.ListN.{length, length-append}
use lib.Seq.{sets}
use Rattle.layout.specs.Rows.{laid_out}
use Rattle.layout.proofs.LaidOut.{laid_none, laid_suc, laid_more, length_laid_suc}
use Rattle.layout.proofs.Stores.{sets_append}

module _ (f : ℕ → List ℕ) where
  -- ---- one more

  pub stores_none : (l : List ℕ) (at : ℕ) → l ≡ sets l at (laid_out f 0)
  stores_none l at = ap (sets l at) (sym (laid_none f))

  pub length_more : (n : ℕ) → length (laid_out f (n + 1)) ≡ length (laid_out f n) + length (f n)
  length_more n = ap length (laid_more f n) ∙ length-append (laid_out f n) (f n)

  pub stores_more : (l : List ℕ) (at to n : ℕ) → to ≡ at + length (laid_out f n)
      → sets (sets l at (laid_out f n)) to (f n) ≡ sets l at (laid_out f (n + 1))
  stores_more l at to n e = rw e (sets_append l at (laid_out f n) (f n) ∙ ap (sets l at) (sym (laid_more f n)))

  -- ---- a run more

  pub laid_split : (i k : ℕ) → laid_out f (i + k) ≡ laid_out f i ++ laid_out (λ j. f (i + j)) k
  laid_split i zero =
      let none : i + 0 ≡ i = omega arith in
      ap (laid_out f) none ∙ sym (append-nil (laid_out f i)) ∙ ap (λ (xs : List ℕ). laid_out f i ++ xs) (sym (laid_none (λ j. f (i + j))))
  laid_split i (suc k) =
      let next : i + suc k ≡ suc (i + k) = omega arith in
      ap (laid_out f) next
      ∙ laid_suc f (i + k)
      ∙ ap (λ (xs : List ℕ). xs ++ f (i + k)) (laid_split i k)
      ∙ append_assoc (laid_out f i) (laid_out (λ j. f (i + j)) k) (f (i + k))
      ∙ ap (λ (xs : List ℕ). laid_out f i ++ xs) (sym (laid_suc (λ j. f (i + j)) k))

  pub length-split : (i k : ℕ) → length (laid_out f (i + k)) ≡ length (laid_out f i) + length (laid_out (λ j. f (i + j)) k)
  length-split i k = ap length (laid_split i k) ∙ length-append (laid_out f i) (laid_out (λ j. f (i + j)) k)

  pub stores_split : (l : List ℕ) (at to i k : ℕ) → to ≡ at + length (laid_out f i)
      → sets (sets l at (laid_out f i)) to (laid_out (λ j. f (i + j)) k) ≡ sets l at (laid_out f (i + k))
  stores_split l at to i k e =
      rw e (sets_append l at (laid_out f i) (laid_out (λ j. f (i + j)) k) ∙ ap (sets l at) (sym (laid_split i k)))

  -- ---- few and none

  pub laid_few : (n : ℕ) → ((i : ℕ) → length (f i) ≤ 1) → length (laid_out f n) ≤ n
  laid_few zero h = omega (arith, ap length (laid_none f))
  laid_few (suc n) h = let k = laid_few n h in omega (arith, length_laid_suc f n, h n)

  pub laid_empty : (n : ℕ) → ((i : ℕ) → i < n → f i ≡ []) → laid_out f n ≡ []
  laid_empty zero h = laid_none f
  laid_empty (suc n) h =
      let rest = laid_empty n (λ i l. h i (omega arith)) in
      let last = h n (omega arith) in
      laid_suc f n ∙ (λ i. rest i ++ last i)
