-- The first bytes of a padded name are written, and zeros follow. Assumes nothing.
use Prim.Native.Nat.{ℕ, zero, suc, ◌≤◌, ◌<◌}
use mathlib.Core.Bool.{cond}
use mathlib.Core.List.{List, [], ◌∷◌, ◌++◌}
use mathlib.Core.Path.{◌≡◌, refl, sym, ap, ◌∙◌}
use native.Mathlib.Nat.{le_of_suc-le-suc}
use native.Mathlib.Omega.{arith}
use borrow.Author.Tests.{eq-eqb, ne_eqb}
use lib.Dec.{eqb}
use lib.ListN.{length, get_or, set, take, drop, replicate}
use lib.Seq.{take-suc, drop-cons, append_snoc, set_at, length-take-le}
use Rattle.name.specs.Names.{name_of}
use Rattle.index.specs.Records.{padded}

take_zeros : (n m : ℕ) → n ≤ m → take {A = ℕ} n (replicate m 0) ≡ replicate n 0
take_zeros zero m h = refl
take_zeros (suc n) zero h = absurd (omega arith)
take_zeros (suc n) (suc m) h = ap (λ (xs : List ℕ). 0 ∷ xs) (take_zeros n m (le_of_suc-le-suc h))

-- the first `i` bytes are written, and `k` are left
pub record Filled (name bytes : List ℕ) (i k : ℕ) : Type 0 where
  pub so_far : bytes ≡ take i name ++ replicate k 0
  pub goal : padded name ≡ take i name ++ take k (name_of (drop i name) ++ replicate 8 0)

module _ (name : List ℕ) (i : ℕ) (h : i < length name) where
  name-from : name_of (drop i name) ≡ cond (eqb (get_or name i 0) 0) [] (get_or name i 0 ∷ name_of (drop (suc i) name))
  name-from = ap name_of (drop-cons name i 0 h)

  name-ends : get_or name i 0 ≡ 0 → name_of (drop i name) ≡ []
  name-ends e = name-from ∙ rw (eq-eqb (get_or name i 0) 0 e)

  name_on : (get_or name i 0 ≡ 0 → ⊥) → name_of (drop i name) ≡ get_or name i 0 ∷ name_of (drop (suc i) name)
  name_on e = name-from ∙ rw (ne_eqb (get_or name i 0) 0 e)

  pub filled_stop : (bytes : List ℕ) (k : ℕ) → k ≤ 8 → get_or name i 0 ≡ 0 → Filled name bytes i k → bytes ≡ padded name
  filled_stop bytes k few e f =
      f.so_far
      ∙ sym (f.goal ∙ ap (λ (xs : List ℕ). take i name ++ take k (xs ++ replicate 8 0)) (name-ends e)
      ∙ ap (λ (xs : List ℕ). take i name ++ xs) (take_zeros k 8 few))

  one_more_lem : (ys : List ℕ) → take i name ++ (get_or name i 0 ∷ ys) ≡ take (suc i) name ++ ys
  one_more_lem ys = sym (append_snoc (take i name) (get_or name i 0) ys) ∙ ap (λ (xs : List ℕ). xs ++ ys) (sym (take-suc name i 0 h))

  pub filled_more : (bytes : List ℕ) (k : ℕ) → (get_or name i 0 ≡ 0 → ⊥) → Filled name bytes i (suc k) → Filled name (set bytes i (get_or name i 0)) (suc i) k
  filled_more bytes k e f =
      record {
        so_far =
            ap (λ (xs : List ℕ). set xs i (get_or name i 0)) f.so_far
            ∙ set_at (take i name) 0 (replicate k 0) (get_or name i 0) i (length-take-le i name (omega arith))
            ∙ one_more_lem (replicate k 0);
        goal =
            f.goal
            ∙ ap (λ (xs : List ℕ). take i name ++ take (suc k) (xs ++ replicate 8 0)) (name_on e)
            ∙ one_more_lem (take k (name_of (drop (suc i) name) ++ replicate 8 0));
      }
