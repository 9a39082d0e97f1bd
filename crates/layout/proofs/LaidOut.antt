-- Laws of sums and of bytes laid out: one more, how long they are, and what stands where. Assumes nothing.
use Prim.Native.Nat.{ℕ, zero, suc, ◌+◌, ◌*◌, ◌≤◌, ◌<◌}
use mathlib.Core.Bool.{Bool, true, false, cond}
use mathlib.Core.List.{List, [], ◌++◌}
use mathlib.Core.Logic.{⊎_elim}
use mathlib.Core.Path.{◌≡◌, refl, sym, ap, ◌∙◌}
use native.Mathlib.Nat.{le_of_suc-le-suc, eq-or-lt_of_le, mul-suc, mul-le-mul_left}
use native.Mathlib.Numerals.{add-one}
use native.Mathlib.Omega.{arith}
use lib.ListN.{length, take, drop, length-append, length-drop}
use lib.Seq.{take_all, drop_at, take-append-le, drop-append-le}
use Rattle.layout.specs.Rows.{sum_of, count_of, laid_out}

module _ (f : ℕ → ℕ) where
  pub sum-none : sum_of f 0 ≡ 0
  unfolding sum_of
  sum-none = refl

  pub sum-suc : (n : ℕ) → sum_of f (suc n) ≡ sum_of f n + f n
  unfolding sum_of
  sum-suc n = refl

  pub sum_more : (n : ℕ) → sum_of f (n + 1) ≡ sum_of f n + f n
  sum_more n = rw (add-one n) (sum-suc n)

  -- the sum of the first is no more than that of all
  pub sum_le : (i n : ℕ) → i ≤ n → sum_of f i ≤ sum_of f n
  sum_le i zero h = let z : i ≡ 0 = omega arith in rw z (omega arith)
  sum_le i (suc n) h =
      ⊎_elim
      (λ (q : i ≡ suc n). rw q (omega arith))
      (λ (l : i < suc n). let k = sum_le i n (le_of_suc-le-suc l) in omega (arith, sum-suc n))
      (eq-or-lt_of_le h)

  pub sum-most : (most n : ℕ) → ((i : ℕ) → f i ≤ most) → sum_of f n ≤ n * most
  sum-most most zero h = rw sum-none (omega arith)
  sum-most most (suc n) h =
      let k = sum-most most n h in
      let e : suc n * most ≡ n * most + most = omega arith in
      omega (arith, sum-suc n, h n, e)

count-one : (b : Bool) → cond b 1 0 ≤ 1
count-one true = omega arith
count-one false = omega arith

pub count_most : (f : ℕ → Bool) (n : ℕ) → count_of f n ≤ n
count_most f n = let h = sum-most (λ i. cond (f i) 1 0) 1 n (λ i. count-one (f i)) in omega arith

module _ (f : ℕ → List ℕ) where
  pub laid_none : laid_out f 0 ≡ []
  unfolding laid_out
  laid_none = refl

  pub laid_suc : (n : ℕ) → laid_out f (suc n) ≡ laid_out f n ++ f n
  unfolding laid_out
  laid_suc n = refl

  pub laid_more : (n : ℕ) → laid_out f (n + 1) ≡ laid_out f n ++ f n
  laid_more n = rw (add-one n) (laid_suc n)

  pub length_laid_suc : (n : ℕ) → length (laid_out f (suc n)) ≡ length (laid_out f n) + length (f n)
  length_laid_suc n = ap length (laid_suc n) ∙ length-append (laid_out f n) (f n)

  -- as long as the lengths' sum
  pub length_laid : (g : ℕ → ℕ) (n : ℕ) → ((i : ℕ) → i < n → length (f i) ≡ g i) → length (laid_out f n) ≡ sum_of g n
  length_laid g zero h = ap length laid_none ∙ sym (sum-none g)
  length_laid g (suc n) h =
      let k = length_laid g n (λ i l. h i (omega arith)) in
      length_laid_suc n ∙ rw (k, h n (omega arith)) (sym (sum-suc g n))

  pub length_laid_le : (i n : ℕ) → i ≤ n → length (laid_out f i) ≤ length (laid_out f n)
  length_laid_le i n h =
      let e : (n : ℕ) → length (laid_out f n) ≡ sum_of (λ i. length (f i)) n = λ n. length_laid (λ i. length (f i)) n (λ i l. refl) in
      rw (e i, e n) (sum_le (λ i. length (f i)) i n h)

  -- the same parts
  pub laid_same : (g : ℕ → List ℕ) (n : ℕ) → ((i : ℕ) → i < n → f i ≡ g i) → laid_out f n ≡ laid_out g n
  unfolding laid_out
  laid_same g zero h = refl
  laid_same g (suc n) h = let rest = laid_same g n (λ i l. h i (omega arith)) in let last = h n (omega arith) in λ i. rest i ++ last i

  -- ---- parts of one size

  pub length_parts : (size n : ℕ) → ((i : ℕ) → i < n → length (f i) ≡ size) → length (laid_out f n) ≡ size * n
  length_parts size zero h = let e = ap length laid_none in omega arith
  length_parts size (suc n) h =
      let k = length_parts size n (λ i l. h i (omega arith)) in
      let one = h n (omega arith) in
      let sum : size * suc n ≡ size * n + size = mul-suc size n in
      length_laid_suc n ∙ omega (arith, k, one, sum)

  -- each stands at its own place
  pub part_at : (size n : ℕ) → ((i : ℕ) → i < n → length (f i) ≡ size) → (i : ℕ) → i < n → take size (drop (size * i) (laid_out f n)) ≡ f i
  part_at size zero h i l = absurd (omega arith)
  part_at size (suc n) h i l =
      let long = length_parts size n (λ i l. h i (omega arith)) in
      rw (laid_suc n)
      (⊎_elim
      (λ (q : i ≡ n).
      let last : length (f n) ≡ size = h n (omega arith) in
      rw (q, drop_at (laid_out f n) (f n) (size * n) long) (take_all size (f n) (omega arith)))
      (λ (q : i < n).
      let rest : size * i + size ≤ length (laid_out f n) = rw (long, ← mul-suc size i) (mul-le-mul_left size q) in
      let tail = length-drop (size * i) (laid_out f n) in
      rw (
        drop-append-le (size * i) (laid_out f n) (f n) (omega arith),
        take-append-le size (drop (size * i) (laid_out f n)) (f n) (omega arith),
      )
      (part_at size n (λ i l. h i (omega arith)) i q))
      (eq-or-lt_of_le (le_of_suc-le-suc l)))
