-- Laws of the lump: it is as long as the layout's sum. Assumes nothing.
use Prim.Native.Nat.{ℕ, zero, suc, ◌+◌, ◌*◌, ◌≤◌}
use mathlib.Core.Bool.{Bool}
use mathlib.Core.List.{List}
use mathlib.Core.Path.{◌≡◌, refl, ◌∙◌}
use native.Mathlib.Omega.{arith}
use lib.ListN.{length, length-append}
use Rattle.picture_header.specs.declared.Picture.{Picture}
use Rattle.layout.specs.Rows.{sum_of, laid_out}
use Rattle.picture_write.specs.Runs.{begins, column_length}
use Rattle.endian.specs.Unsigned.{u32_bytes}
use Rattle.picture_write.specs.Pixels.{pixel_at, covered_at}
use Rattle.picture_write.specs.Lump.{column_of, column_size, column_start, written_of, written_length}
use Rattle.picture_write.specs.Inner.Columns.{start_of_column}
use Rattle.layout.proofs.LaidOut.{sum-none, sum-suc, sum-most, count_most, length_laid}
use Rattle.picture_write.proofs.Runs.{length_column}

sum_fours : (n : ℕ) → sum_of (λ i. 4) n ≡ 4 * n
sum_fours zero = sum-none (λ i. 4)
sum_fours (suc n) = let k = sum_fours n in omega (arith, sum-suc (λ i. 4) n)

-- numbers of four bytes
length_fours : (f : ℕ → ℕ) (n : ℕ) → length (laid_out (λ i. u32_bytes (f i)) n) ≡ 4 * n
length_fours f n = length_laid (λ i. u32_bytes (f i)) (λ i. 4) n (λ i l. refl) ∙ sum_fours n

module _ (picture : Picture) (colour cover : List ℕ) where
  abbrev pub offsets : ℕ → List ℕ
  offsets n = laid_out (λ column. u32_bytes (column_start picture cover column)) n

  abbrev pub columns : ℕ → List ℕ
  columns n = laid_out (column_of picture colour cover) n

  pub length_offsets : (n : ℕ) → length (offsets n) ≡ 4 * n
  length_offsets n = length_fours (column_start picture cover) n

  pub length-columns : (n : ℕ) → length (columns n) ≡ sum_of (column_size picture cover) n
  length-columns n =
      length_laid (column_of picture colour cover) (column_size picture cover) n
      (λ i l. length_column (pixel_at colour picture.width i) (covered_at cover picture.width i) picture.height)

  pub length-written : length (written_of picture colour cover) ≡ written_length picture cover
  length-written =
      let parts : length (written_of picture colour cover) ≡ 8 + 4 * picture.width + length (columns picture.width) =
      simp (length-append, length_fours) in
      omega (arith, parts, length-columns picture.width)

-- ---- bounds of a picture of the size that is accepted

pub column_most : (covered : ℕ → Bool) (height : ℕ) → height ≤ 200 → column_length covered height ≤ 1001
column_most covered height h = omega (arith, count_most (begins covered) height, count_most covered height)

-- 8 + 4 × 320 + 320 × 1001
pub offset-most : (width height : ℕ) (cover : List ℕ) (n : ℕ) → width ≤ 320 → height ≤ 200 → n ≤ width
    → start_of_column width height cover n ≤ 321608
offset-most width height cover n w h l =
    let lengths : ℕ → ℕ = λ column. column_length (covered_at cover width column) height in
    let sum = sum-most lengths 1001 n (λ i. column_most (covered_at cover width i) height h) in
    omega (arith, sum)
