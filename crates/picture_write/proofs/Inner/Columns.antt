-- Laws of column after column, by width and height alone. Assumes nothing.
use Prim.Native.Nat.{ℕ, ◌+◌, ◌*◌, ◌<◌}
use mathlib.Core.List.{List}
use mathlib.Core.Path.{◌≡◌, sym, ap, ◌∙◌}
use native.Mathlib.Omega.{arith}
use lib.IntN.{pos}
use lib.ListN.{length}
use lib.Seq.{sets, length-sets}
use Rattle.endian.specs.Unsigned.{put_u32, u32_bytes}
use Rattle.picture_header.specs.declared.Picture.{Picture}
use Rattle.picture_write.specs.Runs.{column_bytes, column_length}
use Rattle.picture_write.specs.Pixels.{pixel_at, covered_at}
use Rattle.picture_write.specs.Inner.Columns.{start_of_column, offsets_to, columns_to}
use Rattle.layout.proofs.LaidOut.{sum_more, laid_none, laid_more}
use Rattle.layout.proofs.Stores.{sets_append, sets_comm}
use Rattle.picture_write.proofs.OffsetStores.{sets_u32}
use Rattle.picture_write.proofs.Runs.{length_column}
use Rattle.picture_write.proofs.Lump.{length_offsets, length-columns}

abbrev sized : ℕ → ℕ → Picture
sized width height = record { width = width; height = height; left = pos 0; top = pos 0 }

module _ (width height : ℕ) (colour cover : List ℕ) where
  -- the columns before `n` with their offsets, stored
  abbrev pub stored : List ℕ → ℕ → List ℕ
  stored out n = sets (sets out 8 (offsets_to width height cover n)) (8 + 4 * width) (columns_to width height colour cover n)

  pub stored-none : (out : List ℕ) → out ≡ stored out 0
  stored-none out =
      sym (
      rw (
        laid_none (λ column. u32_bytes (start_of_column width height cover column)),
        laid_none (λ column. column_bytes (pixel_at colour width column) (covered_at cover width column) height),
      )
      )

  pub length-stored : (out : List ℕ) (n : ℕ) → length (stored out n) ≡ length out
  length-stored out n =
      length-sets (sets out 8 (offsets_to width height cover n)) (8 + 4 * width) (columns_to width height colour cover n)
      ∙ length-sets out 8 (offsets_to width height cover n)

  pub offset-more : (n : ℕ)
      → start_of_column width height cover (n + 1)
      ≡ start_of_column width height cover n + length (column_bytes (pixel_at colour width n) (covered_at cover width n) height)
  offset-more n =
      omega (
        arith,
        sum_more (λ column. column_length (covered_at cover width column) height) n,
        length_column (pixel_at colour width n) (covered_at cover width n) height,
      )

  -- one column more
  pub stored_more : (out₀ : List ℕ) (n to : ℕ) {out mid last : List ℕ} → n < width → to ≡ start_of_column width height cover n
      → out ≡ stored out₀ n → mid ≡ put_u32 out (8 + 4 * n) to
      → last ≡ sets mid to (column_bytes (pixel_at colour width n) (covered_at cover width n) height)
      → last ≡ stored out₀ (n + 1)
  stored_more out₀ n to {out} {mid} {last} h t o m e =
      let O = offsets_to width height cover in
      let C = columns_to width height colour cover in
      let column = column_bytes (pixel_at colour width n) (covered_at cover width n) height in
      let table = 8 + 4 * width in
      let offsets : sets (sets out₀ 8 (O n)) (8 + 4 * n) (u32_bytes to) ≡ sets out₀ 8 (O (n + 1)) =
      rw (← length_offsets (sized width height) colour cover n, t) (
      sets_append out₀ 8 (O n) (u32_bytes (start_of_column width height cover n))
      ∙ ap (sets out₀ 8) (sym (laid_more (λ column. u32_bytes (start_of_column width height cover column)) n))
      ) in
      let first : mid ≡ sets (sets out₀ 8 (O (n + 1))) table (C n) =
      m
      ∙ sets_u32 out (8 + 4 * n) to
      ∙ ap (λ (x : List ℕ). sets x (8 + 4 * n) (u32_bytes to)) o
      ∙ sym (sets_comm (sets out₀ 8 (O n)) (8 + 4 * n) table (u32_bytes to) (C n) (omega arith))
      ∙ ap (λ (x : List ℕ). sets x table (C n)) offsets in
      let place : to ≡ table + length (C n) = omega (arith, t, length-columns (sized width height) colour cover n) in
      e
      ∙ (λ i. sets (first i) (place i) column)
      ∙ sets_append (sets out₀ 8 (O (n + 1))) table (C n) column
      ∙ ap (sets (sets out₀ 8 (O (n + 1))) table)
      (sym (laid_more (λ column. column_bytes (pixel_at colour width column) (covered_at cover width column) height) n))
