-- Not for the reader of promises: what only contracts of inner functions cite, the columns before one, by width and height alone.
-- Assumes nothing.
use Rattle.std.specs.Prelude.{ℕ, ◌+◌, List}
use Rattle.picture_header.specs.Layout.{table_end}
use Rattle.layout.specs.Rows.{sum_of, laid_out}
use Rattle.picture_write.specs.Runs.{column_bytes, column_length}
use Rattle.endian.specs.Unsigned.{u32_bytes}
use Rattle.picture_write.specs.Pixels.{pixel_at, covered_at}

-- where column `n` begins
abbrev pub start_of_column : ℕ → ℕ → List ℕ → ℕ → ℕ
start_of_column width height cover n = table_end width + sum_of (λ column. column_length (covered_at cover width column) height) n

-- the offsets and the bytes of the columns before `n`
abbrev pub offsets_to : ℕ → ℕ → List ℕ → ℕ → List ℕ
offsets_to width height cover n = laid_out (λ column. u32_bytes (start_of_column width height cover column)) n

abbrev pub columns_to : ℕ → ℕ → List ℕ → List ℕ → ℕ → List ℕ
columns_to width height colour cover n =
    laid_out (λ column. column_bytes (pixel_at colour width column) (covered_at cover width column) height) n
