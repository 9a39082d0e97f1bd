-- `picture_write::cover::Cover::written_length` meets its contract: where the next column begins. Assumes nothing.
use mathlib.Core.Path.{◌≡◌}
use native.Mathlib.Omega.{arith}
use Rattle.picture_write.specs.Runs.{column_length}
use Rattle.picture_write.specs.Pixels.{covered_at}
use Rattle.picture_write.specs.Inner.Columns.{start_of_column}
use Rattle.layout.proofs.LaidOut.{sum-none, sum_more}
use Rattle.picture_write.proofs.Lump.{column_most, offset-most}
use Rattle.picture_write.proofs.cover.Cover.written_length.Goals as goal

pub loop-column-init : goal.loop-column-init
loop-column-init c =
    let a = c.args.self.now in
    let none = sum-none (λ column. column_length (covered_at a.bytes.now a.width column) a.height) in
    omega (arith, none)

pub overflow_add-total-in-loop-column : goal.overflow_add-total-in-loop-column
overflow_add-total-in-loop-column c =
    let a = c.args.self.now in
    let l = c.loop-column in
    let e : l.total ≡ start_of_column a.width a.height a.bytes.now l.column = l.invariant in
    let total = offset-most a.width a.height a.bytes.now l.column a.narrow a.low c.loop-column.auto.column-end in
    let one = column_most (covered_at a.bytes.now a.width l.column) a.height a.low in
    omega (arith, e, total, one, c.column_length-total.ensures)

pub loop-column-preserved : goal.loop-column-preserved
loop-column-preserved c =
    let a = c.args.self.now in
    let l = c.loop-column in
    let more = sum_more (λ column. column_length (covered_at a.bytes.now a.width column) a.height) l.column in
    omega (arith, l.invariant, c.column_length-total.ensures, more)
