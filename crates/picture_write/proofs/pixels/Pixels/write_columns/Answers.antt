-- `picture_write::pixels::Pixels::write_columns` meets its contract: the columns before `column` and their offsets are stored. Assumes nothing.
use Prim.Native.Nat.{◌+◌, ◌*◌, ◌<◌}
use mathlib.Core.Path.{◌≡◌, ap, ◌∙◌}
use native.Mathlib.Omega.{arith}
use borrow.Author.Rules.{rules}
use lib.ListN.{length}
use Rattle.picture_write.specs.Runs.{column_length}
use Rattle.picture_write.specs.Pixels.{covered_at}
use Rattle.layout.proofs.LaidOut.{sum-none, sum_le}
use Rattle.picture_write.proofs.Inner.Columns.{stored-none, length-stored, offset-more, stored_more}
use Rattle.picture_write.proofs.Lump.{offset-most}
use Rattle.picture_write.proofs.OffsetStores.{length-put_u32}
use Rattle.picture_write.proofs.pixels.Pixels.write_columns.Goals as goal
use Rattle.picture_write.proofs.pixels.Pixels.write_columns.Goals.{In-loop-column}

-- what is written so far left the output's length
long : (c : In-loop-column) → length c.loop-column.out ≡ length c.args.out.now
long c =
    let a = c.args.self.now in
    let l = c.loop-column in
    ap length l.invariant.1 ∙ length-stored a.cover.width a.cover.height a.colour.now a.cover.bytes.now c.args.out.now l.column

pub loop-column-init : goal.loop-column-init
loop-column-init c =
    let a = c.args.self.now in
    let none = sum-none (λ column. column_length (covered_at a.cover.bytes.now a.cover.width column) a.cover.height) in
    (omega (arith, none), stored-none a.cover.width a.cover.height a.colour.now a.cover.bytes.now c.args.out.now)

pub overflow_cast-to : goal.overflow_cast-to
overflow_cast-to c =
    let a = c.args.self.now in
    let l = c.loop-column in
    omega (arith, l.invariant.0, offset-most a.cover.width a.cover.height a.cover.bytes.now l.column a.cover.narrow a.cover.low l.auto.column-end)

pub write_column-to-requires-clause-room : goal.write_column-to-requires-clause-room
write_column-to-requires-clause-room c =
    let a = c.args.self.now in
    let l = c.loop-column in
    let turn : l.column < a.cover.width = search rules in
    let next = offset-more a.cover.width a.cover.height a.colour.now a.cover.bytes.now l.column in
    let all = sum_le (λ column. column_length (covered_at a.cover.bytes.now a.cover.width column) a.cover.height) (l.column + 1) a.cover.width (omega arith) in
    let same = ap length c.put_u32.ensures ∙ length-put_u32 l.out (8 + 4 * l.column) l.to in
    omega (arith, l.invariant.0, next, all, c.requires, same, long (goal.at.write_column-to-requires-clause-room c).In-loop-column)

pub loop-column-preserved : goal.loop-column-preserved
loop-column-preserved c =
    let a = c.args.self.now in
    let l = c.loop-column in
    let turn : l.column < a.cover.width = search rules in (
      omega (arith, l.invariant.0, c.write_column-to.ensures.value, offset-more a.cover.width a.cover.height a.colour.now a.cover.bytes.now l.column),
      stored_more a.cover.width a.cover.height a.colour.now a.cover.bytes.now c.args.out.now l.column l.to turn l.invariant.0 l.invariant.1
          c.put_u32.ensures c.write_column-to.ensures.out_after,
    )
