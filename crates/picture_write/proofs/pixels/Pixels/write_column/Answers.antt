-- `picture_write::pixels::Pixels::write_column` meets its contract: the posts of the runs that begin above `row` are written, and the pixel
-- above it is not covered. Assumes nothing.
use Prim.Native.Nat.{ℕ, ◌+◌, ◌≤◌}
use mathlib.Core.List.{List, [], ◌∷◌, ◌++◌}
use mathlib.Core.Path.{◌≡◌, refl, sym, ap, ◌∙◌}
use native.Mathlib.Omega.{arith}
use borrow.Author.Rules.{rules}
use lib.ListN.{length, set}
use lib.Seq.{sets, length-sets}
use Rattle.picture_write.specs.Runs.{post_at}
use Rattle.picture_write.specs.Pixels.{pixel_at, covered_at}
use Rattle.layout.proofs.LaidOut.{laid_none}
use Rattle.picture_write.proofs.Inner.Runs.{posts, run_rows, run_room, Next, next_of, column_more, place-more}
use Rattle.layout.proofs.Stores.{sets_push}
use Rattle.picture_write.proofs.pixels.Pixels.write_column.Goals as goal
use Rattle.picture_write.proofs.pixels.Pixels.write_column.Goals.{After-run_length-count, After-min-row}

-- the rows of the run are rows of the picture
rows : (c : After-run_length-count) → c.loop-row.row + c.run_length-count.result ≤ c.args.self.now.cover.height
rows c =
    let a = c.args.self.now in
    let l = c.loop-row in
    run_rows (pixel_at a.colour.now a.cover.width c.args.column) (covered_at a.cover.bytes.now a.cover.width c.args.column) a.cover.height
    l.row c.run_length-count.result l.invariant.0 c.run_length-count.ensures

next : (c : After-min-row)
    → (let a = c.args.self.now in
    Next (pixel_at a.colour.now a.cover.width c.args.column) (covered_at a.cover.bytes.now a.cover.width c.args.column) a.cover.height
    c.loop-row.row c.run_length-count.result c.min-row.result)
next c =
    let a = c.args.self.now in
    let l = c.loop-row in
    let turn = c.loop-row-test.true in
    next_of (pixel_at a.colour.now a.cover.width c.args.column) (covered_at a.cover.bytes.now a.cover.width c.args.column) a.cover.height
    l.row c.run_length-count.result c.min-row.result turn (l.invariant.1 turn) c.run_length-count.ensures
    (λ h. omega (arith, c.min-row.ensures)) (λ h. omega (arith, c.min-row.ensures))

pub loop-row-init : goal.loop-row-init
loop-row-init c =
    let a = c.args.self.now in
    let none = laid_none (post_at (pixel_at a.colour.now a.cover.width c.args.column) (covered_at a.cover.bytes.now a.cover.width c.args.column) a.cover.height) in
    (search rules, (λ h. refl), omega (arith, ap length none), ap (sets c.args.out.now c.args.from) (sym none))

pub write_run-to-requires-clause-inside : goal.write_run-to-requires-clause-inside
write_run-to-requires-clause-inside c =
    (c.requires.column_lt_width, rows (goal.at.write_run-to-requires-clause-inside c).After-run_length-count)

pub write_run-to-requires-clause-room : goal.write_run-to-requires-clause-room
write_run-to-requires-clause-room c =
    let a = c.args.self.now in
    let l = c.loop-row in
    let f = pixel_at a.colour.now a.cover.width c.args.column in
    let g = covered_at a.cover.bytes.now a.cover.width c.args.column in
    let count = c.run_length-count.result in
    let rows = run_rows f g a.cover.height l.row count l.invariant.0 c.run_length-count.ensures in
    let long = ap length l.invariant.3 ∙ length-sets c.args.out.now c.args.from (posts f g a.cover.height l.row) in
    let room = run_room f g a.cover.height c.args.from l.to l.row count (length c.args.out.now) l.invariant.0
    (l.invariant.1 c.loop-row-test.true) c.run_length-count.ensures l.invariant.2 c.requires.room in omega (arith, room, long)

pub overflow_add-row : goal.overflow_add-row
overflow_add-row c =
    omega (arith, rows (goal.at.overflow_add-row c).After-run_length-count, c.args.self.now.cover.low)

pub overflow_add-row-in-loop-row : goal.overflow_add-row-in-loop-row
overflow_add-row-in-loop-row c =
    omega (arith, rows (goal.at.overflow_add-row-in-loop-row c).After-run_length-count, c.args.self.now.cover.low)

pub loop-row-preserved : goal.loop-row-preserved
loop-row-preserved c =
    let a = c.args.self.now in
    let l = c.loop-row in
    let f = pixel_at a.colour.now a.cover.width c.args.column in
    let g = covered_at a.cover.bytes.now a.cover.width c.args.column in
    let n = next (goal.at.loop-row-preserved c).After-min-row in
    let count = c.run_length-count.result in (
      n.inside,
      n.clear,
      place-more f g a.cover.height c.args.from l.to l.row count c.min-row.result n l.invariant.2 c.write_run-to.ensures.value,
      column_more f g a.cover.height c.args.out.now c.args.from l.to l.row count c.min-row.result n l.invariant.2 l.invariant.3 c.write_run-to.ensures.out_after,
    )

pub returns-clause-out_after : goal.returns-clause-out_after
returns-clause-out_after c =
    let a = c.args.self.now in
    let l = c.loop-row in
    let f = pixel_at a.colour.now a.cover.width c.args.column in
    let g = covered_at a.cover.bytes.now a.cover.width c.args.column in
    let e : l.row ≡ a.cover.height = search rules in
    let same = ap (λ (n : ℕ). length (posts f g a.cover.height n)) e in ap (λ (x : List ℕ). set x l.to 255) l.invariant.3
    ∙ sets_push c.args.out.now c.args.from (posts f g a.cover.height l.row) 255 l.to l.invariant.2
    ∙ ap (λ (n : ℕ). sets c.args.out.now c.args.from (posts f g a.cover.height n ++ (255 ∷ []))) e
