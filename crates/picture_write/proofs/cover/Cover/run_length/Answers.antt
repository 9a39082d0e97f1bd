-- `picture_write::cover::Cover::run_length` meets its contract: the run is what was counted and the run from there on. Assumes
-- nothing.
use Prim.Native.Nat.{◌+◌, ◌-◌, ◌<◌}
use mathlib.Core.Path.{◌≡◌, sym, ap, ◌∙◌}
use native.Mathlib.Omega.{arith}
use borrow.Author.Rules.{rules}
use Rattle.picture_write.specs.Runs.{run_from}
use Rattle.picture_write.specs.Pixels.{covered_at}
use Rattle.picture_write.proofs.Runs.{run_none, run_stop, run_go}
use Rattle.picture_write.proofs.cover.Cover.run_length.Goals as goal

pub returns-then-not-covers : goal.returns-then-not-covers
returns-then-not-covers c =
    let a = c.args.self.now in
    let covered = covered_at a.bytes.now a.width c.args.column in
    let at = c.args.row + c.loop-count.count in
    omega (arith, c.loop-count.invariant, run_stop covered at (a.height - at) (sym c.covers.ensures ∙ c.if-not-covers.true))

pub loop-count-preserved : goal.loop-count-preserved
loop-count-preserved c =
    let a = c.args.self.now in
    let covered = covered_at a.bytes.now a.width c.args.column in
    let at = c.args.row + c.loop-count.count in
    let row : at < a.height = search rules in
    let next : c.args.row + (c.loop-count.count + 1) ≡ at + 1 = omega arith in
    rw next (omega (arith, c.loop-count.invariant, run_go covered at a.height row (sym c.covers.ensures ∙ c.if-not-covers.false)))

pub returns : goal.returns
returns c =
    let l = c.loop-count in
    let a = c.args.self.now in
    let covered = covered_at a.bytes.now a.width c.args.column in
    let none : a.height - (c.args.row + l.count) ≡ 0 = search rules in
    let last = ap (run_from covered (c.args.row + l.count)) none ∙ run_none covered (c.args.row + l.count) in
    omega (arith, l.invariant, last)
