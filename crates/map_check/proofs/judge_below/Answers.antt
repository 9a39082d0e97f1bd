-- `map_check::judge_below` meets its contract: the run of names, then the lumps by the game. Assumes nothing.
use mathlib.Core.Path.{sym}
use native.Mathlib.Omega.{arith}
use Rattle.refusal.proofs.Checks.{pass_then}
use Rattle.map_check.proofs.Passing.{run_long}
use Rattle.map_check.proofs.judge_below.Goals as goal

pub invariant_of-lumps : goal.invariant_of-lumps
invariant_of-lumps c =
    let m = c.args.marker.now in
    let long = run_long m.dir.now m.count m.entry (sym c.in_ok-judge_run.ensures) in
    record { present = omega (arith, m.listed) }

pub returns : goal.returns
returns c = pass_then (sym c.in_ok-judge_run.ensures) (rw c.is_hexen.ensures at c.check_lumps.ensures)
