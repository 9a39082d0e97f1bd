-- `hazard::numbers::high_lists` meets its contract, by BLOCKMAP's check with 32,768 linedefs. Assumes nothing.
use Prim.Native.Nat.{ℕ}
use mathlib.Core.Path.{sym, ap, ◌∙◌}
use Rattle.hazard.specs.declared.Hazard.{Hazard}
use Rattle.hazard.specs.declared.Hazard.TheVariants.{HighNumber}
use Rattle.std.specs.Prelude.{Err}
use Rattle.hazard.specs.Findings.{Finding}
use Rattle.hazard.proofs.HighLists.{as_finding, high-lists}
use Rattle.hazard.proofs.numbers.high_lists.Goals as goal

pub returns-in-Ok : goal.returns-in-Ok
returns-in-Ok c =
    ap as_finding (sym c.in-Ok.is ∙ c.judge_blockmap.ensures) ∙ high-lists c.args.lump.now c.requires

pub returns-in-Err : goal.returns-in-Err
returns-in-Err c =
    ap (λ (h : Hazard). let found : Finding = Err h in found) c.high.ensures
    ∙ ap (λ (n : ℕ). let found : Finding = Err (HighNumber 10 n) in found) c.record_of.ensures
    ∙ ap as_finding (sym c.in-Err.is ∙ c.judge_blockmap.ensures) ∙ high-lists c.args.lump.now c.requires
