-- `refusal::judge_each` meets its contract: whatever tells the answers of the checks, the first `i` pass. Assumes nothing.
use Rattle.std.proofs.Common.{◌≡◌, ◌<◌, ℕ, Result, Ok}
use Rattle.std.specs.Bool.{⊤}
use Rattle.refusal.specs.Checks.{each}
use Rattle.refusal.proofs.judge_each.Given as goal

abbrev pub invariant-loop-i : goal.invariant-loop-i
invariant-loop-i g l =
    (f : ℕ → Result ⊤ g.row.E.Denot) → ((i : ℕ) (c : Result ⊤ g.row.E.Denot) → i < l.n → goal.F-post g l.check i c → c ≡ f i)
    → each f l.i ≡ Ok tt
