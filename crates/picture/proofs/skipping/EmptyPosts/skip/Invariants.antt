-- `picture::skipping::EmptyPosts::skip` meets its contract: each turn goes past one such post. Assumes nothing.
use Prim.Native.Nat.{◌+◌, ◌*◌, ◌-◌, ◌≤◌}
use mathlib.Core.Path.{◌≡◌}
use Rattle.picture.specs.Stepping.{past_empty}
use Rattle.picture.proofs.skipping.EmptyPosts.skip.Given as goal

abbrev pub invariant-loop-i : goal.invariant-loop-i
invariant-loop-i l =
    (l.i ≤ l.most) × (past_empty (l.most - l.i) l.lump l.self.row (l.self.at + 4 * l.i) ≡ past_empty l.most l.lump l.self.row l.self.at)
