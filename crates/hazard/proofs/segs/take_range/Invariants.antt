-- `hazard::segs::take_range` meets its contract. The loop's invariant: no seg before `seg` was noted already, and all
-- are now. Assumes nothing.
use Prim.Native.Nat.{◌≤◌}
use Rattle.hazard.specs.Inner.{NotedTo}
use Rattle.hazard.proofs.segs.take_range.Given as goal

abbrev pub invariant-loop-seg : goal.invariant-loop-seg
invariant-loop-seg l =
    (l.first ≤ l.seg) × (l.seg ≤ l.end) × NotedTo l.first l.seg l.initial.taken l.taken
