-- `index::names::padded` meets its contract. The loop's invariant: the first `i` bytes are the name's, zeros follow, and so it is in the
-- padded name up to what the name has from byte `i` on. Assumes nothing.
use Prim.Native.Nat.{◌-◌, ◌≤◌}
use Rattle.index.proofs.Filled.{Filled}
use Rattle.index.proofs.names.padded.Given as goal

abbrev pub invariant-loop-i : goal.invariant-loop-i
invariant-loop-i l = (l.i ≤ 8) × Filled l.name l.bytes l.i (8 - l.i)
