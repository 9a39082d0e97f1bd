-- `sidedefs_stream::first_bad` meets its contract: the next sector's low byte stands where it should, and the sectors before it are there.
-- Assumes nothing.
use Prim.Native.Nat.{ℕ, ◌+◌, ◌-◌, ◌*◌, ◌<◌}
use Rattle.endian.specs.Unsigned.{u16_at}
use Rattle.sidedefs_stream.specs.Inner.{Low}
use Rattle.sidedefs_stream.proofs.first_bad.Given as goal

abbrev pub invariant-loop-i : goal.invariant-loop-i
invariant-loop-i l =
    Low l.bytes (l.first + 30 * l.i - 1) × ((k : ℕ) → Low l.bytes k → k < l.first + 30 * l.i - 1 → u16_at l.scrap k < l.sectors)
