-- `hazard::segs::first_twice` meets its contract. The loop's invariant: no subsector before `i` takes a seg again, and
-- their segs are noted. Assumes nothing.
use Prim.Native.Nat.{◌/◌}
use lib.ListN.{length}
use Rattle.hazard.specs.Segs.{seg_twice_at}
use Rattle.hazard.specs.Inner.{Taken}
use Rattle.refusal.proofs.Scans.{Scanned}
use Rattle.hazard.proofs.segs.first_twice.Given as goal

abbrev pub invariant-loop-i : goal.invariant-loop-i
invariant-loop-i l =
    Scanned (seg_twice_at l.subsectors) (length l.subsectors / 4) l.i-end l.i × Taken l.subsectors l.i l.taken
