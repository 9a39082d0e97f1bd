-- `hazard::segs::seg_twice` meets its contract: at first no seg is noted. Assumes nothing.
use Rattle.hazard.proofs.SegsTaken.{nothing_taken}
use Rattle.hazard.proofs.segs.seg_twice.Goals as goal

pub first_twice-requires : goal.first_twice-requires
first_twice-requires c = nothing_taken _
