-- `hazard::segs::take_segs` meets its contract: the subsector's segs are a range. Assumes nothing.
use Prim.Native.Nat.{◌+◌}
use borrow.Author.Rules.{rules}
use Rattle.hazard.proofs.SegsTaken.{took}
use Rattle.hazard.proofs.segs.take_segs.Goals as goal

pub returns : goal.returns
returns c =
    let first = c.field-first in
    let number = c.field in
    took c.args.subsectors.now c.args.i c.args.taken.now c.requires.taken first.result (first.result + number.result)
    first.ensures.0 (λ i. first.ensures.0 i + number.ensures.0 i) (search rules) c.take_range.result c.take_range.new.taken
    c.take_range.ensures
