-- `map_lumps::MapLumps::whole_ok` meets its contract: a lump of records has a size above 0. Assumes nothing.
use Rattle.map_lumps.proofs.Places.{record_size_positive}
use Rattle.map_lumps.proofs.MapLumps.whole_ok.Goals as goal

pub nonzero_rem-result : goal.nonzero_rem-result
nonzero_rem-result c = rw c.record_size.ensures (record_size_positive c.args.hexen _ c.requires.0 c.requires.1)
