-- `map_check::lumps::check_reject` meets its contract, from those of the functions that it calls. Assumes nothing.
use native.Mathlib.Omega.{arith}
use Rattle.record_table.specs.Lumps.{SECTORS}
use Rattle.map_lumps.specs.Lumps.{map_lumps}
use Rattle.map_lumps.proofs.Places.{sectors_size}
use Rattle.map_check.proofs.CountsPassing.{count_most}
use Rattle.map_check.proofs.lumps.check_reject.Goals as goal

pub judge_reject-requires : goal.judge_reject-requires
judge_reject-requires c =
    let lumps = map_lumps c.args.lumps.now.wad.now c.args.lumps.now.dir.now c.args.lumps.now.marker in
    rw c.record_count.ensures (count_most c.args.hexen lumps c.requires SECTORS (omega arith) (omega arith) (sectors_size c.args.hexen))
