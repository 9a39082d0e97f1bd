-- `map_check::judge_map` meets its contract: a marker that was found is one of the file's entries. Assumes nothing.
use mathlib.Core.Path.{sym}
use Rattle.map_check.proofs.Answers.{marker_known}
use Rattle.map_check.proofs.judge_map.Goals as goal

pub judge_at-requires : goal.judge_at-requires
judge_at-requires c = marker_known c.args.wad.now c.args.name.now (sym c.in_ok-marker.ensures)
