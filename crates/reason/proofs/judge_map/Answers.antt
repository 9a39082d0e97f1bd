-- `reason::judge_map` meets its contract, by the search for the marker. Assumes nothing.
use mathlib.Core.Path.{sym, ◌∙◌}
use Rattle.map_check.proofs.Answers.{marker_known}
use Rattle.reason.proofs.judge_map.Goals as goal

pub judge_at-requires : goal.judge_at-requires
judge_at-requires c =
    marker_known c.args.wad.now c.args.name.now (sym c.find_map.ensures ∙ c.in-Ok.is)
