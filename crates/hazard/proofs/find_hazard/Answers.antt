-- `hazard::find_hazard` meets its contract: an accepted map has what the look for hazards relies on. Assumes nothing.
use mathlib.Core.Path.{sym, ◌∙◌}
use Rattle.hazard.proofs.Accepting.{accepting}
use Rattle.hazard.proofs.find_hazard.Goals as goal

pub look_at-requires : goal.look_at-requires
look_at-requires c =
    let a = c.in_ok-accepted.accepted in
    accepting c.args.wad.now c.args.name.now c.args.words.now a.depth a.marker (sym c.judge_map.ensures.verdicts ∙ c.in_ok-accepted.was)
