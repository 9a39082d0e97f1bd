-- `renumber::renumber` meets its contract, by the search for the marker. Assumes nothing.
use mathlib.Core.Path.{sym, ◌∙◌}
use Rattle.map_check.proofs.Answers.{marker_known}
use Rattle.renumber.proofs.renumber.Goals as goal

pub renumber_at-requires : goal.renumber_at-requires
renumber_at-requires c =
    marker_known c.args.wad.now c.args.name.now (sym c.find_map.ensures ∙ c.in_ok-marker.was)
