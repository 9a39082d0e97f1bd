-- `wad::map::find_map` meets its contract: the count stands beside the marker. Assumes nothing.
use mathlib.Core.Path.{ap, ◌∙◌}
use Rattle.wad.specs.declared.map.MarkerSearch.{MarkerSearch}
use Rattle.wad.proofs.Answers.{search_marker}
use Rattle.wad.proofs.map.find_map.Goals as goal

pub returns : goal.returns
returns c =
    let a = c.args in
    ap (λ (s : MarkerSearch). s.marker) c.search_map.ensures ∙ search_marker a.wad.now a.name.now
