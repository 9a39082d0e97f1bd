-- `pair::judge_map` meets its contract: the search refuses, or the map check answers from the marker on. Assumes nothing.
use Rattle.refusal.specs.declared.Refusal.TheVariants.{MapName}
use Rattle.refusal.specs.Checks.{unless}
use Rattle.name.specs.Names.{map_name_ok}
use Rattle.pair.proofs.Entries.{known_in}
use Rattle.pair.proofs.Answering.{pair_judged}
use Rattle.pair.proofs.judge_map.Goals as goal

pub judge_at-requires : goal.judge_at-requires
judge_at-requires c =
    let s = c.search_map-search in
    let a = c.args in
    known_in a.base.now a.patch.now a.name.now (unless (map_name_ok a.name.now) MapName) s.result
    c.file_of.result.now s.ensures c.in-Ok.is c.file_of.ensures

pub returns-in-Ok : goal.returns-in-Ok
returns-in-Ok c =
    let s = c.search_map-search in
    let a = c.args in
    pair_judged a.base.now a.patch.now a.name.now s.result c.file_of.result.now a.words.now
    s.ensures c.in-Ok.is c.file_of.ensures c.judge_at.ensures
