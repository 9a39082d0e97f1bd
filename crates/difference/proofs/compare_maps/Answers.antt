-- `difference::compare_maps` meets its contract: the old map is refused, or the new one, or both are compared. Assumes nothing.
use Rattle.std.proofs.Common.{rules, ◌≡◌}
use Rattle.map_check.specs.Verdict.{accepted, verdict}
use Rattle.difference.proofs.Accepting.{accepted-map, accepted-numbered}
use Rattle.difference.proofs.Answering.{differ, lifted-ok, lifted-err}
use Rattle.difference.proofs.compare_maps.Goals as goal
use Rattle.difference.proofs.compare_maps.Goals.{In_ok-new}

-- the maps are accepted
old_is : (c : In_ok-new) → verdict c.args.old_wad.now c.args.old_name.now c.args.words.now ≡ accepted c.in_ok-old.old.depth c.in_ok-old.old.marker
old_is c = search rules

new_is : (c : In_ok-new) → verdict c.args.new_wad.now c.args.new_name.now c.judge_map.new.words ≡ accepted c.in_ok-new.new.depth c.in_ok-new.new.marker
new_is c = search rules

pub invariant_of-old : goal.invariant_of-old
invariant_of-old c =
    let a = c.args in
    let map = c.in_ok-old.old in
    let e = old_is (goal.at.invariant_of-old c).In_ok-new in
    record { has_lumps = accepted-map a.old_wad.now a.old_name.now a.words.now map.depth map.marker e }

pub invariant_of-new : goal.invariant_of-new
invariant_of-new c =
    let a = c.args in
    let map = c.in_ok-new.new in
    let e = new_is (goal.at.invariant_of-new c).In_ok-new in
    record { has_lumps = accepted-map a.new_wad.now a.new_name.now c.judge_map.new.words map.depth map.marker e }

pub list_changes-requires : goal.list_changes-requires
list_changes-requires c =
    let a = c.args in
    let map = c.in_ok-new.new in
    let e = new_is (goal.at.list_changes-requires c).In_ok-new in
    accepted-numbered a.new_wad.now a.new_name.now c.judge_map.new.words map.depth map.marker e

pub returns-in-Ok : goal.returns-in-Ok
returns-in-Ok c =
    let a = c.args in
    let passed = (goal.at.returns-in-Ok c).In_ok-new in
    differ a.old_wad.now a.old_name.now a.new_wad.now a.new_name.now a.words.now a.list.now c.judge_map.ensures.leaves (old_is passed) (new_is passed)
    c.list_changes.ensures (lifted-ok c.in-Ok.is) c.judge_map-2.ensures.leaves

pub returns-in-Err : goal.returns-in-Err
returns-in-Err c =
    let a = c.args in
    let passed = (goal.at.returns-in-Err c).In_ok-new in
    differ a.old_wad.now a.old_name.now a.new_wad.now a.new_name.now a.words.now a.list.now c.judge_map.ensures.leaves (old_is passed) (new_is passed)
    c.list_changes.ensures (lifted-err c.in-Err.is) c.judge_map-2.ensures.leaves
