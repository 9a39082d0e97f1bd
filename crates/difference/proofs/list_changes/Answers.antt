-- `difference::list_changes` meets its contract: 76, 75, or the counts and the list. Assumes nothing.
use Rattle.std.proofs.Common.{rules, Bool, ap, ◌∙◌, arith, Ok}
use mathlib.Core.Path.{subst⁻¹}
use Rattle.std.specs.Prelude.{sum}
use Rattle.difference.specs.Differences.{game_in, lumps_in}
use Rattle.difference.specs.Inner.Lumps.{Numbered}
use Rattle.difference.proofs.Answering.{counted-few, refused-games, one-game, refused-room, fits, all-listed}
use Rattle.difference.proofs.list_changes.Goals as goal

pub returns-in_err-pass_if : goal.returns-in_err-pass_if
returns-in_err-pass_if c =
    let old = c.args.old.now in
    let new = c.args.new.now in
    refused-games old.wad.now old.marker new.wad.now new.marker c.args.list.now c.is_hexen.ensures c.is_hexen-2.ensures c.in_err-pass_if.ensures (search rules)

pub total-requires : goal.total-requires
total-requires c =
    let old = c.args.old.now in
    let new = c.args.new.now in
    let game = one-game old.wad.now old.marker new.wad.now new.marker c.args.list.now c.is_hexen.ensures c.is_hexen-2.ensures c.in_ok-pass_if.ensures in
    let few = counted-few (game_in old.wad.now old.marker) (lumps_in old.wad.now old.marker) (lumps_in new.wad.now new.marker)
    (subst⁻¹ (λ (h : Bool). Numbered h (lumps_in new.wad.now new.marker)) game c.requires) in
    omega (arith, few, ap sum c.count_all-counts.ensures)

pub returns-in_err-pass_if-2 : goal.returns-in_err-pass_if-2
returns-in_err-pass_if-2 c =
    let old = c.args.old.now in
    let new = c.args.new.now in
    refused-room old.wad.now old.marker new.wad.now new.marker c.args.list.now c.is_hexen.ensures c.is_hexen-2.ensures c.in_ok-pass_if.ensures
    (c.total.ensures ∙ ap sum c.count_all-counts.ensures) c.in_err-pass_if-2.ensures (search rules)

pub write_all-requires-clause-numbered : goal.write_all-requires-clause-numbered
write_all-requires-clause-numbered c =
    let old = c.args.old.now in
    let new = c.args.new.now in
    let game = one-game old.wad.now old.marker new.wad.now new.marker c.args.list.now c.is_hexen.ensures c.is_hexen-2.ensures c.in_ok-pass_if.ensures in
    subst⁻¹ (λ (h : Bool). Numbered h (lumps_in new.wad.now new.marker)) game c.requires

pub write_all-requires-clause-room : goal.write_all-requires-clause-room
write_all-requires-clause-room c =
    let old = c.args.old.now in
    let new = c.args.new.now in
    fits old.wad.now old.marker new.wad.now new.marker c.args.list.now c.is_hexen.ensures c.is_hexen-2.ensures c.in_ok-pass_if.ensures
    (c.total.ensures ∙ ap sum c.count_all-counts.ensures) c.in_ok-pass_if-2.ensures

pub returns : goal.returns
returns c =
    let old = c.args.old.now in
    let new = c.args.new.now in
    all-listed old.wad.now old.marker new.wad.now new.marker c.args.list.now c.is_hexen.ensures c.is_hexen-2.ensures c.in_ok-pass_if.ensures
    (c.total.ensures ∙ ap sum c.count_all-counts.ensures) c.in_ok-pass_if-2.ensures (ap Ok c.count_all-counts.ensures) c.write_all.ensures
