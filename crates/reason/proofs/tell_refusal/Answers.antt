-- `reason::tell_refusal` meets its contract: nothing to print, no room, or the field. Assumes nothing.
use Rattle.std.proofs.Common.{Bool, refl, sym, ap, ◌∙◌}
use Rattle.refusal.specs.Table.{number_of, record_of}
use Rattle.reason_range.specs.Fields.{put_field}
use Rattle.map_lumps.specs.Lumps.{map_lumps}
use Rattle.map_lumps.specs.Games.{game_at}
use Rattle.reason_field.specs.Named.{field_ok, named_field}
use Rattle.reason.proofs.Printing.{nameable, told_none, told-short, told-field, bare-none, named-some}
use Rattle.reason.proofs.tell_refusal.Goals as goal

pub named_field-requires : goal.named_field-requires
named_field-requires c = λ named. nameable c.requires named c.is_hexen-hexen.ensures refl refl

pub returns-in_default : goal.returns-in_default
returns-in_default c =
    let a = c.args in
    told_none (game_at a.marker.now.dir.now a.marker.now.count a.marker.now.entry) (map_lumps a.wad.now a.marker.now.dir.now a.marker.now.entry) a.r a.out.now
    (bare-none (field_ok (number_of a.r)) _ (sym c.in_default.is ∙ c.named_field.ensures.value)) c.answer.ensures

pub returns-then-out-lt-FIELD_SIZE : goal.returns-then-out-lt-FIELD_SIZE
returns-then-out-lt-FIELD_SIZE c =
    let a = c.args in
    told-short (game_at a.marker.now.dir.now a.marker.now.count a.marker.now.entry) (map_lumps a.wad.now a.marker.now.dir.now a.marker.now.entry) a.r a.out.now
    (named-some (field_ok (number_of a.r)) _ _ (sym c.in-Some.is ∙ c.named_field.ensures.value)).0 c.if-out-lt-FIELD_SIZE.true
    c.answer-then-out-lt-FIELD_SIZE.ensures

pub returns : goal.returns
returns c =
    let a = c.args in
    let lumps = map_lumps a.wad.now a.marker.now.dir.now a.marker.now.entry in
    let some =
    named-some (field_ok (number_of a.r)) (named_field c.is_hexen-hexen.result lumps (number_of a.r) (record_of a.r)) c.in-Some.field
    (sym c.in-Some.is ∙ c.named_field.ensures.value) in
    told-field (game_at a.marker.now.dir.now a.marker.now.count a.marker.now.entry) lumps a.r a.out.now some.0 c.if-out-lt-FIELD_SIZE.false refl
    (c.put_field.ensures ∙ ap (put_field a.out.now) some.1
    ∙ ap (λ (h : Bool). put_field a.out.now (named_field h lumps (number_of a.r) (record_of a.r))) c.is_hexen-hexen.ensures)
