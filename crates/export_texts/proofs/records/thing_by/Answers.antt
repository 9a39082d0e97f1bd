-- `export_texts::records::thing_by` meets its contract: the fields of the kind are lent. Assumes nothing.
use mathlib.Core.Path.{ap, ◌∙◌}
use Rattle.text_table.specs.Table.{default_of}
use Rattle.text_record.specs.Records.{text_thing_of}
use Rattle.export_texts.proofs.records.thing_by.Goals as goal

pub returns : goal.returns
returns c =
    let a = c.args in
    let lent = ap default_of c.fields_by-fields.ensures in
    let read = c.thing_of.ensures ∙ ap (text_thing_of a.text.now a.places.now) lent in
    λ i. record { status = c.from.ensures i; thing = read i; next = a.f.next }
