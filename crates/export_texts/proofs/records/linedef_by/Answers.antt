-- `export_texts::records::linedef_by` meets its contract: the fields of the kind are lent. Assumes nothing.
use mathlib.Core.Path.{ap, ◌∙◌}
use mir.Syntax.{w32}
use mir.ValLaws.{to_z-of_z}
use Rattle.text_table.specs.Table.{default_of}
use Rattle.text_record.specs.Records.{text_linedef_of}
use Rattle.export_texts.proofs.records.linedef_by.Goals as goal

pub returns : goal.returns
returns c =
    let a = c.args in
    let lent = ap default_of c.fields_by-fields.ensures in
    let id = to_z-of_z w32 a.id c.ranges.id in
    let read = c.linedef_of.ensures ∙ (λ i. text_linedef_of a.text.now a.places.now (lent i) (id i)) in
    λ i. record { status = c.from.ensures i; linedef = read i; next = a.f.next }
