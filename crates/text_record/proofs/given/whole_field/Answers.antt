-- `text_record::given::whole_field` meets its contract. Assumes nothing.
use mathlib.Core.Path.{◌∙◌}
use mir.Syntax.{w32}
use mir.ValLaws.{to_z-of_z}
use Rattle.text_record.specs.Fields.{default_whole, whole_or}
use Rattle.text_record.proofs.Whole.{whole}
use Rattle.text_record.proofs.given.whole_field.Goals as goal

pub returns : goal.returns
returns c =
    let a = c.args in
    let d = c.default_whole in
    let letter = c.default_at-default.ensures in
    let id = to_z-of_z w32 a.id c.ranges.id in
    let default = whole d.type_inv (d.ensures ∙ (λ i. default_whole (id i) (letter i))) in
    whole c.whole_or.type_inv (c.whole_or.ensures ∙ (λ i. whole_or (default i) (c.value_at.ensures i)))
