-- `text_record::sidedef_of` meets its contract: field by field, each as what it holds. Assumes nothing.
use Rattle.text_record.proofs.Whole.{whole}
use Rattle.text_table.specs.Table.{sidedef_fields}
use Rattle.text_table.specs.Names.{every}
use Rattle.text_record.proofs.sidedef_of.Goals as goal

pub returns : goal.returns
unfolding sidedef_fields every
returns c =
    λ i. record {
      offsetx = whole c.whole_field.type_inv c.whole_field.ensures i;
      offsety = whole c.whole_field-2.type_inv c.whole_field-2.ensures i;
      texturetop = c.string_field.ensures i;
      texturebottom = c.string_field-2.ensures i;
      texturemiddle = c.string_field-3.ensures i;
      sector = whole c.whole_field-3.type_inv c.whole_field-3.ensures i;
      comment = c.string_field-4.ensures i;
    }
