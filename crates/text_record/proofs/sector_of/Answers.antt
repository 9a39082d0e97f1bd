-- `text_record::sector_of` meets its contract: field by field, each as what it holds. Assumes nothing.
use Rattle.text_record.proofs.Whole.{whole}
use Rattle.text_table.specs.Table.{sector_fields}
use Rattle.text_table.specs.Names.{every}
use Rattle.text_record.proofs.sector_of.Goals as goal

pub returns : goal.returns
unfolding sector_fields every
returns c =
    λ i. record {
      heightfloor = whole c.whole_field.type_inv c.whole_field.ensures i;
      heightceiling = whole c.whole_field-2.type_inv c.whole_field-2.ensures i;
      texturefloor = c.string_field.ensures i;
      textureceiling = c.string_field-2.ensures i;
      lightlevel = whole c.whole_field-3.type_inv c.whole_field-3.ensures i;
      special = whole c.whole_field-4.type_inv c.whole_field-4.ensures i;
      id = whole c.whole_field-5.type_inv c.whole_field-5.ensures i;
      comment = c.string_field-3.ensures i;
    }
