-- `text_record::thing_of` meets its contract: field by field, each as what it holds. Assumes nothing.
use Rattle.text_record.proofs.Whole.{whole}
use Rattle.text_table.specs.Table.{thing_fields}
use Rattle.text_table.specs.Names.{every}
use Rattle.text_record.proofs.thing_of.Goals as goal

pub returns : goal.returns
unfolding thing_fields every
returns c =
    λ i. record {
      id = whole c.whole_field.type_inv c.whole_field.ensures i;
      x = c.decimal_field.ensures i;
      y = c.decimal_field-2.ensures i;
      height = c.decimal_field-3.ensures i;
      angle = whole c.whole_field-2.type_inv c.whole_field-2.ensures i;
      kind = whole c.whole_field-3.type_inv c.whole_field-3.ensures i;
      skill1 = c.flag_field.ensures i;
      skill2 = c.flag_field-2.ensures i;
      skill3 = c.flag_field-3.ensures i;
      skill4 = c.flag_field-4.ensures i;
      skill5 = c.flag_field-5.ensures i;
      ambush = c.flag_field-6.ensures i;
      single = c.flag_field-7.ensures i;
      dm = c.flag_field-8.ensures i;
      coop = c.flag_field-9.ensures i;
      friend = c.flag_field-10.ensures i;
      dormant = c.flag_field-11.ensures i;
      class1 = c.flag_field-12.ensures i;
      class2 = c.flag_field-13.ensures i;
      class3 = c.flag_field-14.ensures i;
      standing = c.flag_field-15.ensures i;
      strifeally = c.flag_field-16.ensures i;
      translucent = c.flag_field-17.ensures i;
      invisible = c.flag_field-18.ensures i;
      special = whole c.whole_field-4.type_inv c.whole_field-4.ensures i;
      arg0 = whole c.whole_field-5.type_inv c.whole_field-5.ensures i;
      arg1 = whole c.whole_field-6.type_inv c.whole_field-6.ensures i;
      arg2 = whole c.whole_field-7.type_inv c.whole_field-7.ensures i;
      arg3 = whole c.whole_field-8.type_inv c.whole_field-8.ensures i;
      arg4 = whole c.whole_field-9.type_inv c.whole_field-9.ensures i;
      comment = c.string_field.ensures i;
    }
