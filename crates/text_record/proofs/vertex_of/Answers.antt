-- `text_record::vertex_of` meets its contract: field by field, each as what it holds. Assumes nothing.
use Rattle.text_table.specs.Table.{vertex_fields}
use Rattle.text_table.specs.Names.{every}
use Rattle.text_record.proofs.vertex_of.Goals as goal

pub returns : goal.returns
unfolding vertex_fields every
returns c =
    λ i. record {
      x = c.decimal_field.ensures i;
      y = c.decimal_field-2.ensures i;
    }
