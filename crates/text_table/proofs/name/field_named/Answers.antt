-- `text_table::name::field_named` meets its contract: the place among the code's rows is that among the table's. Assumes nothing.
use Rattle.std.proofs.Common.{false, sym, ap, ◌∙◌}
use Rattle.std.specs.List.{position}
use Rattle.text_table.specs.Table.{Row}
use Rattle.text_table.specs.Rows.{row_of}
use Rattle.text_table.specs.Names.{is_name}
use Rattle.text_table.proofs.Positions.{position-map}
use Rattle.text_table.proofs.name.field_named.Goals as goal

pub returns : goal.returns
returns c =
    let word = c.args.word.now in
    c.field_in.ensures ∙ sym (position-map row_of (λ (r : Row). is_name word false r.name) c.fields.result.now)
    ∙ ap (position (λ (r : Row). is_name word false r.name)) c.fields.ensures.rows
