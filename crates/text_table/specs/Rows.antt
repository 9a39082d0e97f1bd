-- What only contracts of inner functions cite: the table as the code holds it. Assumes nothing.
use Rattle.text_table.specs.declared.field.Field.{Field}
use Rattle.text_table.specs.Table.{Row}

-- a field of the code as a row of the table
abbrev pub row_of : Field → Row
row_of f = record { name = f.name.now; holds = f.holds; default = f.default }
