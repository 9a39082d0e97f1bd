-- `text_table::fields` meets its contract: each list of the code is that of the table. Assumes nothing.
use mathlib.Core.Path.{sym, ap}
use Rattle.text_table.specs.Table.{global_names, vertex_fields, linedef_fields, sidedef_fields, sector_fields, thing_fields, fields_of}
use Rattle.text_table.proofs.fields.Goals as goal

pub returns-in-Top-clause-rows : goal.returns-in-Top-clause-rows
unfolding global_names
returns-in-Top-clause-rows c = ap fields_of (sym c.in-Top.is)

pub returns-in-Vertex-clause-rows : goal.returns-in-Vertex-clause-rows
unfolding vertex_fields
returns-in-Vertex-clause-rows c = ap fields_of (sym c.in-Vertex.is)

pub returns-in-Linedef-clause-rows : goal.returns-in-Linedef-clause-rows
unfolding linedef_fields
returns-in-Linedef-clause-rows c = ap fields_of (sym c.in-Linedef.is)

pub returns-in-Sidedef-clause-rows : goal.returns-in-Sidedef-clause-rows
unfolding sidedef_fields
returns-in-Sidedef-clause-rows c = ap fields_of (sym c.in-Sidedef.is)

pub returns-in-Sector-clause-rows : goal.returns-in-Sector-clause-rows
unfolding sector_fields
returns-in-Sector-clause-rows c = ap fields_of (sym c.in-Sector.is)

pub returns-in-Thing-clause-rows : goal.returns-in-Thing-clause-rows
unfolding thing_fields
returns-in-Thing-clause-rows c = ap fields_of (sym c.in-Thing.is)
