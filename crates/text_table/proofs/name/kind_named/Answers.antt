-- `text_table::name::kind_named` meets its contract: the names of the code are those of the table. Assumes nothing.
use mathlib.Core.Path.{ap, ◌∙◌}
use Rattle.text_table.specs.Scopes.{scope_of}
use Rattle.text_table.specs.Table.{kind_names}
use Rattle.text_table.proofs.name.kind_named.Goals as goal

pub returns : goal.returns
unfolding kind_names
returns c = c.scope_of.ensures ∙ ap scope_of c.name_in.ensures
