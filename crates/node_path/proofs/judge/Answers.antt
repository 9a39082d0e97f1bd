-- `node_path::judge` meets its contract: the search is lent the first words, and these are cleared after the list is printed.
-- Assumes nothing.
use mathlib.Core.Path.{◌≡◌, ◌∙◌}
use Rattle.node.specs.Nodes.{nodes_of}
use Rattle.node.proofs.Nodes.{nodes_of-whole}
use Rattle.node_path.proofs.Found.{none-printed}
use Rattle.node_path.proofs.judge.Goals as goal

pub returns-then-count-eq0-clause-way_printed : goal.returns-then-count-eq0-clause-way_printed
returns-then-count-eq0-clause-way_printed c =
    let none : nodes_of c.args.nodes.now ≡ 0 =
    nodes_of-whole c.args.nodes.now c.args.count c.requires.whole ∙ c.if-count-eq0.true in
    none-printed _ none _
