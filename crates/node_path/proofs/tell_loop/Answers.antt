-- `node_path::tell_loop` meets its contract: the choices that the marks tell are the way into the loop. Assumes nothing.
use Rattle.node_graph.proofs.Words.{searchable}
use Rattle.node_path.proofs.Found.{loop-printable, loop-printed}
use Rattle.node_path.proofs.tell_loop.Goals as goal

pub print_if-requires : goal.print_if-requires
print_if-requires c =
    loop-printable _ _ _ c.requires.1 _ _ (searchable c.args.graph.now c.requires.0)

pub returns : goal.returns
returns c =
    loop-printed _ _ _ c.requires.1 _ _ c.print_if.ensures
