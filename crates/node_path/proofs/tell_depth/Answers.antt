-- `node_path::tell_depth` meets its contract: a shared child is told by nothing, and otherwise the choices that the heights tell are the
-- route. Assumes nothing.
use mathlib.Core.Path.{sym, ◌∙◌}
use Rattle.node_graph.proofs.Words.{searchable}
use Rattle.node_graph.proofs.Sharing.{answers-shared, answers_depth}
use Rattle.node_path.proofs.Found.{route_printable, route-printed, shared-printed}
use Rattle.node_path.proofs.tell_depth.Goals as goal

pub returns-then-shares : goal.returns-then-shares
returns-then-shares c =
    shared-printed _ (answers-shared _ _ _ _ (searchable c.args.graph.now c.requires.0) c.requires.1 (sym c.shares.ensures ∙ c.if-shares.true)) _

pub print_if-requires : goal.print_if-requires
print_if-requires c =
    let shares = sym c.shares.ensures ∙ c.if-shares.false in
    route_printable _ _ _ c.requires.1 (answers_depth _ _ _ _ (searchable c.args.graph.now c.requires.0) c.requires.1 shares) _ _ (searchable c.args.graph.now c.requires.0)

pub returns : goal.returns
returns c =
    let shares = sym c.shares.ensures ∙ c.if-shares.false in
    route-printed _ _ _ c.requires.1 (answers_depth _ _ _ _ (searchable c.args.graph.now c.requires.0) c.requires.1 shares) _ _ c.print_if.ensures
