-- `node_graph::NodeGraph::shared_or_deep` meets its contract: what the pass over the children finds is what the verdict asks. Assumes nothing.
use mathlib.Core.Path.{sym, ◌∙◌}
use Rattle.node_graph.proofs.Words.{searchable}
use Rattle.node_graph.proofs.Sharing.{answers-shared, answers_depth}
use Rattle.node_graph.proofs.NodeGraph.shared_or_deep.Goals as goal

pub returns-then-shares : goal.returns-then-shares
returns-then-shares c =
    sym (answers-shared _ _ _ _ (searchable c.args.self.now c.requires.0) c.requires.1 (sym c.shares.ensures ∙ c.if-shares.true))

pub returns : goal.returns
returns c =
    sym (answers_depth _ _ _ _ (searchable c.args.self.now c.requires.0) c.requires.1 (sym c.shares.ensures ∙ c.if-shares.false))
