-- `draw_order::Camera::list_all` meets its contract: a list in the first words is in front of the others. Assumes nothing.
use mathlib.Core.Path.{sym, ◌∙◌}
use Rattle.draw_order.proofs.Words.{walked-kept}
use Rattle.draw_order.proofs.Camera.list_all.Goals as goal

pub returns-else-is_err-clause-words_after : goal.returns-else-is_err-clause-words_after
returns-else-is_err-clause-words_after c =
    (walked-kept c.args.self.now.nodes.now _ _ _ _ _ (sym c.is_err.ensures.value ∙ c.if-is_err.false) c.walk_root-listed.ensures).1
