-- `node_descent::descend` meets its contract: 40, 41, and then the descent from the root. Assumes nothing.
use mathlib.Core.Path.{sym, ◌∙◌}
use borrow.Author.Rules.{rules}
use mir.Syntax.{w16}
use mir.ValLaws.{to_z-of_z}
use Rattle.refusal.proofs.Checks.{unless_pass}
use Rattle.node.specs.Nodes.{nodes_of, root}
use Rattle.node_descent.specs.Walks.{descent_from, descent}
use Rattle.node_descent.proofs.Walks.{descent-root}
use Rattle.node_descent.proofs.descend.Goals as goal

pub returns-in_err-pass_if : goal.returns-in_err-pass_if
unfolding descent
returns-in_err-pass_if c = search rules

pub returns-in_err-pass_if-2 : goal.returns-in_err-pass_if-2
unfolding descent
returns-in_err-pass_if-2 c = search rules

pub returns : goal.returns
returns c =
    let a = c.args in
    let x = to_z-of_z w16 a.x c.ranges.x in
    let y = to_z-of_z w16 a.y c.ranges.y in
    let count = nodes_of a.nodes.now in
    c.descend_from_root.ensures
    ∙ (λ i. descent_from a.nodes.now a.subsectors (x i) (y i) count 0 (root count))
    ∙ sym (descent-root _ _ _ _ (sym c.nodes_ok.ensures ∙ unless_pass _ _ (sym c.in_ok-pass_if.ensures))
    (sym c.subsectors_ok.ensures ∙ unless_pass _ _ (sym c.in_ok-pass_if-2.ensures)))
