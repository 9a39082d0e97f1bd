-- `draw_order::draw_order` meets its contract: 40, 41 and 45, and then the list. Assumes nothing.
use Prim.Native.Nat.{ℕ}
use mathlib.Core.Path.{◌≡◌, sym, ◌∙◌}
use borrow.Author.Rules.{rules}
use mir.Syntax.{w16}
use mir.ValLaws.{to_z-of_z}
use Rattle.refusal.specs.declared.Refusal.{Refusal}
use Rattle.std.specs.Prelude.{Result, Err}
use Rattle.draw_order.specs.Lists.{root_order}
use Rattle.draw_order.specs.Promises.{order_answer, words_after_listing}
use Rattle.draw_order.proofs.Words.{drawn-refused, drawn_passed}
use Rattle.draw_order.proofs.draw_order.Goals as goal

pub returns-in_err-check_lent : goal.returns-in_err-check_lent
returns-in_err-check_lent c =
    let a = c.args in
    let is : ◌≡◌ {A = Result ℕ Refusal} c.from_residual.result (Err c.in_err-check_lent.field-0.0) = search rules in
    rw is (drawn-refused a.nodes.now a.subsectors a.x a.y a.words.now (sym c.in_err-check_lent.ensures))

pub returns : goal.returns
returns c =
    let a = c.args in
    let x = to_z-of_z w16 a.x c.ranges.x in
    let y = to_z-of_z w16 a.y c.ranges.y in
    let list = c.list_all in
    drawn_passed a.nodes.now a.subsectors a.x a.y a.words.now (sym c.in_ok-check_lent.ensures)
    (list.ensures.value ∙ (λ i. order_answer (root_order a.nodes.now a.subsectors (x i) (y i))))
    (list.ensures.words_after ∙ (λ i. words_after_listing a.nodes.now (root_order a.nodes.now a.subsectors (x i) (y i)) a.words.now))
