-- `renumber::renumber_nodes` meets its contract: the search is lent the first words, and these are cleared after everything. Assumes nothing.
use Rattle.std.proofs.Common.{rules, ◌≡◌, ap, ◌∙◌, length, eqb, Ok, Err}
use Rattle.refusal.specs.Checks.{Check, unless}
use Rattle.refusal.specs.declared.Refusal.TheVariants.{RenumberLength}
use Rattle.renumber.specs.Renumbering.{renumbering_of}
use Rattle.renumber.proofs.Outcomes.{renumbered-none}
use Rattle.renumber.proofs.renumber_nodes.Goals as goal

pub returns-in_err-pass_if-clause-nodes_renumbered : goal.returns-in_err-pass_if-clause-nodes_renumbered
returns-in_err-pass_if-clause-nodes_renumbered c =
    let a = c.args in
    let e : c.from_residual.result ≡ Err c.in_err-pass_if.field-0.0 = search rules in
    let k : ◌≡◌ {A = Check} (Err c.in_err-pass_if.field-0.0) (unless (eqb (length a.order.now) 0) RenumberLength) = search rules in
    renumbered-none a.nodes.now a.order.now a.out.now c.if-count-eq0.true (e ∙ ap (λ (k : Check). renumbering_of k 0) k)

pub returns-then-count-eq0-clause-nodes_renumbered : goal.returns-then-count-eq0-clause-nodes_renumbered
returns-then-count-eq0-clause-nodes_renumbered c =
    let a = c.args in
    let k : ◌≡◌ {A = Check} (Ok tt) (unless (eqb (length a.order.now) 0) RenumberLength) = search rules in
    renumbered-none a.nodes.now a.order.now a.out.now c.if-count-eq0.true (ap (λ (k : Check). renumbering_of k 0) k)
