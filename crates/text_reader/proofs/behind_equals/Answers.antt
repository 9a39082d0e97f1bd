-- `text_reader::behind_equals` meets its contract: a value that fits leads on to what follows it. Assumes nothing.
use mathlib.Core.Path.{refl, sym, ap, ◌∙◌}
use Rattle.text_step.specs.declared.Parse.{Parse}
use Rattle.text_step.specs.Steps.{judged}
use Rattle.text_reader.proofs.Leading.{on_last, on_then}
use Rattle.text_reader.proofs.behind_equals.Goals as goal

pub returns-in-Ok-clause-reads_on : goal.returns-in-Ok-clause-reads_on
returns-in-Ok-clause-reads_on c =
    let s = c.args.s in
    let t = c.token_at-t in
    let given = sym c.judge_value.ensures ∙ c.in-Ok.is in
    let on = c.goes_on-judged in λ asked. on_then c.args.text.now asked s on.result c.behind_value.result c.args.places.now c.args.places.now _ c.requires.0 refl
    t.ensures.value (on.ensures ∙ sym (ap (judged s t.result c.args.field) given)) refl (ap (λ (r : Parse). r.notes.found) on.ensures)
    (c.behind_value.ensures.reads_on asked)

pub returns-in-Err-clause-reads_on : goal.returns-in-Err-clause-reads_on
returns-in-Err-clause-reads_on c =
    let s = c.args.s in
    let t = c.token_at-t in
    let given = sym c.judge_value.ensures ∙ c.in-Err.is in
    let e = c.refused_with.ensures in λ asked. on_last c.args.text.now asked s c.refused_with.result c.args.places.now c.args.places.now c.requires.0 refl t.ensures.value
    (e ∙ sym (ap (judged s t.result c.args.field) given)) refl (ap (λ (r : Parse). r.notes.found) e)
