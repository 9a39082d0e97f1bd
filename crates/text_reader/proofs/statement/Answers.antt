-- `text_reader::statement` meets its contract: a name leads on to what follows it; anything else ends a block, the text, or the
-- reading. Assumes nothing.
use mathlib.Core.Path.{◌≡◌, refl, sym, ap, subst}
use Rattle.text_step.specs.declared.Parse.{Parse}
use Rattle.text_step.specs.Steps.{on_statement}
use Rattle.text_reader.specs.Texts.{is_more}
use Rattle.text_reader.specs.Inner.{last, Rests}
use Rattle.text_reader.proofs.Leading.{end_rests, stepped, on_then}
use Rattle.text_reader.proofs.statement.Goals as goal

pub returns-in-Ok-clause-leads : goal.returns-in-Ok-clause-leads
returns-in-Ok-clause-leads c =
    let a = c.args in
    let t = c.in-Ok.t in
    let named = c.in-Ok.ensures.ok in
    let on = c.goes_on-named in
    let e : on.result ≡ on_statement a.text.now a.asked a.places.now a.s t = simp named.1 on.ensures in
    on_then a.text.now a.asked a.s on.result c.behind_name.result a.places.now a.places.now _ c.requires.wanted_value.0 refl named.0 e refl
    (ap (λ (r : Parse). r.notes.found) on.ensures) c.behind_name.ensures.reads_on a.kept.now

pub returns-in-Err-clause-leads : goal.returns-in-Err-clause-leads
returns-in-Err-clause-leads c =
    let a = c.args in
    let t = c.in-Err.t in
    let other = c.in-Err.ensures.err in
    let end = c.on_end-after in
    let e : end.result ≡ on_statement a.text.now a.asked a.places.now a.s t = simp other.1 end.ensures in
    last _ _ (ap is_more c.requires.wanted_value.0)
    (stepped a.text.now a.asked a.s a.places.now a.kept.now c.requires.wanted_value.0 other.0 e refl c.keep.ensures)

pub returns-in-Err-clause-rests : goal.returns-in-Err-clause-rests
returns-in-Err-clause-rests c =
    let a = c.args in
    let end = c.on_end-after in (
      subst (λ (r : Parse). Rests r.wanted) (sym end.ensures) (end_rests a.asked a.places.now a.s c.in-Err.t),
      c.requires.places_len,
    )
