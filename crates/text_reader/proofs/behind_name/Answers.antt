-- `text_reader::behind_name` meets its contract: `=` leads on to what follows it, a brace into a block. Assumes nothing.
use Prim.Native.Nat.{ℕ}
use mathlib.Core.Bool.{Bool, cond}
use Rattle.std.specs.Prelude.{Option}
use mathlib.Core.Path.{◌≡◌, refl, sym, ap, ◌∙◌, subst}
use borrow.Author.Tests.{eqb-true}
use lib.Dec.{eqb}
use Rattle.text_token.specs.declared.Form.TheVariants.{OpenBrace, EqualsSign}
use Rattle.text_token.proofs.Forms.{form-same}
use Rattle.text_table.specs.Names.{field_named}
use Rattle.text_block.specs.Blocks.{no_places}
use Rattle.text_block.specs.declared.Wanted.TheVariants.{Value}
use Rattle.text_step.specs.declared.Parse.{Parse}
use Rattle.text_step.specs.Steps.{goes_on, on_brace, on_equals}
use Rattle.text_reader.proofs.Leading.{Inside, brace_inside, on_last, on_then}
use Rattle.text_reader.proofs.behind_name.Goals as goal

pub returns-then-eq-clause-reads_on : goal.returns-then-eq-clause-reads_on
returns-then-eq-clause-reads_on c =
    let a = c.args in
    let t = c.mark_at-t in
    let form = sym (form-same t.result.form EqualsSign) ∙ sym c.eq.ensures ∙ c.if-eq.true in
    let field = c.field_named-field.ensures ∙ ap (field_named a.s.scope) c.bytes_of-name.ensures in
    let on = c.goes_on-given in
    let e : on.result ≡ on_equals a.text.now a.asked a.s t.result a.start a.end =
    simp form (on.ensures ∙ ap (λ (k : Option ℕ). goes_on a.s t.result (Value k)) field) in on_then a.text.now a.asked a.s on.result c.behind_equals.result a.places.now a.places.now _ c.requires.0 refl t.ensures.value e
    (sym (ap (λ (f : ℕ). cond (eqb f 123) no_places a.places.now) (eqb-true _ _ form))) (ap (λ (r : Parse). r.notes.found) on.ensures)
    (c.behind_equals.ensures.reads_on a.asked)

pub returns-clause-reads_on : goal.returns-clause-reads_on
returns-clause-reads_on c =
    let a = c.args in
    let t = c.mark_at-t in
    let name = c.bytes_of-name.ensures in
    let form = sym (form-same t.result.form EqualsSign) ∙ sym c.eq.ensures ∙ c.if-eq.false in
    let e = c.on_brace.ensures ∙ ap (on_brace a.asked a.s t.result a.start) name in
    let inside = subst (Inside a.s) (sym e) (brace_inside a.asked a.s t.result a.start _) in on_last a.text.now a.asked a.s c.on_brace.result a.places.now _ c.requires.0 refl t.ensures.value
    (simp form e) (c.clear.ensures.places_after ∙ ap (λ (x : Bool). cond x no_places a.places.now) (c.eq-2.ensures ∙ form-same t.result.form OpenBrace)) inside.found

pub returns-clause-rests : goal.returns-clause-rests
returns-clause-rests c =
    let a = c.args in
    let inside = subst (Inside a.s) (sym c.on_brace.ensures) (brace_inside a.asked a.s c.mark_at-t.result a.start c.bytes_of-name.result.now) in
    (inside.rests, c.clear.ensures.places_len)
