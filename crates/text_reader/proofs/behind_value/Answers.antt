-- `text_reader::behind_value` meets its contract: one token leads on. Assumes nothing.
use mathlib.Core.Bool.{Bool, cond}
use mathlib.Core.Path.{refl, sym, ap, ◌∙◌, subst}
use Rattle.text_token.specs.declared.Form.TheVariants.{Semicolon as SemicolonForm}
use Rattle.text_token.proofs.Forms.{form-same}
use Rattle.text_block.specs.Blocks.{stored}
use Rattle.text_reader.proofs.Leading.{Inside, semicolon-inside, on_last}
use Rattle.text_reader.proofs.behind_value.Goals as goal

pub returns-clause-reads_on : goal.returns-clause-reads_on
returns-clause-reads_on c =
    let s = c.args.s in
    let t = c.mark_at-t in
    let e = c.on_semicolon.ensures in
    let inside = subst (Inside s) (sym e) (semicolon-inside s t.result c.args.field c.args.place) in λ asked. on_last c.args.text.now asked s c.on_semicolon.result c.args.places.now _ c.requires.0 refl t.ensures.value e
    (c.store.ensures.places_after ∙ ap (λ (x : Bool). cond x (stored c.args.places.now c.args.field c.args.place) c.args.places.now) (c.eq.ensures ∙ form-same t.result.form SemicolonForm)) inside.found
