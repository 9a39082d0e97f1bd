-- `text_reader::read` meets its contract: what is left of the run answers, and the kind of the open block has room. Assumes nothing.
use mathlib.Core.Path.{refl, sym, ap, ◌∙◌, subst}
use Rattle.text_block.specs.Blocks.{is_full, no_places}
use Rattle.text_step.specs.declared.Parse.{Parse}
use Rattle.text_reader.specs.Texts.{Stand, stand}
use Rattle.text_reader.proofs.Leading.{RestOf, leads-rest, leads_less, leads-room}
use Rattle.text_reader.proofs.Runs.{rest-first, rest-done}
use Rattle.text_reader.proofs.read.Goals as goal

pub loop-asked-init : goal.loop-asked-init
loop-asked-init c =
    let a = c.args in
    let e = c.start_at-s.ensures in (
      subst (RestOf a.text.now a.asked a.from) (λ i. stand (sym e i) no_places (sym c.requires i)) (rest-first _ _ _ _ _),
      ap (λ (s : Parse). is_full s.notes.counts s.scope) e,
      λ _. ap (λ (s : Parse). s.wanted) e,
      refl,
    )

pub loop-asked-smaller : goal.loop-asked-smaller
loop-asked-smaller c = leads_less c.args.text.now c.args.asked c.statement-s.ensures.leads

pub loop-asked-preserved : goal.loop-asked-preserved
loop-asked-preserved c =
    let a = c.args in
    let inv = c.loop-asked.invariant in
    let next = c.statement-s.ensures in (
      leads-rest a.text.now a.asked next.leads inv.0,
      leads-room a.text.now a.asked next.leads inv.1,
      next.rests.0,
      next.rests.1,
    )

pub returns : goal.returns
returns c =
    let l = c.loop-asked in
    let e = rest-done _ _ _ _ l.invariant.0 (sym c.is_more.ensures ∙ c.loop-asked-test.false) in
    record { value = ap (λ (x : Stand). x.parse) e; kept_after = ap (λ (x : Stand). x.kept) e }
