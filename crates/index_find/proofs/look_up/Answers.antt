-- `index_find::look_up` meets its contract: the last record gone past leads to the entry. Assumes nothing.
use mathlib.Core.Path.{ap, ◌∙◌}
use borrow.Author.Tests.{eq-eqb}
use lib.ListN.{length}
use Rattle.index_find.specs.declared.halves.GonePast.{GonePast}
use Rattle.index_find.specs.Finding.{not_above, past_by}
use Rattle.index_find.specs.Inner.{entry_of}
use Rattle.index_find.proofs.Turns.{entry_last}
use Rattle.index_find.proofs.look_up.Goals as goal

pub returns : goal.returns
returns c =
    let dir = c.args.at.now.dir.now in
    let count = c.args.at.now.count in
    let index = c.args.at.now.index.now in
    let name = c.args.name.now in
    let gone = c.gone_past-gone.ensures.gone in
    let marker =
    c.entry_of.ensures ∙ ap (λ (g : GonePast). entry_of dir count index name g.last) gone
    ∙ entry_last dir count index name (past_by (not_above index name) count 0 count) in
    let compared = ap (λ (g : GonePast). g.compared) gone in
    rw (eq-eqb (length name) 8 c.requires) (λ i. record { marker = marker i; compared = compared i })
