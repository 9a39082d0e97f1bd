-- `hazard::segs::take_range` meets its contract. The loop's invariant: no seg before `seg` was noted already, and all
-- are now. Assumes nothing.
use mathlib.Core.Path.{sym, ◌∙◌}
use borrow.Author.Rules.{rules}
use Rattle.hazard.proofs.SegsTaken.{range_none, range_again, range_on}
use Rattle.hazard.proofs.segs.take_range.Goals as goal

pub loop-seg-init : goal.loop-seg-init
loop-seg-init c = (search rules, search rules, range_none c.args.first c.args.taken.now (search rules))

pub returns-then-note : goal.returns-then-note
returns-then-note c =
    let l = c.loop-seg in
    range_again c.args.first c.args.taken.now l.seg l.invariant.0 l.taken l.invariant.2 (search rules) c.args.end (search rules)
    (sym c.note.ensures.value ∙ c.if-note.true)

pub loop-seg-preserved : goal.loop-seg-preserved
loop-seg-preserved c =
    let l = c.loop-seg in
    let on =
    range_on c.args.first c.args.taken.now l.seg l.invariant.0 l.taken l.invariant.2 (search rules)
    (sym c.note.ensures.value ∙ c.if-note.false) in
    (search rules, search rules, rw c.note.ensures.notes_after on)
