-- `node_sharing::meets_again` meets its contract: a mark of 0 adds no child, and otherwise the right one comes before the left.
-- Assumes nothing.
use mathlib.Core.Path.{refl, sym, ◌∙◌}
use Rattle.node_sharing.proofs.Children.{seen_skip, met_right, met_left}
use Rattle.node_sharing.proofs.meets_again.Goals as goal

pub returns-then-marks-node-eq0 : goal.returns-then-marks-node-eq0
returns-then-marks-node-eq0 c = seen_skip _ _ _ _ c.requires.seen c.if-marks-node-eq0.true

pub returns-then-note : goal.returns-then-note
returns-then-note c =
    let right = c.child_of in
    met_right _ _ _ _ c.requires.seen c.if-marks-node-eq0.false _ _ right.ensures.0 refl right.ensures.1
    (sym c.note.ensures.value ∙ c.if-note.true)

pub returns : goal.returns
returns c =
    let right = c.child_of in
    let left = c.child_of-2 in
    rw (c.note-2.ensures.notes_after, c.note.ensures.notes_after)
    (met_left _ _ _ _ c.requires.seen c.if-marks-node-eq0.false _ _ right.ensures.0 left.ensures.0 right.ensures.1
    left.ensures.1
    (sym c.note.ensures.value ∙ c.if-note.false)
    _
    (rw c.note.ensures.notes_after at (sym c.note-2.ensures.value)))
