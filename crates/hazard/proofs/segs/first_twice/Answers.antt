-- `hazard::segs::first_twice` meets its contract. The loop's invariant: no subsector before `i` takes a seg again, and
-- their segs are noted. Assumes nothing.
use mathlib.Core.Bool.{Bool, not}
use mathlib.Core.Path.{refl, sym, ap, subst}
use borrow.Author.Rules.{rules}
use Rattle.hazard.specs.declared.Hazard.TheVariants.{SegTwice}
use Rattle.hazard.specs.Inner.{Took}
use Rattle.refusal.proofs.Scans.{scanned_none, scanned_more, scanned_stop}
use Rattle.hazard.specs.Findings.{found_unless}
use Rattle.hazard.proofs.segs.first_twice.Goals as goal
use Rattle.hazard.proofs.segs.first_twice.Goals.{After-take_segs}

-- what is answered of subsector `i`
abbrev Answer : After-take_segs → Bool → Type 0
Answer c r =
    Took c.args.subsectors.now c.loop-i.i r c.take_segs.new.taken

pub loop-i-init : goal.loop-i-init
loop-i-init c = (scanned_none, c.requires)

pub returns-then-take_segs : goal.returns-then-take_segs
returns-then-take_segs c =
    let again = subst (Answer (goal.at.returns-then-take_segs c).After-take_segs) c.if-take_segs.true c.take_segs.ensures in
    scanned_stop c.loop-i.invariant.0 (search rules) (sym (ap (λ (b : Bool). found_unless (not b) (SegTwice c.loop-i.i)) again)) refl

pub loop-i-preserved : goal.loop-i-preserved
loop-i-preserved c =
    let none = subst (Answer (goal.at.loop-i-preserved c).After-take_segs) c.if-take_segs.false c.take_segs.ensures in
    (scanned_more c.loop-i.invariant.0 (search rules) (sym (ap (λ (b : Bool). found_unless (not b) (SegTwice c.loop-i.i)) none.0)) refl, none.1)
