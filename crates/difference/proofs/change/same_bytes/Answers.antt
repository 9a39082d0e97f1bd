-- `difference::change::same_bytes` meets its contract: the bytes are the same where those from byte `i` on are. Assumes nothing.
use Rattle.std.proofs.Common.{rules, refl, sym, ◌∙◌, get_or}
use borrow.Author.Tests.{eq-eqb, ne_eqb}
use Rattle.difference.proofs.Comparing.{same_from, same_ended}
use Rattle.difference.proofs.change.same_bytes.Goals as goal

pub returns-then-old-i : goal.returns-then-old-i
returns-then-old-i c =
    let old = c.args.old.now in
    let new = c.args.new.now in
    let i = c.loop-i.i in
    sym (c.loop-i.invariant ∙ same_from old new i (search rules) (search rules) ∙ rw (ne_eqb (get_or old i 0) (get_or new i 0) c.if-old-i.true) refl)

pub loop-i-preserved : goal.loop-i-preserved
loop-i-preserved c =
    let old = c.args.old.now in
    let new = c.args.new.now in
    let i = c.loop-i.i in
    c.loop-i.invariant ∙ same_from old new i (search rules) (search rules) ∙ rw (eq-eqb (get_or old i 0) (get_or new i 0) c.if-old-i.false) refl

pub returns : goal.returns
returns c =
    let old = c.args.old.now in
    let new = c.args.new.now in
    sym (c.loop-i.invariant ∙ same_ended old new c.loop-i.i (search rules) (search rules))
