-- `text_gap::line_end` meets its contract: the newline ends the comment, or the text does. Assumes nothing.
use mathlib.Core.Path.{refl}
use Rattle.text_gap.specs.declared.Mode.TheVariants.{Line}
use Rattle.text_gap.proofs.GapRuns.{line_stays, line-closes, ends_open}
use Rattle.text_gap.proofs.line_end.Goals as goal

pub returns-then-at-text : goal.returns-then-at-text
returns-then-at-text c =
    line-closes c.args.text.now c.args.from c.byte_end-at.ensures c.requires c.if-at-text.true

pub returns : goal.returns
returns c =
    let e = c.byte_end-at in
    ends_open c.args.text.now Line Line c.args.from e.result refl (line_stays c.args.text.now c.args.from e.ensures c.requires).same c.if-at-text.false
