-- `text_gap::comment_end` meets its contract: the star that opens a comment is passed. Assumes nothing.
use mathlib.Core.Path.{refl}
use Rattle.text_gap.specs.declared.Mode.TheVariants.{Opening}
use Rattle.text_gap.proofs.GapRuns.{ends_open, ends-behind}
use Rattle.text_gap.proofs.comment_end.Goals as goal

pub returns-then-text-from : goal.returns-then-text-from
returns-then-text-from c = let a = c.args in ends_open a.text.now Opening Opening a.from a.from refl refl c.if-text-from.true

pub returns : goal.returns
returns c =
    let a = c.args in
    ends-behind a.text.now Opening a.from c.if-text-from.false refl refl c.close_end.ensures
