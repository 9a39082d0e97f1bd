-- `name::name_ok` meets its contract. The loop's invariant: the first `i` bytes are good characters. Assumes nothing.
use mathlib.Core.Path.{sym, ◌∙◌}
use borrow.Author.Rules.{rules}
use Rattle.name.proofs.Rows.{good_more}
use Rattle.name.proofs.name_ok.Goals as goal

pub loop-i-preserved : goal.loop-i-preserved
loop-i-preserved c =
    let l = c.loop-i in
    good_more c.args.name.now l.i (search rules) l.invariant (sym c.character_ok.ensures ∙ c.if-not-character_ok.false)
