-- `text_value::word_read` meets its contract. Assumes nothing.
use mathlib.Core.Path.{sym, ◌∙◌}
use Rattle.text_value.proofs.Forms.{hex_form}
use Rattle.text_value.proofs.word_read.Goals as goal

pub returns-then-is_hex : goal.returns-then-is_hex
returns-then-is_hex c =
    simp (sym c.is_true.ensures ∙ c.if-is_true.false, sym c.is_false.ensures ∙ c.if-is_false.false)
    (c.hex_read.ensures ∙ hex_form c.args.word.now (sym c.is_hex.ensures ∙ c.if-is_hex.true))
