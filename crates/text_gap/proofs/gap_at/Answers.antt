-- `text_gap::gap_at` meets its contract: over white space the gap goes on, and behind it a token begins or the gap is read. Assumes nothing.
use mathlib.Core.Path.{sym, ◌∙◌}
use Rattle.text_gap.proofs.GapRuns.{blanks_same, token-starts}
use Rattle.text_gap.proofs.gap_at.Goals as goal

pub returns-then-starts_token : goal.returns-then-starts_token
returns-then-starts_token c =
    let a = c.args in
    let b = c.blank_end-at in
    sym (blanks_same a.text.now a.from b.ensures ∙ token-starts a.text.now b.result (sym c.starts_token.ensures ∙ c.if-starts_token.true))

pub returns : goal.returns
returns c =
    let a = c.args in
    c.read_gap.ensures ∙ sym (blanks_same a.text.now a.from c.blank_end-at.ensures)
