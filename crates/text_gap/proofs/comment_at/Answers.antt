-- `text_gap::comment_at` meets its contract: its tests in the definition's order. Assumes nothing.
use Prim.Native.Nat.{◌+◌}
use mathlib.Core.Path.{refl, sym, ap, ◌∙◌}
use native.Mathlib.Omega.{arith}
use lib.ListN.{length, get_or}
use Rattle.text_byte.specs.Bytes.{opens_line, opens_comment}
use Rattle.text_gap.specs.declared.Mode.TheVariants.{Between}
use Rattle.text_gap.proofs.Scans.{gap_more}
use Rattle.text_gap.proofs.GapRuns.{ends-behind, ends-between, ends-stop}
use Rattle.text_gap.proofs.comment_at.Goals as goal

pub returns-then-is_blank : goal.returns-then-is_blank
returns-then-is_blank c =
    let a = c.args in
    let text = a.text.now in
    let blank = sym c.is_blank.ensures ∙ c.if-is_blank.true in
    ends-between text Between a.at (a.at + 1) (gap_more text Between a.at (length text) c.requires (simp blank) refl refl) (omega arith)

pub returns-then-opens_line : goal.returns-then-opens_line
returns-then-opens_line c =
    let a = c.args in
    let text = a.text.now in
    let blank = sym c.is_blank.ensures ∙ c.if-is_blank.false in
    let line = ap (opens_line (get_or text a.at 0)) (sym c.byte_at-c.ensures) ∙ sym c.opens_line.ensures ∙ c.if-opens_line.true in
    ends-behind text Between a.at c.requires (simp (blank, line)) refl c.line_end.ensures

pub returns-then-opens_comment : goal.returns-then-opens_comment
returns-then-opens_comment c =
    let a = c.args in
    let text = a.text.now in
    let next = sym c.byte_at-c.ensures in
    let blank = sym c.is_blank.ensures ∙ c.if-is_blank.false in
    let line = ap (opens_line (get_or text a.at 0)) next ∙ sym c.opens_line.ensures ∙ c.if-opens_line.false in
    let comment = ap (opens_comment (get_or text a.at 0)) next ∙ sym c.opens_comment.ensures ∙ c.if-opens_comment.true in
    ends-behind text Between a.at c.requires (simp (blank, line, comment)) refl c.comment_end.ensures

pub returns : goal.returns
returns c =
    let a = c.args in
    let text = a.text.now in
    let next = sym c.byte_at-c.ensures in
    let blank = sym c.is_blank.ensures ∙ c.if-is_blank.false in
    let line = ap (opens_line (get_or text a.at 0)) next ∙ sym c.opens_line.ensures ∙ c.if-opens_line.false in
    let comment = ap (opens_comment (get_or text a.at 0)) next ∙ sym c.opens_comment.ensures ∙ c.if-opens_comment.false in
    ends-stop text Between a.at c.requires (simp (blank, line, comment))
