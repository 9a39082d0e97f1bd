-- `text_token::mark_at` meets its contract: behind the white space the mark is the token, or `token_at` says. Assumes nothing.
use Prim.Native.Nat.{◌+◌}
use mathlib.Core.Path.{◌≡◌, sym, ◌∙◌}
use Rattle.text_token.specs.Tokens.{mark_form, token}
use Rattle.text_token.proofs.Tokens.{placed_as, token_at_blanks, token_at_mark}
use Rattle.text_token.proofs.mark_at.Goals as goal

pub returns-then-text-at-clause-value : goal.returns-then-text-at-clause-value
returns-then-text-at-clause-value c =
    let a = c.args in
    let b = c.blank_end-at in
    let text = a.text.now in
    let form : token c.mark_form.result b.result (b.result + 1) (b.result + 1) ≡ token (mark_form a.mark) b.result (b.result + 1) (b.result + 1) = λ i. token (c.mark_form.ensures i) b.result (b.result + 1) (b.result + 1) in
    let e = form ∙ token_at_mark text b.result c.if-at-text.true c.if-text-at.true c.requires
    ∙ sym (token_at_blanks text a.from b.ensures) in
    e

pub returns-then-text-at-clause-placed : goal.returns-then-text-at-clause-placed
returns-then-text-at-clause-placed c =
    let a = c.args in
    let b = c.blank_end-at in
    let text = a.text.now in
    let form : token c.mark_form.result b.result (b.result + 1) (b.result + 1) ≡ token (mark_form a.mark) b.result (b.result + 1) (b.result + 1) = λ i. token (c.mark_form.ensures i) b.result (b.result + 1) (b.result + 1) in
    let e = form ∙ token_at_mark text b.result c.if-at-text.true c.if-text-at.true c.requires
    ∙ sym (token_at_blanks text a.from b.ensures) in
    placed_as text a.from e

pub returns-clause-value : goal.returns-clause-value
returns-clause-value c =
    let a = c.args in
    let text = a.text.now in
    let e = c.token_at.ensures.value ∙ sym (token_at_blanks text a.from c.blank_end-at.ensures) in
    e

pub returns-clause-placed : goal.returns-clause-placed
returns-clause-placed c =
    let a = c.args in
    let text = a.text.now in
    let e = c.token_at.ensures.value ∙ sym (token_at_blanks text a.from c.blank_end-at.ensures) in
    placed_as text a.from e
