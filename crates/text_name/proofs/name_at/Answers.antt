-- `text_name::name_at` meets its contract: behind the white space letters and digits are a word, or `token_at` says. Assumes nothing.
use mathlib.Core.Bool.{and-eq-true_iff}
use mathlib.Core.Path.{sym, ap, ◌∙◌}
use borrow.Author.Tests.{ltb-true}
use lib.Dec.{ltb}
use Rattle.text_token.proofs.Tokens.{token_at_blanks}
use Rattle.text_name.specs.Identifiers.{is_identifier}
use Rattle.text_name.proofs.Identifiers.{token_at-name, identifier_name, Named, named}
use Rattle.text_name.proofs.name_at.Goals as goal
use Rattle.text_name.proofs.name_at.Goals.{After-name_if, After-name_if-2}

-- letters and digits up to a byte that ends any word
quick : (c : After-name_if) → Named c.args.text.now c.args.from c.name_if.result
quick c =
    let text = c.args.text.now in
    let at = c.blank_end-at in
    let end = c.name_end-end in
    let inside = c.if-end-text.true in
    let both = (and-eq-true_iff (ltb at.result end.result) c.stops_word.result).0 c.if-at-end.true in
    let some = ltb-true at.result end.result both.0 in
    let w = c.word_to.ensures in
    named text c.args.from c.name_if.ensures
    (w ∙ token_at-name text at.result end.ensures some inside (sym c.stops_word.ensures ∙ both.1) ∙ sym (token_at_blanks text c.args.from at.ensures))
    (c.is_letter-good.ensures ∙ identifier_name text at.result end.ensures some inside ∙ ap (is_identifier text) (sym w))

-- any other token
slow : (c : After-name_if-2) → Named c.args.text.now c.args.from c.name_if-2.result
slow c =
    let text = c.args.text.now in
    named text c.args.from c.name_if-2.ensures (c.token_at-t.ensures.value ∙ sym (token_at_blanks text c.args.from c.blank_end-at.ensures)) c.is_identifier.ensures

pub returns-then-at-end-clause-ok : goal.returns-then-at-end-clause-ok
returns-then-at-end-clause-ok c = (quick c).ok

pub returns-then-at-end-clause-err : goal.returns-then-at-end-clause-err
returns-then-at-end-clause-err c = (quick c).err

pub returns-then-at-end-clause-placed : goal.returns-then-at-end-clause-placed
returns-then-at-end-clause-placed c = (quick c).placed

pub returns-clause-ok : goal.returns-clause-ok
returns-clause-ok c = (slow c).ok

pub returns-clause-err : goal.returns-clause-err
returns-clause-err c = (slow c).err

pub returns-clause-placed : goal.returns-clause-placed
returns-clause-placed c = (slow c).placed
