-- `text_token::quote_end` meets its contract: from `at` on, where a quote or a backslash stands, the string ends where it ends from `from` on.
-- The measure is what is left. Assumes nothing.
use mathlib.Core.Bool.{false}
use mathlib.Core.Path.{sym, ◌∙◌}
use native.Mathlib.Omega.{arith}
use borrow.Author.Tests.{eq-eqb, ne_eqb}
use lib.Dec.{eqb}
use lib.ListN.{get_or, length}
use Rattle.text_byte.specs.Bytes.{double_quote, backslash}
use Rattle.text_token.proofs.Scans.{quote_stop, quote_done}
use Rattle.text_token.proofs.QuoteRuns.{other, quote_last, quote_taken}
use Rattle.text_token.proofs.quote_end.Goals as goal

pub returns-then-text-at-eq-DOUBLE_QUOTE : goal.returns-then-text-at-eq-DOUBLE_QUOTE
returns-then-text-at-eq-DOUBLE_QUOTE c =
    let text = c.args.text.now in
    sym (c.loop-at.invariant.0 ∙ quote_stop text false c.loop-at.at (length text) c.loop-at-test.true (eq-eqb _ _ c.if-text-at-eq-DOUBLE_QUOTE.true))

pub returns-then-text-at-eq1 : goal.returns-then-text-at-eq1
returns-then-text-at-eq1 c =
    let text = c.args.text.now in
    sym (c.loop-at.invariant.0 ∙ quote_last text c.loop-at.at c.if-text-at-eq1.true (ne_eqb _ _ c.if-text-at-eq-DOUBLE_QUOTE.false))

pub loop-at-preserved : goal.loop-at-preserved
loop-at-preserved c =
    let text = c.args.text.now in
    let b = get_or text c.loop-at.at 0 in
    let inside = c.loop-at-test.true in
    let plain = ne_eqb b double_quote c.if-text-at-eq-DOUBLE_QUOTE.false in (
      c.loop-at.invariant.0 ∙ quote_taken text c.loop-at.at (omega (arith, inside, c.if-text-at-eq1.false)) plain (other (eqb b double_quote) (eqb b backslash) (c.loop-at.invariant.1 inside) plain)
          ∙ c.string_run-at-in-loop-at.ensures.same,
      c.string_run-at-in-loop-at.ensures.stops,
    )

pub returns : goal.returns
returns c = sym (c.loop-at.invariant.0 ∙ quote_done _ _ _ _ c.loop-at-test.false)
