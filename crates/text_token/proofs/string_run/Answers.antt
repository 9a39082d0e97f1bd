-- `text_token::string_run` meets its contract: a quote or backslash is met among the next bytes, or in a search of the rest.
-- Assumes nothing.
use Prim.Native.Nat.{◌+◌, ◌-◌, min}
use mathlib.Core.Path.{◌≡◌, refl, sym, ap, ◌∙◌}
use native.Mathlib.Omega.{arith}
use lib.Dec.{eqb}
use lib.ListN.{length, get_or}
use Rattle.text_byte.specs.Bytes.{double_quote, backslash}
use Rattle.text_byte.specs.Spans.{span_end}
use Rattle.text_byte.proofs.Fronts.{first_near}
use Rattle.text_byte.proofs.Near.{span_min}
use Rattle.text_token.proofs.QuoteRuns.{plain_at, runs_to}
use Rattle.text_token.proofs.string_run.Goals as goal

pub returns-then-text-from : goal.returns-then-text-from
returns-then-text-from c =
    let outside = c.if-text-from.true in
    record { same = refl; onward = omega arith; stops = λ h. absurd (omega (arith, outside, h)) }

pub returns-then-at-from : goal.returns-then-at-from
returns-then-at-from c =
    let text = c.args.text.now in
    let from = c.args.from in
    let next : 32 ≡ from + 32 - from = omega arith in
    let nearest =
    c.min-at.ensures ∙ (λ j. min (c.near_end-quote.ensures j) (c.near_end.ensures j))
    ∙ sym (span_min (λ i. eqb (get_or text i 0) double_quote) (λ i. eqb (get_or text i 0) backslash) 32 from)
    ∙ ap (span_end (plain_at text) from) next in
    let inside = c.if-text-from.false in
    runs_to text from (omega (arith, inside))
    (first_near (plain_at text) from (from + 32) (length text) (omega arith) (omega (arith, c.if-text-from-ge-NEAR.true, inside)) nearest c.if-at-from.true)

pub returns : goal.returns
returns c = runs_to c.args.text.now c.args.from (omega (arith, c.if-text-from.false)) c.far_end.ensures
