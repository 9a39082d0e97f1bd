-- `sidedefs_stream::feed` meets its contract: nothing, a full state, and a scrap after the sector that it may complete. Assumes nothing.
use mathlib.Core.Path.{ap, sym, ◌∙◌}
use borrow.Author.Rules.{rules}
use Rattle.sidedefs_stream.specs.declared.Stream.{Stream}
use Rattle.sidedefs_stream.specs.Scraps.{fed}
use Rattle.sidedefs_stream.proofs.Scraps.{fed-empty, fed-full, fed_cons}
use Rattle.sidedefs_stream.proofs.feed.Goals as goal

pub returns-in_default : goal.returns-in_default
returns-in_default c = let a = c.args in fed-empty a.state a.scrap.now (search rules)

pub returns-then-state-gt-MOST_BYTES : goal.returns-then-state-gt-MOST_BYTES
returns-then-state-gt-MOST_BYTES c = let a = c.args in sym (fed-full a.state a.scrap.now (search rules))

pub returns-then-state-eq-HIGH : goal.returns-then-state-eq-HIGH
returns-then-state-eq-HIGH c =
    let a = c.args in
    let first = c.in-Some.first.now in
    let rest = c.in-Some.rest.now in
    let whole = c.in-Some.ensures.cases.0 in
    c.feed_records.ensures
    ∙ ap (λ (s : Stream). fed s rest) c.step.ensures
    ∙ sym (fed_cons a.state first rest)
    ∙ ap (fed a.state) (sym whole)
