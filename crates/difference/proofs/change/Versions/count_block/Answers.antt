-- `difference::change::Versions::count_block` meets its contract: none of a block that is the same, or those that the test passes. Assumes nothing.
use Rattle.std.proofs.Common.{rules, arith, ℕ, ◌+◌, Bool, ◌≡◌, sym, ap, ◌∙◌, length}
use Rattle.std.proofs.lemmas.Iterator.{YieldsList-from_range}
use Rattle.std.proofs.lemmas.Iterator.Consumers.{count_from_yields_List, YieldsList-from_filter}
use borrow.Author.Tests.{tests}
use Rattle.std.specs.List.{range_with_len, filter}
use Rattle.difference.specs.Records.{changed}
use Rattle.difference.proofs.Comparing.{counted, from-none}
use Rattle.difference.proofs.change.Versions.count_block.Goals as goal

pub returns-then-same_block : goal.returns-then-same_block
returns-then-same_block c =
    let v = c.args.self.now in
    sym (ap length (from-none v.size v.old.now v.new.now c.args.i c.args.n (c.same_block.ensures c.if-same_block.true)))

pub returns : goal.returns
returns c =
    let v = c.args.self.now in
    let test : ℕ → Bool = changed v.size v.old.now v.new.now in
    let passed : c.count.result ≡ length (filter test (range_with_len c.args.i c.args.n)) =
    count_from_yields_List c.filter.result _ c.count.ensures.ran
    (YieldsList-from_filter _ test (YieldsList-from_range c.args.i (c.args.i + c.args.n) c.args.n (cc) (omega arith)) c.filter.ensures.closure (λ x r q k. search (rules, tests))) in
    passed ∙ counted test c.args.i c.args.n
