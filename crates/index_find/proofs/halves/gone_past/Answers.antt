-- One comparison leaves a smaller search, and tells of the last record gone past. Assumes nothing.
use Prim.Native.Nat.{ℕ, ◌+◌, ◌-◌, ◌/◌}
use mathlib.Core.Bool.{Bool, false, not}
use mathlib.Core.List.{List}
use mathlib.Core.Path.{◌≡◌, sym, ap, ◌∙◌, subst}
use native.Mathlib.Omega.{arith}
use borrow.Author.Rules.{rules}
use Rattle.std.specs.Bool.{then_some}
use Rattle.index.specs.Records.{padded, below_from}
use Rattle.index_find.specs.Finding.{name_in, not_above, is_equal}
use Rattle.index_find.specs.Inner.{comparison, last_if}
use Rattle.index_find.proofs.Comparing.{told_above, told_equal}
use Rattle.index_find.proofs.Turns.{Searching, searching_after, searching_before, searching_done, last_more}
use Rattle.index_find.proofs.halves.gone_past.Goals as goal
use Rattle.index_find.proofs.halves.gone_past.Goals.{After-compare-order}

-- the record behind half of what is left
order : (c : After-compare-order)
    → c.compare-order.result ≡ comparison c.args.at.now.index.now (padded c.args.name.now) (c.loop-left.past + c.loop-left.left / 2)
order c =
    c.compare-order.ensures
    ∙ ap (λ (asked : List ℕ). comparison c.args.at.now.index.now asked (c.loop-left.past + c.loop-left.left / 2)) c.padded-asked.ensures

abbrev above : List ℕ → List ℕ → ℕ → Bool
above index name i = below_from 8 0 (padded name) (name_in index i) false

pub loop-left-preserved-then-is_gt : goal.loop-left-preserved-then-is_gt
loop-left-preserved-then-is_gt c =
    let a = c.args in
    let inv = c.loop-left.invariant in
    let i = c.loop-left.past + c.loop-left.left / 2 in
    let told = order (goal.at.loop-left-preserved-then-is_gt c).After-compare-order in
    let higher =
    told_above (above a.at.now.index.now a.name.now i) (is_equal a.at.now.index.now a.name.now i) told c.is_gt.ensures ∙ c.if-is_gt.true in
    (searching_before (not_above a.at.now.index.now a.name.now) inv.0 (search rules) (ap not higher), inv.1)

pub loop-left-preserved : goal.loop-left-preserved
loop-left-preserved c =
    let a = c.args in
    let l = c.loop-left in
    let low = not_above a.at.now.index.now a.name.now in
    let test = is_equal a.at.now.index.now a.name.now in
    let told = order (goal.at.loop-left-preserved c).After-compare-order in
    let i = l.past + l.left / 2 in
    let higher = told_above (above a.at.now.index.now a.name.now i) (test i) told c.is_gt.ensures ∙ c.if-is_gt.false in
    let equal = told_equal (above a.at.now.index.now a.name.now i) (test i) told higher c.is_eq.ensures in
    let past : l.past + l.left / 2 + 1 ≡ l.past + (l.left / 2 + 1) = omega arith in
    let left : l.left - l.left / 2 - 1 ≡ l.left - (l.left / 2 + 1) = omega arith in (
      subst (λ (k : ℕ). Searching low a.at.now.count k (l.left - (l.left / 2 + 1)) (l.compared + 1)) past
          (subst (λ (k : ℕ). Searching low a.at.now.count (l.past + l.left / 2 + 1) k (l.compared + 1)) left
          (searching_after low l.invariant.0 (search rules) (ap not higher))),
      c.then_some-last.ensures ∙ ap (λ (b : Bool). then_some b (l.past + l.left / 2)) (sym equal) ∙ last_more test (l.past + l.left / 2)
          ∙ ap (last_if test) past,
    )

pub returns-clause-gone : goal.returns-clause-gone
returns-clause-gone c =
    let a = c.args in
    let l = c.loop-left in
    let done = searching_done (not_above a.at.now.index.now a.name.now) l.invariant.0 (search rules) in
    let last = l.invariant.1 ∙ ap (last_if (is_equal a.at.now.index.now a.name.now)) done.0 in
    λ i. record { last = last i; compared = done.1 i }
