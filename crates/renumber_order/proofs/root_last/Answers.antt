-- `renumber_order::root_last` meets its contract, by the list's length. Assumes nothing.
use Prim.Native.Nat.{suc, ◌-◌, ◌<◌}
use mathlib.Core.Path.{◌≡◌, ◌∙◌, sym}
use native.Mathlib.Omega.{arith}
use borrow.Author.Rules.{rules}
use lib.Dec.{eqb}
use lib.ListN.{length, get_or}
use Rattle.node.specs.Nodes.{root}
use Rattle.node.proofs.Nodes.{root-last}
use Rattle.renumber_order.proofs.Checking.{last_at}
use Rattle.renumber_order.proofs.root_last.Goals as goal

pub returns-in-Some : goal.returns-in-Some
returns-in-Some c =
    let order = c.args.order.now in
    let some : 0 < length order = search (rules, c.in-Some.ensures.item) in
    let is : c.in-Some.field-0.now ≡ get_or order (length order - 1) 0 = search (rules, c.in-Some.ensures.value) in
    let long : length order ≡ suc (length order - 1) = omega arith in
    (λ i. eqb (is i) (sym (root-last c.args.count c.requires) i))
    ∙ last_at (root c.args.count) order (length order - 1) long
