-- The proof of the cycle of calls {walk_child, walk_node}: each answer is a case of the list of a child or of a node. Assumes nothing.
use Prim.Native.Nat.{ℕ, suc, ◌-◌}
use mathlib.Core.List.{List}
use mathlib.Core.Path.{◌≡◌, refl, sym, ap, ◌∙◌}
use native.Mathlib.Omega.{arith}
use borrow.Author.Rules.{rules}
use lib.IntN.{ℤ}
use Rattle.refusal.specs.declared.Refusal.{Refusal}
use Rattle.node.specs.declared.Choice.{Choice}
use Rattle.node_descent.specs.Side.{side_at}
use Rattle.std.specs.Prelude.{Result, Ok, Err}
use Rattle.draw_order.specs.Lists.{Listing, other, joined, node_order, child_order}
use Rattle.draw_order.specs.Inner.{Walked}
use Rattle.draw_order.proofs.Lists.{node-none, node-more}
use Rattle.draw_order.proofs.Words.{walked_by, walked-refused, walked-joined}
use Rattle.draw_order.proofs.Camera.+walk_child_walk_node.Goals as goal

-- a node's walk from those of its children
module _ (nodes : List ℕ) (subsectors : ℕ) (x y : ℤ) (more less at i : ℕ) (one : suc less ≡ more)
    (choice : Choice) (side : choice ≡ side_at nodes x y i) (before middle after : List ℕ) where
  abbrev far : ℕ → Listing
  far next = child_order nodes subsectors x y less next i (other (side_at nodes x y i))

  abbrev steps : joined at (child_order nodes subsectors x y less at i (side_at nodes x y i)) far ≡ node_order nodes subsectors x y more at i
  steps =
      sym (node-more nodes subsectors x y less at i)
      ∙ ap (λ (m : ℕ). node_order nodes subsectors x y m at i) one

  abbrev first : (answer : Result ℕ Refusal) → Walked (child_order nodes subsectors x y less at i choice) at before answer middle
      → Walked (child_order nodes subsectors x y less at i (side_at nodes x y i)) at before answer middle
  first answer w = walked_by at before answer middle (λ j. child_order nodes subsectors x y less at i (side j)) w

  node-refused : (r : Refusal) → Walked (child_order nodes subsectors x y less at i choice) at before (Err r) middle
      → Walked (node_order nodes subsectors x y more at i) at before (Err r) middle
  node-refused r w =
      walked_by at before (Err r) middle steps
      (walked-refused at before middle middle far _ r (first (Err r) w))

  node-joined : (n : ℕ) (answer : Result ℕ Refusal) (choice2 : Choice) → choice2 ≡ other choice
      → Walked (child_order nodes subsectors x y less at i choice) at before (Ok n) middle
      → Walked (child_order nodes subsectors x y less n i choice2) n middle answer after
      → Walked (node_order nodes subsectors x y more at i) at before answer after
  node-joined n answer choice2 e w v =
      let second = e ∙ ap other side in
      walked_by at before answer after steps
      (walked-joined at before middle after far _ n answer (first (Ok n) w)
      (walked_by n middle answer after (λ j. child_order nodes subsectors x y less n i (second j)) v))

pub walk_node-returns-then-more-eq0 : goal.walk_node-returns-then-more-eq0
walk_node-returns-then-more-eq0 t c =
    let a = c.args in
    let p = a.self.now in
    walked_by a.at a.words.now _ _
    (sym
    (ap (λ (more : ℕ). node_order p.nodes.now p.subsectors p.x p.y more a.at a.node) c.if-more-eq0.true
    ∙ node-none p.nodes.now p.subsectors p.x p.y a.at a.node))
    refl

pub walk_node-returns-in_err-next : goal.walk_node-returns-in_err-next
walk_node-returns-in_err-next t c =
    let a = c.args in
    let p = a.self.now in
    let is : ◌≡◌ {A = Result ℕ Refusal} c.from_residual.result (Err c.in_err-next.field-0.0) = search rules in
    rw is
    (node-refused p.nodes.now p.subsectors p.x p.y a.more (a.more - 1) a.at a.node (omega arith) _ c.side_at-near.ensures
    a.words.now c.walk_child.new.words a.words.now _ c.in_err-next.ensures)

pub walk_node-returns : goal.walk_node-returns
walk_node-returns t c =
    let a = c.args in
    let p = a.self.now in
    node-joined p.nodes.now p.subsectors p.x p.y a.more (a.more - 1) a.at a.node (omega arith) _ c.side_at-near.ensures
    a.words.now c.walk_child.new.words c.walk_child-2.new.words c.in_ok-next.next _ _ c.other.ensures c.in_ok-next.ensures
    c.walk_child-2.ensures
