-- `node_descent::descend_from_root` meets its contract: each end is the definition's with the choices that are left. Assumes nothing.
use mathlib.Core.Path.{◌≡◌, sym, ◌∙◌}
use native.Mathlib.Omega.{arith}
use borrow.Author.Rules.{rules}
use mir.Syntax.{w16}
use mir.Val.{to_z, of_z}
use mir.ValLaws.{to_z-of_z}
use Rattle.refusal.proofs.Checks.{unless_pass, unless-refused, unless-named}
use Rattle.std.specs.Prelude.{Ok}
use Rattle.node.specs.Nodes.{nodes_of, root, child_ok}
use Rattle.node_descent.specs.Side.{chosen}
use Rattle.node_descent.specs.Walks.{end_at, descent_from}
use Rattle.node.proofs.Nodes.{nodes_of-whole, child_ok-node}
use Rattle.node_descent.proofs.Walks.{loop_end, loop_refused, turn_child, turn_goes}
use Rattle.node_descent.proofs.descend_from_root.Goals as goal
use Rattle.node_descent.proofs.descend_from_root.Goals.{Start, After-child_ok}

-- the point's numbers are themselves where they are passed on
same : (e : Start)
    → (let a = e.args in
    descent_from a.nodes.now a.subsectors (to_z w16 (of_z w16 a.x)) (to_z w16 (of_z w16 a.y)) a.count 0 (root a.count)
    ≡ descent_from a.nodes.now a.subsectors a.x a.y a.count 0 (root a.count))
same e =
    let a = e.args in
    let x = to_z-of_z w16 a.x e.ranges.x in
    let y = to_z-of_z w16 a.y e.ranges.y in
    λ i. descent_from a.nodes.now a.subsectors (x i) (y i) a.count 0 (root a.count)

-- the test of the chosen child is the definition's
judged : (c : After-child_ok)
    → (let a = c.args in
    c.child_ok.result
    ≡ child_ok (nodes_of a.nodes.now) a.subsectors
    (chosen a.nodes.now (to_z w16 (of_z w16 a.x)) (to_z w16 (of_z w16 a.y)) c.loop-passed.word))
judged c =
    let count = nodes_of-whole c.args.nodes.now c.args.count c.requires in
    c.child_ok.ensures ∙ (λ i. child_ok (sym count i) c.args.subsectors (c.chosen_child-next.ensures i))

pub returns-then-word-ge-SUBSECTOR_BIT : goal.returns-then-word-ge-SUBSECTOR_BIT
returns-then-word-ge-SUBSECTOR_BIT c =
    (λ i. Ok (c.end_at.ensures i))
    ∙ loop_end _ _ _ _ _ _ _ c.loop-passed.invariant.2 c.if-word-ge-SUBSECTOR_BIT.true
    ∙ same (goal.at.returns-then-word-ge-SUBSECTOR_BIT c).Start

pub returns-in_err-pass_if : goal.returns-in_err-pass_if
returns-in_err-pass_if c =
    let at = goal.at.returns-in_err-pass_if c in
    let bad = unless-refused _ _ (sym c.in_err-pass_if.ensures) in
    let child =
    turn_child _ _ _ _ _ _ _ c.loop-passed.invariant.2 (omega (arith, c.loop-passed-test.true)) (omega (arith, c.if-word-ge-SUBSECTOR_BIT.false))
    (sym (judged at.After-child_ok) ∙ bad)
    ∙ same at.Start in
    search (rules, child, unless-named _ _ (sym c.in_err-pass_if.ensures))

pub loop-passed-preserved : goal.loop-passed-preserved
loop-passed-preserved c =
    let next = c.chosen_child-next.ensures in
    let ok = unless_pass _ _ (sym c.in_ok-pass_if.ensures) in (
      search rules,
      child_ok-node c.args.count c.args.subsectors _ (sym c.child_ok.ensures ∙ ok),
      rw next
          (turn_goes _ _ _ _ _ _ _ c.loop-passed.invariant.2 (omega (arith, c.loop-passed-test.true)) (omega (arith, c.if-word-ge-SUBSECTOR_BIT.false))
          (sym (judged (goal.at.loop-passed-preserved c).After-child_ok) ∙ ok)),
    )

pub returns-then-word-lt-SUBSECTOR_BIT : goal.returns-then-word-lt-SUBSECTOR_BIT
returns-then-word-lt-SUBSECTOR_BIT c =
    loop_refused _ _ _ _ _ _ _ c.loop-passed.invariant.2 (omega (arith, c.loop-passed-test.false)) c.if-word-lt-SUBSECTOR_BIT.true
    ∙ same (goal.at.returns-then-word-lt-SUBSECTOR_BIT c).Start

pub returns : goal.returns
returns c =
    let l = c.loop-passed in
    let last : c.args.count ≡ l.passed = omega (arith, l.invariant.0, c.loop-passed-test.false) in
    (λ i. Ok (c.end_at-2.ensures i))
    ∙ (λ i. Ok (end_at l.word (last i)))
    ∙ loop_end _ _ _ _ _ _ _ l.invariant.2 (omega (arith, c.if-word-lt-SUBSECTOR_BIT.false))
    ∙ same (goal.at.returns c).Start
