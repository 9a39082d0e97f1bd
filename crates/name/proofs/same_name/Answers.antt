-- `name::same_name` meets its contract: what one byte more of both says, by the laws of names that begin with two bytes. Assumes
-- nothing.
use Prim.Native.Nat.{ℕ}
use mathlib.Core.Path.{◌≡◌, sym, ap, ◌∙◌}
use mathlib.Core.List.{List}
use native.Mathlib.Omega.{arith}
use borrow.Author.Rules.{rules}
use lib.ListN.{length}
use Rattle.name.specs.Names.{same_name}
use Rattle.name.proofs.Rows.{same-differ, same-end, same-on, same-done}
use Rattle.name.proofs.same_name.Goals as goal

pub returns-then-x-y : goal.returns-then-x-y
returns-then-x-y c =
    let s = c.in-Some.ensures.steps in
    sym (c.loop-x.invariant.0 ∙ (λ i. same_name (s.0 i) (s.1 i)) ∙ same-differ _ _ c.next.new.self.a.rest.now c.next.new.self.b.rest.now c.if-x-y.true)

pub returns-then-x-eq0 : goal.returns-then-x-eq0
returns-then-x-eq0 c =
    let s = c.in-Some.ensures.steps in
    sym (c.loop-x.invariant.0 ∙ (λ i. same_name (s.0 i) (s.1 i)) ∙ same-end _ _ c.next.new.self.a.rest.now c.next.new.self.b.rest.now c.if-x-y.false c.if-x-eq0.true)

pub loop-x-preserved : goal.loop-x-preserved
loop-x-preserved c =
    let s = c.in-Some.ensures.steps in
    let longer = c.loop-x.invariant.1 in
    let a = ap (λ (l : List ℕ). length l) s.0 in
    let b = ap (λ (l : List ℕ). length l) s.1 in (
      c.loop-x.invariant.0 ∙ (λ i. same_name (s.0 i) (s.1 i)) ∙ same-on _ _ c.next.new.self.a.rest.now c.next.new.self.b.rest.now c.if-x-y.false c.if-x-eq0.false,
      omega (arith, longer, a, b),
    )

pub returns : goal.returns
returns c =
    let none : length c.loop-x.x-iterator.a.rest.now ≡ 0 = search (rules, c.in-None.ensures.steps, c.loop-x.invariant.1) in
    sym (c.loop-x.invariant.0 ∙ same-done _ _ c.loop-x.invariant.1 none)
