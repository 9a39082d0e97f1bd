-- `node_descent::side::side_of` meets its contract: a direction of 16 bits is 0 where its bits are. Assumes nothing.
use mathlib.Core.Bool.{false}
use mathlib.Core.Path.{◌≡◌, refl, sym, ◌∙◌}
use borrow.Author.Tests.{ne_eqb}
use mir.Syntax.{w16}
use mir.Val.{of_z}
use mir.ValLaws.{to_z-of_z}
use Rattle.node_descent.specs.Side.{is_zero, slanting_side, side}
use Rattle.node_descent.proofs.Coordinates.{is_zero_of_z}
use Rattle.node_descent.proofs.side.side_of.Goals as goal

pub returns : goal.returns
returns c =
    let a = c.args in
    let r = c.ranges in
    let x = to_z-of_z w16 a.x r.x in
    let y = to_z-of_z w16 a.y r.y in
    let px = to_z-of_z w16 a.px r.px in
    let py = to_z-of_z w16 a.py r.py in
    let dx = to_z-of_z w16 a.dx r.dx in
    let dy = to_z-of_z w16 a.dy r.dy in
    let upright : is_zero a.dx ≡ false = sym (is_zero_of_z a.dx r.dx) ∙ ne_eqb (of_z w16 a.dx) 0 c.if-dx-eq0.false in
    let level : is_zero a.dy ≡ false = sym (is_zero_of_z a.dy r.dy) ∙ ne_eqb (of_z w16 a.dy) 0 c.if-dy-eq0.false in
    let slants : side a.x a.y a.px a.py a.dx a.dy ≡ slanting_side a.x a.y a.px a.py a.dx a.dy = rw (upright, level) refl in
    c.slanting_side.ensures ∙ (λ i. slanting_side (x i) (y i) (px i) (py i) (dx i) (dy i)) ∙ sym slants
