-- `node_descent::side::product` meets its contract: a difference of two numbers of 16 bits times a third fits 64. Assumes nothing.
use mathlib.Core.Path.{◌≡◌, ◌∙◌}
use lib.IntN.{◌-ℤ◌}
use mir.Syntax.{w16, w64}
use mir.Val.{to_z, of_z}
use mir.ValLaws.{to_z-of_z}
use Rattle.node_descent.proofs.Coordinates.{read_again, difference_fits, product_fits}
use Rattle.node_descent.proofs.side.product.Goals as goal
use Rattle.node_descent.proofs.side.product.Goals.{After-from-3}

a_wide : (c : After-from-3) → to_z w64 (of_z w64 c.from.result) ≡ c.args.a
a_wide c = read_again w64 c.from.type_inv (c.from.ensures ∙ to_z-of_z w16 c.args.a c.ranges.a)

b_wide : (c : After-from-3) → to_z w64 (of_z w64 c.from-2.result) ≡ c.args.b
b_wide c = read_again w64 c.from-2.type_inv (c.from-2.ensures ∙ to_z-of_z w16 c.args.b c.ranges.b)

d_wide : (c : After-from-3) → to_z w64 (of_z w64 c.from-3.result) ≡ c.args.d
d_wide c = read_again w64 c.from-3.type_inv (c.from-3.ensures ∙ to_z-of_z w16 c.args.d c.ranges.d)

difference : (c : After-from-3) → to_z w64 (of_z w64 (c.args.a -ℤ c.args.b)) ≡ c.args.a -ℤ c.args.b
difference c = to_z-of_z w64 _ (difference_fits c.args.a c.args.b c.ranges.a c.ranges.b)

pub overflow_mul-result : goal.overflow_mul-result
overflow_mul-result c =
    let at = (goal.at.overflow_mul-result c).After-from-3 in
    rw (a_wide at, b_wide at, d_wide at, difference at)
    (product_fits c.args.a c.args.b c.ranges.a c.ranges.b c.args.d c.ranges.d)

pub returns : goal.returns
returns c =
    let at = (goal.at.returns c).After-from-3 in
    rw (a_wide at, b_wide at, d_wide at, difference at)
    (to_z-of_z w64 _ (product_fits c.args.a c.args.b c.ranges.a c.ranges.b c.args.d c.ranges.d))
