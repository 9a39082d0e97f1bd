-- `node_descent::side::side_at` meets its contract: the point, and the four numbers of the node, passed on. Assumes nothing.
use Prim.Native.Nat.{ℕ, ◌+◌, ◌*◌, ◌<◌}
use mathlib.Core.Path.{◌≡◌, sym, ap, ◌∙◌}
use native.Mathlib.Omega.{arith}
use mir.Syntax.{w16}
use mir.ValLaws.{to_z-of_z}
use Rattle.endian.specs.Signed.{i16_at}
use Rattle.record_field.specs.Records.{record_bytes}
use Rattle.record_field.proofs.Records.{i16_at-record_bytes}
use Rattle.node_descent.specs.Side.{side, side_at}
use Rattle.node_descent.proofs.Coordinates.{read_again}
use Rattle.node_descent.proofs.side.side_at.Goals as goal

pub returns : goal.returns
unfolding side_at
returns c =
    let nodes = c.args.nodes.now in
    let field : (k : ℕ) → k + 1 < 28 → i16_at nodes (28 * c.args.node + k) ≡ i16_at (record_bytes nodes 28 c.args.node) k =
    λ k h. sym (i16_at-record_bytes nodes 28 c.args.node k h) in
    let start : 28 * c.args.node ≡ 28 * c.args.node + 0 = omega arith in
    let x = to_z-of_z w16 c.args.x c.ranges.x in
    let y = to_z-of_z w16 c.args.y c.ranges.y in
    let at = c.i16_at in
    let at2 = c.i16_at-2 in
    let at3 = c.i16_at-3 in
    let at4 = c.i16_at-4 in
    let px = read_again w16 at.type_inv (at.ensures ∙ ap (i16_at nodes) start ∙ field 0 (omega arith)) in
    let py = read_again w16 at2.type_inv (at2.ensures ∙ field 2 (omega arith)) in
    let dx = read_again w16 at3.type_inv (at3.ensures ∙ field 4 (omega arith)) in
    let dy = read_again w16 at4.type_inv (at4.ensures ∙ field 6 (omega arith)) in
    c.side_of.ensures ∙ (λ i. side (x i) (y i) (px i) (py i) (dx i) (dy i))
