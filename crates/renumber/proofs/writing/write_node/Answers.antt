-- `renumber::writing::write_node` meets its contract, from those of the functions that it calls. Assumes nothing.
use Rattle.std.proofs.Common.{ℕ, ◌+◌, ◌-◌, ◌*◌, ◌<◌, ◌++◌, ◌≡◌, length, take, drop, ap, ◌∙◌, arith, length-drop}
use mathlib.Core.Path.{subst⁻¹}
use borrow.Rule.Slice.PartMut.{put_mid}
use lib.Seq.{sets, length-take-le}
use Rattle.endian.specs.Unsigned.{u16_bytes}
use Rattle.record_field.specs.Records.{record_bytes}
use Rattle.record.specs.Nodes.{node_size}
use Rattle.node.specs.declared.Choice.TheVariants.{Right, Left}
use Rattle.node.specs.Nodes.{subsector_bit}
use Rattle.renumber.specs.Inner.{renamed_by}
use Rattle.renumber.proofs.Rows.{row_stored, node-stored}
use Rattle.renumber.proofs.writing.write_node.Goals as goal

pub renamed-right-requires : goal.renamed-right-requires
renamed-right-requires c = (
  c.child_of.ensures.1,
  subst⁻¹ (λ (w : ℕ). w < subsector_bit → c.args.graph.now.count + w < length c.args.words.now) c.child_of.ensures.0 (c.requires.children_placed Right),
)

pub renamed-left-requires : goal.renamed-left-requires
renamed-left-requires c = (
  c.child_of-2.ensures.1,
  subst⁻¹ (λ (w : ℕ). w < subsector_bit → c.args.graph.now.count + w < length c.args.words.now) c.child_of-2.ensures.0 (c.requires.children_placed Left),
)

pub returns : goal.returns
returns c =
    let a = c.args in
    let by = renamed_by a.words.now a.graph.now.count in
    let toRight = c.renamed-right.ensures ∙ ap by c.child_of.ensures.0 in
    let toLeft = c.renamed-left.ensures ∙ ap by c.child_of-2.ensures.0 in
    let from = node_size * a.node in
    let there : a.at + 24 - a.at ≡ 24 = omega arith in
    let here : from + 24 - from ≡ 24 = omega arith in
    let line = take 24 (drop from a.graph.now.nodes.now) in
    let long : length line ≡ 24 = length-take-le 24 (drop from a.graph.now.nodes.now) (omega (arith, length-drop from a.graph.now.nodes.now, c.requires.node_size_in_bounds.0)) in
    let copied : put_mid a.at (a.at + 24 - a.at) a.out.now c.copy_from_slice.new.self ≡ sets a.out.now a.at line =
    (λ i. put_mid a.at (there i) a.out.now ((c.copy_from_slice.ensures.after ∙ ap (λ (n : ℕ). take n (drop from a.graph.now.nodes.now)) here) i))
    ∙ row_stored a.out.now line a.at 24 long (omega (arith, c.requires.node_size_in_bounds.1)) in
    node-stored a.graph.now.nodes.now a.node a.out.now a.at c.renamed-right.result c.renamed-left.result c.requires.node_size_in_bounds.0
    copied c.put_u16.ensures c.put_u16-2.ensures
    ∙ (λ j. sets a.out.now a.at (take 24 (record_bytes a.graph.now.nodes.now node_size a.node) ++ u16_bytes (toRight j) ++ u16_bytes (toLeft j)))
