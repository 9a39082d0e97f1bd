-- `node::child_of` meets its contract, by the choice. Assumes nothing.
use mathlib.Core.Path.{sym, ap, ◌∙◌}
use native.Mathlib.Omega.{arith}
use Rattle.record_field.proofs.Records.{u16_at-record_bytes}
use Rattle.node.specs.Nodes.{child_of}
use Rattle.node.proofs.child_of.Goals as goal

pub returns-in-Right : goal.returns-in-Right
returns-in-Right c =
    let a = c.args in
    (c.word_at.ensures.0 ∙ sym (u16_at-record_bytes a.nodes.now 28 a.node 24 (omega arith)) ∙ ap (child_of a.nodes.now a.node) (sym c.in-Right.is), c.word_at.ensures.1)

pub returns-in-Left : goal.returns-in-Left
returns-in-Left c =
    let a = c.args in
    (c.word_at-in-Left.ensures.0 ∙ sym (u16_at-record_bytes a.nodes.now 28 a.node 26 (omega arith)) ∙ ap (child_of a.nodes.now a.node) (sym c.in-Left.is), c.word_at-in-Left.ensures.1)
