-- `renumber_order::both_before` meets its contract, from those of the functions that it calls. Assumes nothing.
use Prim.Native.Nat.{ℕ, ◌+◌, ◌<◌}
use mathlib.Core.Path.{subst⁻¹}
use lib.ListN.{length}
use Rattle.node.specs.declared.Choice.TheVariants.{Right, Left}
use Rattle.node.specs.Nodes.{subsector_bit}
use Rattle.renumber_order.proofs.both_before.Goals as goal

pub before_ok-right-requires : goal.before_ok-right-requires
before_ok-right-requires c =
    subst⁻¹ (λ (w : ℕ). w < subsector_bit → c.args.count + w < length c.args.words.now) c.child_of.ensures.0 (c.requires.1 Right)

pub before_ok-left-requires : goal.before_ok-left-requires
before_ok-left-requires c =
    subst⁻¹ (λ (w : ℕ). w < subsector_bit → c.args.count + w < length c.args.words.now) c.child_of-2.ensures.0 (c.requires.1 Left)
