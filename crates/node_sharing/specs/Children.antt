-- The children of the nodes that are marked, one after the other: a shared child stands there twice (W-202). Assumes nothing.
use Rattle.std.specs.Prelude.{ℕ, zero, suc, cond, List, [], ◌∷◌, eqb, get_or}
use Rattle.node.specs.declared.Choice.TheVariants.{Right, Left}
use Rattle.node.specs.Nodes.{child_of}

-- both children of each of the first `n` nodes whose mark is not 0
unfoldable pub child_words : List ℕ → List ℕ → ℕ → List ℕ
child_words nodes marks zero = []
child_words nodes marks (suc n) =
    cond (eqb (get_or marks n 0) 0)
    (child_words nodes marks n)
    (child_of nodes n Left ∷ child_of nodes n Right ∷ child_words nodes marks n)
