-- Not for the reader of promises: what only contracts of inner functions cite. Assumes nothing.
use Rattle.std.specs.Prelude.{ℕ, ◌<◌, List}
use Rattle.node.specs.declared.Choice.{Choice}
use Rattle.node.specs.Nodes.{nodes_of, subsector_bit, child_of}

-- every child that is a node is one of the lump's
abbrev pub NodesInRange : List ℕ → Type 0
NodesInRange nodes =
    (i : ℕ) → i < nodes_of nodes → (c : Choice) → child_of nodes i c < subsector_bit → child_of nodes i c < nodes_of nodes
