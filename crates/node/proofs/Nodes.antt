-- Laws of ranges: what a test of a word, of a node and of all nodes says. Assumes nothing.
use Prim.Native.Nat.{ℕ, zero, suc, ◌-◌, ◌*◌, ◌<◌}
use mathlib.Core.Bool.{true}
use mathlib.Core.List.{List}
use mathlib.Core.Path.{◌≡◌}
use native.Mathlib.Omega.{arith}
use borrow.Author.Tests.{ltb-true, lt-ltb}
use lib.ListN.{length}
use Rattle.record.specs.Nodes.{node_size}
use Rattle.refusal.proofs.Checks.{both}
use Rattle.node.specs.declared.Choice.{Choice}
use Rattle.node.specs.declared.Choice.TheVariants.{Right, Left}
use Rattle.node.specs.Nodes.{nodes_of, subsector_bit, root, child_of, child_ok, node_ok}
use Rattle.node.specs.Ranges.{NodesInRange}

-- every child of every node is in range, whether a route reaches the node or not
abbrev pub ChildrenInRange : List ℕ → ℕ → Type 0
ChildrenInRange nodes subsectors =
    (i : ℕ) → i < nodes_of nodes → (c : Choice) → child_ok (nodes_of nodes) subsectors (child_of nodes i c) ≡ true

-- a word in range that is a node is one of the lump's
pub child_ok-node : (count subsectors w : ℕ) → child_ok count subsectors w ≡ true → w < subsector_bit → w < count
child_ok-node count subsectors w e h = ltb-true w count (rw (lt-ltb w subsector_bit h) at e)

-- the test of every node, one by one, is the test of the lump
pub nodes_ok_lem : (nodes : List ℕ) (subsectors : ℕ) → ((i : ℕ) → i < nodes_of nodes → node_ok nodes subsectors i ≡ true)
    → ChildrenInRange nodes subsectors
nodes_ok_lem nodes subsectors ok i h Right = (both _ _ (ok i h)).0
nodes_ok_lem nodes subsectors ok i h Left = (both (child_ok (nodes_of nodes) subsectors (child_of nodes i Right)) _ (ok i h)).1

pub nodes_in_range : (nodes : List ℕ) (subsectors : ℕ) → ChildrenInRange nodes subsectors → NodesInRange nodes
nodes_in_range nodes subsectors ok i h c n = child_ok-node (nodes_of nodes) subsectors (child_of nodes i c) (ok i h c) n

-- whole nodes are counted by their bytes
pub nodes_of-whole : (nodes : List ℕ) (count : ℕ) → node_size * count ≡ length nodes → nodes_of nodes ≡ count
nodes_of-whole nodes count e = omega arith

pub root-last : (count : ℕ) → 0 < count → root count ≡ count - 1
root-last zero h = absurd (omega arith)
root-last (suc last) h = omega arith

-- a root that is a node is in range
pub root-node : (count : ℕ) → root count < subsector_bit → root count < count
root-node zero h = absurd (omega arith)
root-node (suc last) h = omega arith
