-- A NODES lump as a graph: each node's two children, and the root (01, "The node graph"; a node's fields are those of
-- `record`). A child is a 16-bit word. Past the lump's end a byte reads as 0. Assumes nothing.
use Rattle.std.specs.Prelude.{ℕ, zero, suc, ◌-◌, ◌/◌, Bool, ◌&&◌, cond, List, ltb, length}
use Rattle.record_field.specs.Records.{record_bytes}
use Rattle.record.specs.declared.node.Node.{Node}
use Rattle.record.specs.Nodes.{node_size, node_of}
use Rattle.node.specs.declared.Choice.{Choice}
use Rattle.node.specs.declared.Choice.TheVariants.{Right, Left}

-- the count of whole nodes
abbrev pub nodes_of : List ℕ → ℕ
nodes_of nodes = length nodes / node_size

-- a word with this bit names a subsector, whose number is the word less this bit; a word below it is a node's number
abbrev pub subsector_bit : ℕ
subsector_bit = 32768

abbrev pub is_node : ℕ → Bool
is_node w = ltb w subsector_bit

-- node `i`, all 0 past the lump's end
abbrev pub node_in : List ℕ → ℕ → Node
node_in nodes i = node_of (record_bytes nodes node_size i)

-- the child of node `i` that a choice leads to
abbrev pub child_of : List ℕ → ℕ → Choice → ℕ
child_of nodes i Right = (node_in nodes i).right
child_of nodes i Left = (node_in nodes i).left

-- the word of the root: the last of `count` nodes, and subsector 0 where there are none
abbrev pub root : ℕ → ℕ
root zero = subsector_bit
root (suc last) = last

-- a word is in range: a node below `count`, or a subsector below `subsectors`
abbrev pub child_ok : ℕ → ℕ → ℕ → Bool
child_ok count subsectors w = cond (is_node w) (ltb w count) (ltb (w - subsector_bit) subsectors)

-- both children of node `i` are in range
abbrev pub node_ok : List ℕ → ℕ → ℕ → Bool
node_ok nodes subsectors i =
    child_ok (nodes_of nodes) subsectors (child_of nodes i Right) && child_ok (nodes_of nodes) subsectors (child_of nodes i Left)
