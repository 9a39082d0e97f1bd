-- What the work words of the search hold, and what a look at a node's children finds there. The first `count` words mark
-- the nodes: 0 not met yet, 65535 on the path, else the node's height. The next `count` words hold the path, the root first.
-- Assumes nothing.
use Rattle.std.specs.Prelude.{ℕ, max, ◌+◌, ◌-◌, ◌*◌, ◌≤◌, ◌<◌, Bool, ◌&&◌, cond, List, eqb, leb, length, get_or, set}
use Rattle.record.specs.Nodes.{node_size}
use Rattle.node.specs.declared.Choice.{Choice}
use Rattle.node.specs.declared.Choice.TheVariants.{Right, Left}
use Rattle.node_graph.specs.declared.Look.{Look}
use Rattle.node_graph.specs.declared.Look.TheVariants.{New, OnPath, Height}
use Rattle.node.specs.Nodes.{subsector_bit, is_node, child_of}
use Rattle.node_graph.specs.Judging.{cleared}

-- the mark of a node on the path
abbrev pub path_mark : ℕ
path_mark = 65535

-- the mark of node `i`
abbrev pub mark_of : List ℕ → ℕ → ℕ
mark_of words i = get_or words i 0

-- the node at place `j` of the path
abbrev pub path_of : List ℕ → ℕ → ℕ → ℕ
path_of words count j = get_or words (count + j) 0

-- what its mark says of node `w`
abbrev pub mark_says : ℕ → ℕ → Look
mark_says w mark = cond (eqb mark 0) (New w) (cond (eqb mark path_mark) OnPath (Height mark))

-- what the marks say of a child, a node or a subsector
abbrev pub look_at : List ℕ → ℕ → Look
look_at words w = cond (is_node w) (mark_says w (mark_of words w)) (Height 0)

-- what is to be done first of two children; where both are done, the larger height
abbrev pub joined : Look → Look → Look
joined (New v) left = New v
joined OnPath left = OnPath
joined (Height a) (New v) = New v
joined (Height a) OnPath = OnPath
joined (Height a) (Height b) = Height (max a b)

-- what the marks say of both children of node `i`
abbrev pub look_below : List ℕ → List ℕ → ℕ → Look
look_below nodes words i = joined (look_at words (child_of nodes i Right)) (look_at words (child_of nodes i Left))

-- node `i` lies in the lump, and the marks of its children in the words
pub record LooksInside (nodes words : List ℕ) (i : ℕ) : Type 0 where
  pub whole : node_size * i + node_size ≤ length nodes
  pub marked : (c : Choice) → child_of nodes i c < subsector_bit → child_of nodes i c < length words

-- the words with `node` put at place `sp` of the path
abbrev pub pushed : List ℕ → ℕ → ℕ → ℕ → List ℕ
pushed words count sp node = set (set words node path_mark) (count + sp) node

-- the words at the beginning: no node is met but the root, which is the path
abbrev pub begun : List ℕ → ℕ → List ℕ
begun words count = pushed (cleared words count) count 0 (count - 1)

-- the child `w` is marked as on the path
abbrev pub on_path_ok : (ℕ → ℕ) → ℕ → Bool
on_path_ok mark w = is_node w && eqb (mark w) path_mark

-- by the marks after a loop was met: right where the right child is on the path
abbrev pub path_choice : List ℕ → (ℕ → ℕ) → ℕ → Choice
path_choice nodes mark w = cond (on_path_ok mark (child_of nodes w Right)) Right Left

-- the height of the child `w` by the marks of nodes that are done
abbrev pub height_by : (ℕ → ℕ) → ℕ → ℕ
height_by mark w = cond (is_node w) (mark w) 0

-- by the marks of nodes that are done: right where the right child is as high
abbrev pub height_choice : List ℕ → (ℕ → ℕ) → ℕ → Choice
height_choice nodes mark w = cond (leb (height_by mark (child_of nodes w Left)) (height_by mark (child_of nodes w Right))) Right Left
