-- On which side of a node's line a point lies (01, "The node graph", and W-214 for upright and level lines). Assumes nothing.
use Rattle.std.specs.Prelude.{ℕ, Bool, false, cond, List, eqb, ℤ, pos, negsuc, ◌-ℤ◌, ◌*ℤ◌}
use Rattle.std.specs.Int.Signed.{lt_z, le_z}
use Rattle.node.specs.declared.Choice.{Choice}
use Rattle.node.specs.declared.Choice.TheVariants.{Right, Left}
use Rattle.node.specs.Nodes.{node_in, child_of}

-- `z` is 0
abbrev pub is_zero : ℤ → Bool
is_zero (pos n) = eqb n 0
is_zero (negsuc n) = false

-- left exactly if the test holds
abbrev pub left_if : Bool → Choice
left_if test = cond test Left Right

-- where dx is 0: a point with x at most px goes left exactly if dy > 0, any other left exactly if dy < 0
abbrev pub upright_side : ℤ → ℤ → ℤ → Choice
upright_side x px dy = left_if (cond (le_z x px) (lt_z (pos 0) dy) (lt_z dy (pos 0)))

-- where dy is 0 and dx is not: a point with y at most py goes left exactly if dx < 0, any other left exactly if dx > 0
abbrev pub level_side : ℤ → ℤ → ℤ → Choice
level_side y py dx = left_if (cond (le_z y py) (lt_z dx (pos 0)) (lt_z (pos 0) dx))

-- where neither is 0: right exactly if (x - px) × dy > (y - py) × dx over whole numbers
abbrev pub slanting_side : ℤ → ℤ → ℤ → ℤ → ℤ → ℤ → Choice
slanting_side x y px py dx dy = cond (lt_z ((y -ℤ py) *ℤ dx) ((x -ℤ px) *ℤ dy)) Right Left

-- the side of the point (x, y) by a line from (px, py) in the direction (dx, dy)
abbrev pub side : ℤ → ℤ → ℤ → ℤ → ℤ → ℤ → Choice
side x y px py dx dy =
    cond (is_zero dx) (upright_side x px dy)
    (cond (is_zero dy) (level_side y py dx) (slanting_side x y px py dx dy))

-- the choice of the point (x, y) at node `i`
unfoldable pub side_at : List ℕ → ℤ → ℤ → ℕ → Choice
side_at nodes x y i =
    side x y (node_in nodes i).x (node_in nodes i).y (node_in nodes i).dx (node_in nodes i).dy

-- the child of node `i` that the point (x, y) takes
abbrev pub chosen : List ℕ → ℤ → ℤ → ℕ → ℕ
chosen nodes x y i = child_of nodes i (side_at nodes x y i)
