-- The subsectors for a camera point, front first, or the refusal that the walk meets (W-208): 40, 41 and 45 before it, then
-- of 42, 44 and 46 the first met. Assumes nothing.
use Rattle.std.specs.Prelude.{ℕ, zero, suc, ◌+◌, ◌-◌, cond, List, [], ◌∷◌, ◌++◌, leb, ltb, ℤ, length, Ok, Err}
use Rattle.refusal.specs.declared.Refusal.{Refusal}
use Rattle.refusal.specs.declared.Refusal.TheVariants.{DescentNodes, DescentSubsectors, DescentChild, OrderDepth, OrderWords, OrderLength}
use Rattle.refusal.specs.Checks.{Check}
use Rattle.refusal.specs.Checks.{unless, ◌and_then◌}
use Rattle.node.specs.declared.Choice.{Choice}
use Rattle.node.specs.declared.Choice.TheVariants.{Right, Left}
use Rattle.node.specs.Nodes.{nodes_of, subsector_bit, is_node, child_of, child_ok}
use Rattle.node_descent.specs.Side.{side_at}
use Rattle.node_descent.specs.Walks.{nodes_ok, subsectors_ok}

-- what a walk lists: subsectors, or the refusal that it meets
pub data Listing : Type 0 where
  listed : List ℕ → Listing
  stopped : Refusal → Listing

-- the most nodes that choices from the root may pass
abbrev pub most_passed : ℕ
most_passed = 256

-- the other choice at a node
abbrev pub other : Choice → Choice
other Right = Left
other Left = Right

-- a list in front of what is listed next
abbrev pub in_front : List ℕ → Listing → Listing
in_front xs (listed ys) = listed (xs ++ ys)
in_front xs (stopped r) = stopped r

-- what is listed first behind `at` entries, joined with what is listed `next`, by how many entries there are then
abbrev pub joined : ℕ → Listing → (ℕ → Listing) → Listing
joined at (listed xs) next = in_front xs (next (at + length xs))
joined at (stopped r) next = stopped r

-- a subsector behind `at` entries: 46 where these are nodes + 1
abbrev pub entry_order : List ℕ → ℕ → ℕ → Listing
entry_order nodes at subsector = cond (ltb at (nodes_of nodes + 1)) (listed (subsector ∷ [])) (stopped OrderLength)

-- the list, behind `at` entries, of the child that a choice at node `i` leads to: 42 where it is out of range. `list` is that of
-- a node behind so many entries.
abbrev pub child_by : (ℕ → ℕ → Listing) → List ℕ → ℕ → ℕ → ℕ → Choice → Listing
child_by list nodes subsectors at i choice =
    let child = child_of nodes i choice in
    cond (child_ok (nodes_of nodes) subsectors child)
    (cond (is_node child) (list at child) (entry_order nodes at (child - subsector_bit)))
    (stopped (DescentChild i))

-- the list, behind `at` entries, of node `i`, where it and the nodes below it on a route may be `more`, else 44: the list of the
-- child on the side of the point (x, y), joined with the list of the other child
unfoldable pub node_order : List ℕ → ℕ → ℤ → ℤ → ℕ → ℕ → ℕ → Listing
node_order nodes subsectors x y zero at i = stopped OrderDepth
node_order nodes subsectors x y (suc more) at i =
    let near = side_at nodes x y i in
    let far = other near in
    joined at
    (child_by (node_order nodes subsectors x y more) nodes subsectors at i near)
    (λ next. child_by (node_order nodes subsectors x y more) nodes subsectors next i far)

-- the list of a child, where it and the nodes below it on a route may be `more`
abbrev pub child_order : List ℕ → ℕ → ℤ → ℤ → ℕ → ℕ → ℕ → Choice → Listing
child_order nodes subsectors x y more = child_by (node_order nodes subsectors x y more) nodes subsectors

-- the list of the root, the last node; without nodes subsector 0 alone
abbrev pub root_order : List ℕ → ℕ → ℤ → ℤ → Listing
root_order nodes subsectors x y =
    cond (ltb 0 (nodes_of nodes)) (node_order nodes subsectors x y most_passed 0 (nodes_of nodes - 1)) (listed (0 ∷ []))

-- 40, 41, and 45 where fewer than nodes + 1 words are lent
abbrev pub order_check : List ℕ → ℕ → ℕ → Check
order_check nodes subsectors lent =
    unless (nodes_ok nodes) DescentNodes
    and_then unless (subsectors_ok (nodes_of nodes) subsectors) DescentSubsectors
    and_then unless (leb (nodes_of nodes + 1) lent) OrderWords

-- the refusal of a check, and where it passes what is listed
abbrev pub listed_by : Check → Listing → Listing
listed_by (Ok _) listing = listing
listed_by (Err r) listing = stopped r

-- the draw order of the point (x, y), with `lent` words
unfoldable pub draw_order : List ℕ → ℕ → ℤ → ℤ → ℕ → Listing
draw_order nodes subsectors x y lent = listed_by (order_check nodes subsectors lent) (root_order nodes subsectors x y)
