-- An order of the nodes that a map reaches, as an editor proposes it: old numbers, each at its new place (02, W-212). The
-- list is untrusted. Assumes nothing.
use Rattle.std.specs.Prelude.{ℕ, zero, suc, ◌*◌, Bool, true, ◌&&◌, ◌||◌, not, cond, List, [], ◌∷◌, leb, ltb, eqb, length, get_or}
use Rattle.refusal.specs.Checks.{Check}
use Rattle.refusal.specs.declared.Refusal.TheVariants.{RenumberNodes, RenumberChild, RenumberRoot, RenumberLength, RenumberRoom}
use Rattle.refusal.specs.Checks.{unless, ◌and_then◌}
use Rattle.record.specs.Nodes.{node_size}
use Rattle.node.specs.declared.Choice.{Choice}
use Rattle.node.specs.declared.Choice.TheVariants.{Right, Left}
use Rattle.node.specs.Nodes.{nodes_of, is_node, child_of, root}
use Rattle.node_route.specs.Heights.{member, repeats}
use Rattle.node_route.specs.Reach.{reached_nodes}

-- the old number at place `i`
abbrev pub old_at : List ℕ → ℕ → ℕ
old_at order i = get_or order i 0

-- how many numbers of the list stand before the first `v`; all where it is not there
abbrev pub index_in : List ℕ → ℕ → ℕ
index_in [] v = 0
index_in (x ∷ xs) v = cond (eqb x v) 0 (suc (index_in xs v))

-- 73: as many as are reached
abbrev pub many_ok : List ℕ → List ℕ → Bool
many_ok nodes order = eqb (length order) (length (reached_nodes nodes))

-- 70: each of them once
abbrev pub all_among : List ℕ → List ℕ → Bool
all_among [] ys = true
all_among (x ∷ xs) ys = member x ys && all_among xs ys

abbrev pub once_ok : List ℕ → List ℕ → Bool
once_ok nodes order = all_among order (reached_nodes nodes) && not (repeats order)

-- 72: the root at the end, if there is one
abbrev pub last_ok : ℕ → List ℕ → Bool
last_ok v [] = true
last_ok v (x ∷ []) = eqb x v
last_ok v (x ∷ y ∷ ys) = last_ok v (y ∷ ys)

abbrev pub root_ok : List ℕ → List ℕ → Bool
root_ok nodes order = last_ok (root (nodes_of nodes)) order

-- 71: a child of the node at place `i` is a subsector, or stands before it
abbrev pub child_first : List ℕ → List ℕ → ℕ → Choice → Bool
child_first nodes order i c = not (is_node (child_of nodes (old_at order i) c)) || ltb (index_in order (child_of nodes (old_at order i) c)) i

-- both children of each of the first `n` nodes
unfoldable pub children_ok : List ℕ → List ℕ → ℕ → Bool
children_ok nodes order zero = true
children_ok nodes order (suc n) = children_ok nodes order n && child_first nodes order n Right && child_first nodes order n Left

-- 72, 71, and then the room for the nodes
abbrev pub late_check : List ℕ → List ℕ → ℕ → Check
late_check nodes order room =
    unless (root_ok nodes order) RenumberRoot
    and_then unless (children_ok nodes order (length order)) RenumberChild
    and_then unless (leb (node_size * length order) room) RenumberRoom

-- the whole row
abbrev pub renumber_check : List ℕ → List ℕ → ℕ → Check
renumber_check nodes order room =
    unless (many_ok nodes order) RenumberLength and_then unless (once_ok nodes order) RenumberNodes and_then late_check nodes order room
