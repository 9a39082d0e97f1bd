-- The plain walk of a point, and the descent with its refusals (01, "The node graph" and refusals 40 to 43).
-- Assumes nothing.
use Rattle.std.specs.Prelude.{ℕ, zero, suc, ◌+◌, ◌-◌, ◌%◌, ◌<◌, Bool, ◌&&◌, ◌||◌, cond, List, ◌≡◌, leb, ltb, eqb, ℤ, length, Result, Ok, Err}
use Rattle.refusal.specs.declared.Refusal.{Refusal}
use Rattle.refusal.specs.declared.Refusal.TheVariants.{DescentNodes, DescentSubsectors, DescentChild, DescentLoop}
use Rattle.refusal.specs.Checks.{Check}
use Rattle.refusal.specs.Checks.{unless, ◌and_then◌}
use Rattle.record.specs.Nodes.{node_size}
use Rattle.node_descent.specs.declared.Descent.{Descent}
use Rattle.node.specs.Nodes.{nodes_of, subsector_bit, is_node, root, child_ok}
use Rattle.node_descent.specs.Side.{chosen}

-- the plain walk of the point (x, y) from a word ends at a subsector, with the count of nodes passed
pub data Walk (nodes : List ℕ) (x y : ℤ) : ℕ → ℕ → ℕ → Type 0 where
  ends : {w subsector : ℕ} → w ≡ subsector_bit + subsector → Walk nodes x y w subsector 0
  goes : {w subsector count : ℕ} → w < subsector_bit → Walk nodes x y (chosen nodes x y w) subsector count
      → Walk nodes x y w subsector (suc count)

-- the refusal of a check, and where it passes the descent that follows
abbrev pub descent_by : Check → Result Descent Refusal → Result Descent Refusal
descent_by (Ok _) descent = descent
descent_by (Err r) descent = Err r

-- the end at the subsector that the word `w` names, with `count` nodes passed
abbrev pub end_at : ℕ → ℕ → Descent
end_at w count = record { subsector = w - subsector_bit; count = count }

-- the descent from the word `w` with `count` nodes passed, where `more` choices may still be made. Only the chosen child
-- is judged, and the last choice is judged like any other.
unfoldable pub descent_from : List ℕ → ℕ → ℤ → ℤ → ℕ → ℕ → ℕ → Result Descent Refusal
descent_from nodes subsectors x y zero count w = cond (is_node w) (Err DescentLoop) (Ok (end_at w count))
descent_from nodes subsectors x y (suc more) count w =
    cond (is_node w)
    (descent_by (unless (child_ok (nodes_of nodes) subsectors (chosen nodes x y w)) (DescentChild w))
    (descent_from nodes subsectors x y more (count + 1) (chosen nodes x y w)))
    (Ok (end_at w count))

-- whole nodes, and at most 32,767 of them
abbrev pub nodes_ok : List ℕ → Bool
nodes_ok nodes = eqb (length nodes % node_size) 0 && leb (nodes_of nodes) 32767

-- 1 to 32767 subsectors, and 1 where there are no nodes
abbrev pub subsectors_ok : ℕ → ℕ → Bool
subsectors_ok count subsectors = leb 1 subsectors && leb subsectors 32767 && (ltb 0 count || eqb subsectors 1)

-- the descent of the point (x, y) from the root
unfoldable pub descent : List ℕ → ℕ → ℤ → ℤ → Result Descent Refusal
descent nodes subsectors x y =
    descent_by
    (unless (nodes_ok nodes) DescentNodes and_then unless (subsectors_ok (nodes_of nodes) subsectors) DescentSubsectors)
    (descent_from nodes subsectors x y (nodes_of nodes) 0 (root (nodes_of nodes)))
