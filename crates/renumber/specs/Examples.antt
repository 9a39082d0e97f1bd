-- Two lumps of four nodes, of which node 2 is not reached, and lists with each answer (02, W-212). Assumes nothing.
use Rattle.std.specs.Prelude.{ℕ, ◌+◌, List, [], ◌∷◌, ◌++◌, ◌≡◌, replicate, Ok, Err}
use Rattle.endian.specs.Unsigned.{u16_bytes}
use Rattle.refusal.specs.declared.Refusal.TheVariants.{RenumberNodes, RenumberChild, RenumberRoot, RenumberLength, RenumberRoom}
use Rattle.node.specs.Nodes.{subsector_bit}
use Rattle.renumber_order.specs.Orders.{renumber_check}
use Rattle.renumber.specs.Renumbering.{renumbered}

-- a node of 24 bytes `b` and two children
abbrev pub example_node : ℕ → ℕ → ℕ → List ℕ
example_node b right left = replicate 24 b ++ u16_bytes right ++ u16_bytes left

-- subsector `i` as a child
abbrev pub subsector : ℕ → ℕ
subsector i = subsector_bit + i

-- the root, node 3, with the children 0 and 1
abbrev pub broad : List ℕ
broad =
    example_node 10 (subsector 0) (subsector 1)
    ++ example_node 11 (subsector 2) (subsector 3)
    ++ example_node 12 0 1
    ++ example_node 13 0 1

-- the root with the child 0, and that with the child 1
abbrev pub tall : List ℕ
tall =
    example_node 10 (subsector 0) 1
    ++ example_node 11 (subsector 2) (subsector 3)
    ++ example_node 12 0 1
    ++ example_node 13 0 (subsector 1)

-- three nodes have 84 bytes
pub record Examples : Type 0 where
  -- children in either order
  pub in_order : renumber_check broad (0 ∷ 1 ∷ 3 ∷ []) 84 ≡ Ok tt
  pub other-order : renumber_check broad (1 ∷ 0 ∷ 3 ∷ []) 84 ≡ Ok tt
  -- 73: the unreached node is not asked for, and no other is missing
  pub short : renumber_check broad (0 ∷ 1 ∷ []) 84 ≡ Err RenumberLength
  pub all-four : renumber_check broad (0 ∷ 1 ∷ 2 ∷ 3 ∷ []) 112 ≡ Err RenumberLength
  pub none : renumber_check broad [] 84 ≡ Err RenumberLength
  -- 70: a node twice, an unreached one, and a number that no node has
  pub twice : renumber_check broad (0 ∷ 0 ∷ 3 ∷ []) 84 ≡ Err RenumberNodes
  pub unreached : renumber_check broad (0 ∷ 2 ∷ 3 ∷ []) 84 ≡ Err RenumberNodes
  pub foreign : renumber_check broad (0 ∷ 9 ∷ 3 ∷ []) 84 ≡ Err RenumberNodes
  -- 72: the root stands elsewhere
  pub root-first : renumber_check broad (3 ∷ 0 ∷ 1 ∷ []) 84 ≡ Err RenumberRoot
  -- 71: node 1 is a child of node 0
  pub child-first : renumber_check tall (1 ∷ 0 ∷ 3 ∷ []) 84 ≡ Ok tt
  pub child_after : renumber_check tall (0 ∷ 1 ∷ 3 ∷ []) 84 ≡ Err RenumberChild
  -- 74: a byte is missing
  pub no_room : renumber_check broad (0 ∷ 1 ∷ 3 ∷ []) 83 ≡ Err RenumberRoom
  -- the first of several
  pub short-and-twice : renumber_check broad (0 ∷ 0 ∷ []) 0 ≡ Err RenumberLength
  pub twice-and-root : renumber_check broad (3 ∷ 0 ∷ 0 ∷ []) 0 ≡ Err RenumberNodes
  pub root-and_child : renumber_check tall (3 ∷ 0 ∷ 1 ∷ []) 0 ≡ Err RenumberRoot
  pub child_and-room : renumber_check tall (0 ∷ 1 ∷ 3 ∷ []) 0 ≡ Err RenumberChild
  -- what is written: old node 1 is 0, old node 0 is 1, and the root is 2
  pub written : renumbered broad (1 ∷ 0 ∷ 3 ∷ [])
      ≡ example_node 11 (subsector 2) (subsector 3)
      ++ example_node 10 (subsector 0) (subsector 1)
      ++ example_node 13 1 0
