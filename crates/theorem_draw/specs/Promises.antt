-- What the draw order lists on a graph that is accepted (W-208). The proof is proofs/Draws.antt. Assumes nothing.
use Rattle.std.specs.Prelude.{ℕ, ◌+◌, ◌<◌, List, ◌∷◌, ◌≡◌, ℤ, length, Ok}
use Rattle.node.specs.Nodes.{subsector_bit}
use Rattle.node_route.specs.Routes.{Reached}
use Rattle.node_route.specs.Reach.{HoldsOnce}
use Rattle.node_descent.specs.Walks.{descent}
use Rattle.draw_order.specs.Lists.{listed, draw_order}

-- the draw order of the point (x, y) is not refused, lists each reached subsector exactly once, and begins with the descent's own
-- answer
pub record Draws (nodes : List ℕ) (subsectors : ℕ) (x y : ℤ) (lent : ℕ) : Type 0 where
  pub list : List ℕ
  pub drawn : draw_order nodes subsectors x y lent ≡ listed list
  -- none left out, none other, none twice
  pub each : HoldsOnce (λ s. Reached nodes (subsector_bit + s)) list
  pub first : ℕ
  pub rest : List ℕ
  pub begins : list ≡ first ∷ rest
  pub count : ℕ
  pub descends : descent nodes subsectors x y ≡ Ok (record { subsector = first; count = count })
  -- so that they are one more than the reached nodes
  pub node_words : List ℕ
  pub each_node : HoldsOnce (λ v. Reached nodes v × (v < subsector_bit)) node_words
  pub one_more : length list ≡ length node_words + 1
