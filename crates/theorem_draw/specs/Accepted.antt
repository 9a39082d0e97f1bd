-- The draw order on an accepted map (W-208), of any file, any asked name, any work words and any point. The proof is
-- proofs/Draws.antt. Assumes nothing.
use Rattle.std.specs.Prelude.{ℕ, ◌+◌, ◌≤◌, List, ◌≡◌, ℤ}
use Rattle.node.specs.Nodes.{nodes_of}
use Rattle.map_check.specs.Verdict.{accepted, nodes_at, subsectors_at, verdict}
use Rattle.draw_order.specs.Lists.{most_passed}
use Rattle.theorem_draw.specs.Promises.{Draws}

-- with enough words, on an accepted map of depth at most 256 the draw order is never refused, lists each reached subsector
-- exactly once, and begins with the descent's own answer
abbrev pub DrawsAccepted : List ℕ → List ℕ → List ℕ → Type 0
DrawsAccepted wad name words =
    (depth marker : ℕ) → verdict wad name words ≡ accepted depth marker → depth ≤ most_passed
    → (x y : ℤ) (lent : ℕ) → nodes_of (nodes_at wad marker) + 1 ≤ lent
    → Draws (nodes_at wad marker) (subsectors_at wad marker) x y lent
