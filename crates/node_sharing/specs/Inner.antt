-- Not for the reader of promises: what only contracts of inner functions cite, the words that were seen. Assumes nothing.
use Rattle.std.specs.Prelude.{ℕ, ◌<◌, Bool, true, false, List, ◌≡◌, length}
use Rattle.bits.specs.Bits.{is_noted}
use Rattle.node_route.specs.Heights.{member, repeats}
use Rattle.node_sharing.specs.Children.{child_words}

-- a bit for every word of 16 bits, as `bits` notes it; 1 stands at the children of the marked nodes below `n`, of which none came
-- twice
pub record Seen (nodes marks : List ℕ) (n : ℕ) (seen : List ℕ) : Type 0 where
  pub places : length seen ≡ 8192
  pub noted : (w : ℕ) → w < 65536 → is_noted 8192 seen w ≡ member w (child_words nodes marks n)
  pub once : repeats (child_words nodes marks n) ≡ false

-- what is answered after the marked nodes below `n`: some child came twice, or none and all are noted
abbrev pub Met : List ℕ → List ℕ → ℕ → List ℕ → Bool → Type 0
Met nodes marks n seen true = repeats (child_words nodes marks n) ≡ true
Met nodes marks n seen false = Seen nodes marks n seen
