-- Not for the reader of promises: what the contracts of the functions cite. After the search of `node_graph` the first
-- `count` work words mark the nodes that are reached; the next `count` words then hold the place of each node in the
-- list. Assumes nothing.
use Rattle.std.specs.Prelude.{ℕ, zero, suc, ◌+◌, ◌<◌, Bool, true, ◌&&◌, not, cond, List, [], ◌∷◌, ◌≡◌, ltb, eqb, length, get_or}
use Rattle.node_route.specs.Heights.{repeats}
use Rattle.node_graph.specs.Looks.{mark_of}
use Rattle.renumber_order.specs.Orders.{old_at}

-- ---- marks

-- node `v` is marked
abbrev pub marked_ok : List ℕ → ℕ → ℕ → Bool
marked_ok words count v = ltb v count && not (eqb (mark_of words v) 0)

-- the marked nodes below `n`
unfoldable pub marked_below : List ℕ → ℕ → List ℕ
marked_below words zero = []
marked_below words (suc n) = cond (eqb (mark_of words n) 0) (marked_below words n) (n ∷ marked_below words n)

-- every number of the list is a marked node
abbrev pub all_marked : List ℕ → ℕ → List ℕ → Bool
all_marked words count [] = true
all_marked words count (x ∷ xs) = marked_ok words count x && all_marked words count xs

-- ---- places

-- no place
abbrev pub no_place : ℕ
no_place = 65535

-- the place of `v` among the first `n` numbers of the list
unfoldable pub placed : List ℕ → ℕ → ℕ → ℕ
placed order zero v = no_place
placed order (suc n) v = cond (eqb (old_at order n) v) n (placed order n v)

-- the word that holds the place of `v`
abbrev pub place_word : List ℕ → ℕ → ℕ → ℕ
place_word words count v = get_or words (count + v) 0

-- the words hold the places of the first `n` numbers
abbrev pub PlacesHeld : List ℕ → ℕ → List ℕ → ℕ → Type 0
PlacesHeld order n words count = (v : ℕ) → v < count → place_word words count v ≡ placed order n v

-- `v` is marked, and has no place yet
abbrev pub free_ok : List ℕ → ℕ → ℕ → Bool
free_ok words count v = ltb v count && not (eqb (mark_of words v) 0) && eqb (place_word words count v) no_place

-- what is known after the places were taken away: no place is held, and the marks are as they were
pub record Emptied (count : ℕ) (before after : List ℕ) : Type 0 where
  pub marks : (v : ℕ) → v < count → mark_of after v ≡ mark_of before v
  pub places : (v : ℕ) → v < count → place_word after count v ≡ no_place

-- what is answered after the places were given
pub record Filled (count : ℕ) (before order after : List ℕ) (answer : Bool) : Type 0 where
  pub tells : answer ≡ all_marked before count order && not (repeats order)
  pub holds : answer ≡ true → PlacesHeld order (length order) after count
