-- Not for the reader of promises: what only contracts of inner functions cite, the one pass over BLOCKMAP's lists and what it
-- leaves for the cells. Assumes nothing.
use Rattle.std.specs.Prelude.{ℕ, zero, suc, min, ◌-◌, ◌≤◌, ◌<◌, Bool, true, false, ◌&&◌, cond, List, ◌≡◌, ltb, eqb, length, get_or}
use Rattle.map_blockmap.specs.Blockmap.{word_count, word_at, list_end}

-- the last `left` words of the lump begin with linedef numbers below `linedefs` and then the mark, seen word by word from the
-- lump's end; without a mark they run off the end
unfoldable pub ends_well : List ℕ → ℕ → ℕ → Bool
ends_well lump linedefs zero = false
ends_well lump linedefs (suc left) =
    cond (eqb (word_at lump (word_count lump - suc left)) list_end)
    true
    (ltb (word_at lump (word_count lump - suc left)) linedefs && ends_well lump linedefs left)

-- for the places from `from` to `top`, whether the words from there on end a list well
abbrev pub NotedFrom : List ℕ → ℕ → ℕ → ℕ → List Bool → Type 0
NotedFrom lump linedefs from top notes =
    (i : ℕ) → from ≤ i → i ≤ top → get_or notes i false ≡ ends_well lump linedefs (word_count lump - i)

-- the same for every place that a cell's offset and the word after it can reach
pub record Noted (lump : List ℕ) (linedefs : ℕ) (notes : List Bool) : Type 0 where
  pub places : min (word_count lump) 65536 < length notes
  pub noted : (i : ℕ) → i ≤ 65536 → i ≤ word_count lump → get_or notes i false ≡ ends_well lump linedefs (word_count lump - i)
