-- BLOCKMAP: 28 (01, "References"; documents 001 and 003). A lump of 16-bit words: origin x and y, columns, rows, an offset for
-- each cell, and lists of linedef numbers. Assumes nothing.
use Rattle.std.specs.Prelude.{ℕ, zero, suc, ◌+◌, ◌-◌, ◌*◌, ◌/◌, ◌%◌, Bool, true, false, ◌&&◌, ◌||◌, cond, List, [], ◌∷◌, leb, ltb, eqb, length}
use Rattle.endian.specs.Unsigned.{u16_at}
use Rattle.refusal.specs.Checks.{Check}
use Rattle.refusal.specs.declared.Refusal.TheVariants.{Blockmap}
use Rattle.refusal.specs.Checks.{unless, ◌and_then◌, each}

-- how many words the lump has
abbrev pub word_count : List ℕ → ℕ
word_count lump = length lump / 2

-- word `i`
abbrev pub word_at : List ℕ → ℕ → ℕ
word_at lump i = u16_at lump (2 * i)

-- columns × rows
abbrev pub cells_of : List ℕ → ℕ
cells_of lump = word_at lump 2 * word_at lump 3

-- 1 to 512 columns or rows
abbrev pub side_ok : ℕ → Bool
side_ok n = leb 1 n && leb n 512

-- four words at least and whole ones, columns and rows in their limits, and all the cells' offsets inside the lump
abbrev pub header_ok : List ℕ → Bool
header_ok lump =
    leb 8 (length lump) && eqb (length lump % 2) 0 && side_ok (word_at lump 2) && side_ok (word_at lump 3)
    && leb (4 + cells_of lump) (word_count lump)

-- the mark that ends a list
abbrev pub list_end : ℕ
list_end = 65535

-- the mark is among the last `left` words of the lump
unfoldable pub list_ends : List ℕ → ℕ → Bool
list_ends lump zero = false
list_ends lump (suc left) = eqb (word_at lump (word_count lump - suc left)) list_end || list_ends lump left

-- the last `left` words of the lump, up to the mark
unfoldable pub numbers_from : List ℕ → ℕ → List ℕ
numbers_from lump zero = []
numbers_from lump (suc left) =
    cond (eqb (word_at lump (word_count lump - suc left)) list_end) []
    (word_at lump (word_count lump - suc left) ∷ numbers_from lump left)

-- the linedefs that a list at word `offset` names: the words behind its first, up to the mark
abbrev pub linedefs_named : List ℕ → ℕ → List ℕ
linedefs_named lump offset = numbers_from lump (word_count lump - (offset + 1))

-- every number of a list is below `n`
abbrev pub all_under : ℕ → List ℕ → Bool
all_under n [] = true
all_under n (x ∷ xs) = ltb x n && all_under n xs

-- a list at word `offset`: behind the offsets and inside the lump, a 0, then linedef numbers below `linedefs`, then the mark
abbrev pub list_ok : List ℕ → ℕ → ℕ → Bool
list_ok lump linedefs offset =
    leb (4 + cells_of lump) offset && ltb offset (word_count lump) && eqb (word_at lump offset) 0
    && (list_ends lump (word_count lump - (offset + 1)) && all_under linedefs (linedefs_named lump offset))

-- the list of cell `i`
abbrev pub cell_check : List ℕ → ℕ → ℕ → Check
cell_check lump linedefs i = unless (list_ok lump linedefs (word_at lump (4 + i))) (Blockmap i)

-- the header, then the cells in turn
abbrev pub blockmap_check : List ℕ → ℕ → Check
blockmap_check lump linedefs = unless (header_ok lump) (Blockmap 0) and_then each (cell_check lump linedefs) (cells_of lump)
