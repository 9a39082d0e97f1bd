-- A list of BLOCKMAP that names more linedefs than the map has. The engine walks it to its end at every move. Assumes nothing.
use Rattle.std.specs.Prelude.{ℕ, ◌+◌, Bool, List, leb, length}
use Rattle.map_blockmap.specs.Blockmap.{word_at, cells_of, linedefs_named}
use Rattle.hazard.specs.declared.Hazard.TheVariants.{LongList}
use Rattle.hazard.specs.Findings.{Finding, found_unless, each_of}

-- the list at word `offset` names at most `linedefs` linedefs; one that is named twice counts twice
abbrev pub short_ok : List ℕ → ℕ → ℕ → Bool
short_ok lump linedefs offset = leb (length (linedefs_named lump offset)) linedefs

-- the hazard of cell `i`
abbrev pub long_list_at : List ℕ → ℕ → ℕ → Finding
long_list_at lump linedefs i = found_unless (short_ok lump linedefs (word_at lump (4 + i))) (LongList i)

-- the first such cell
abbrev pub long_list : List ℕ → ℕ → Finding
long_list lump linedefs = each_of (long_list_at lump linedefs) (cells_of lump)
