-- A map's own ten lumps (01, "One map"), as the parts of the file that the ten entries after the marker name, by their
-- places. Assumes nothing.
use Rattle.std.specs.Prelude.{ℕ, ◌+◌, ◌/◌, List, [], ◌∷◌, map, length, get_or}
use Rattle.refusal.specs.Checks.{Check}
use Rattle.refusal.specs.Checks.{each}
use Rattle.wad.specs.Lump.{lump_at}
use Rattle.record_table.specs.Lumps.{THINGS, LINEDEFS, SIDEDEFS, VERTEXES, SEGS, SSECTORS, NODES, SECTORS, REJECT, BLOCKMAP}

-- all ten
abbrev pub places : List ℕ
places = THINGS ∷ LINEDEFS ∷ SIDEDEFS ∷ VERTEXES ∷ SEGS ∷ SSECTORS ∷ NODES ∷ SECTORS ∷ REJECT ∷ BLOCKMAP ∷ []

-- the lumps of the map whose marker is entry `marker`, from place 0 on: the marker has no bytes
abbrev pub map_lumps : List ℕ → List ℕ → ℕ → List (List ℕ)
map_lumps wad dir marker = [] ∷ map (λ place. lump_at wad dir (marker + place)) places

-- the lump at `place`
abbrev pub map_lump : List (List ℕ) → ℕ → List ℕ
map_lump lumps place = get_or lumps place []

-- how many records of `size` bytes it has
abbrev pub record_count : List (List ℕ) → ℕ → ℕ → ℕ
record_count lumps place size = length (map_lump lumps place) / size

-- the first refusal among the checks of places 1 to `n`, in turn
abbrev pub each_place : (ℕ → Check) → ℕ → Check
each_place f n = each (λ i. f (i + 1)) n
