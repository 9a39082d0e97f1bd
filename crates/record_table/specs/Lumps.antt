-- The table of a map's lumps (01, "One map"; W-205): places, names, record sizes in both games, and counts. The marker is
-- place 0. Assumes nothing.
use Rattle.std.specs.Prelude.{ℕ, ◌-◌, Bool, true, false, ◌&&◌, cond, ◌≡◌, List, [], ◌∷◌, eqb, get_or}
use Rattle.record_thing.specs.Things.{thing_size, thing_place}
use Rattle.record_linedef.specs.Linedefs.{linedef_size, linedef_place}
use Rattle.record.specs.Sidedefs.{sidedef_size, sidedef_place}
use Rattle.record.specs.Vertexes.{vertex_size, vertex_place}
use Rattle.record.specs.Segs.{seg_size, seg_place}
use Rattle.record.specs.Subsectors.{subsector_size, subsector_place}
use Rattle.record.specs.Nodes.{node_size, node_place}
use Rattle.record.specs.Sectors.{sector_size, sector_place}
use Rattle.record_table.specs.declared.LumpRow.{LumpRow}
use Rattle.record_table.specs.declared.CountRow.{CountRow}
use Rattle.record_table.specs.declared.KindRow.{KindRow}

-- the places by the lumps' names
abbrev pub THINGS : ℕ
THINGS = thing_place

abbrev pub LINEDEFS : ℕ
LINEDEFS = linedef_place

abbrev pub SIDEDEFS : ℕ
SIDEDEFS = sidedef_place

abbrev pub VERTEXES : ℕ
VERTEXES = vertex_place

abbrev pub SEGS : ℕ
SEGS = seg_place

abbrev pub SSECTORS : ℕ
SSECTORS = subsector_place

abbrev pub NODES : ℕ
NODES = node_place

abbrev pub SECTORS : ℕ
SECTORS = sector_place

abbrev pub REJECT : ℕ
REJECT = 9

abbrev pub BLOCKMAP : ℕ
BLOCKMAP = 10

-- a row: name, and record sizes in Doom and in Hexen
abbrev lump : List ℕ → ℕ → ℕ → LumpRow
lump name size hexen = record { name = name; size = size; hexen_size = hexen }

-- the ten lumps from place 1 on; size 0 where there are no records
abbrev pub lumps : List LumpRow
lumps =
    lump (84 ∷ 72 ∷ 73 ∷ 78 ∷ 71 ∷ 83 ∷ 0 ∷ 0 ∷ []) (thing_size false) (thing_size true)  -- THINGS
    ∷ lump (76 ∷ 73 ∷ 78 ∷ 69 ∷ 68 ∷ 69 ∷ 70 ∷ 83 ∷ []) (linedef_size false) (linedef_size true)  -- LINEDEFS
    ∷ lump (83 ∷ 73 ∷ 68 ∷ 69 ∷ 68 ∷ 69 ∷ 70 ∷ 83 ∷ []) sidedef_size sidedef_size  -- SIDEDEFS
    ∷ lump (86 ∷ 69 ∷ 82 ∷ 84 ∷ 69 ∷ 88 ∷ 69 ∷ 83 ∷ []) vertex_size vertex_size  -- VERTEXES
    ∷ lump (83 ∷ 69 ∷ 71 ∷ 83 ∷ 0 ∷ 0 ∷ 0 ∷ 0 ∷ []) seg_size seg_size  -- SEGS
    ∷ lump (83 ∷ 83 ∷ 69 ∷ 67 ∷ 84 ∷ 79 ∷ 82 ∷ 83 ∷ []) subsector_size subsector_size  -- SSECTORS
    ∷ lump (78 ∷ 79 ∷ 68 ∷ 69 ∷ 83 ∷ 0 ∷ 0 ∷ 0 ∷ []) node_size node_size  -- NODES
    ∷ lump (83 ∷ 69 ∷ 67 ∷ 84 ∷ 79 ∷ 82 ∷ 83 ∷ 0 ∷ []) sector_size sector_size  -- SECTORS
    ∷ lump (82 ∷ 69 ∷ 74 ∷ 69 ∷ 67 ∷ 84 ∷ 0 ∷ 0 ∷ []) 0 0  -- REJECT
    ∷ lump (66 ∷ 76 ∷ 79 ∷ 67 ∷ 75 ∷ 77 ∷ 65 ∷ 80 ∷ []) 0 0  -- BLOCKMAP
    ∷ []

-- the name of the lump at `place`, eight bytes
abbrev pub lump_name : ℕ → List ℕ
lump_name place = (get_or lumps (place - 1) (lump [] 0 0)).name

-- the size of its records, by the game
abbrev pub record_size : Bool → ℕ → ℕ
record_size hexen place =
    cond hexen (get_or lumps (place - 1) (lump [] 0 0)).hexen_size (get_or lumps (place - 1) (lump [] 0 0)).size

-- a row: least and most
abbrev count : ℕ → ℕ → CountRow
count least most = record { 0 = least; 1 = most }

-- how many records each lump has, from THINGS to SECTORS; REJECT and BLOCKMAP have no count
abbrev pub counts : List CountRow
counts =
    count 0 65535 ∷ count 1 65535 ∷ count 1 65535 ∷ count 1 65535
    ∷ count 1 65535 ∷ count 1 32767 ∷ count 0 32767 ∷ count 1 65535 ∷ []

-- the least count at `place`
abbrev pub least_count : ℕ → ℕ
least_count place = (get_or counts (place - 1) (count 0 0)).0

-- the most
abbrev pub most_count : ℕ → ℕ
most_count place = (get_or counts (place - 1) (count 0 0)).1

-- a kind: place, and sizes in Doom and in Hexen
abbrev kind : ℕ → ℕ → ℕ → KindRow
kind place size hexen = record { 0 = place; 1 = size; 2 = hexen }

-- past the last kind
abbrev pub no_kind : KindRow
no_kind = kind 0 0 0

-- place and sizes of each kind of record, as its type carries them: things and linedefs have two
abbrev pub kinds : List KindRow
kinds =
    kind thing_place (thing_size false) (thing_size true)
    ∷ kind linedef_place (linedef_size false) (linedef_size true)
    ∷ kind sidedef_place sidedef_size sidedef_size
    ∷ kind vertex_place vertex_size vertex_size
    ∷ kind seg_place seg_size seg_size
    ∷ kind subsector_place subsector_size subsector_size
    ∷ kind node_place node_size node_size
    ∷ kind sector_place sector_size sector_size
    ∷ []

-- a kind's sizes are the table's at its place
abbrev agrees : KindRow → Bool
agrees k = eqb k.1 (record_size false k.0) && eqb k.2 (record_size true k.0)

-- every kind of a list does
abbrev all_agree : List KindRow → Bool
all_agree [] = true
all_agree (k ∷ ks) = agrees k && all_agree ks

-- and so do the eight
abbrev pub KindsAgree : Type 0
KindsAgree = all_agree kinds ≡ true
