-- What scraps have to do with the whole lump (02, W-209: "equals the whole lump's however the bytes are cut, record number
-- included"). The whole lump is judged by the map check's own definitions. Assumes nothing.
use Rattle.std.specs.Prelude.{ℕ, ◌+◌, ◌/◌, ◌≤◌, false, ◌≡◌, length}
use mathlib.Core.List.{List, [], ◌∷◌, flatten}
use Rattle.refusal.specs.Checks.{Check}
use Rattle.refusal.specs.Checks.{◌and_then◌, each}
use Rattle.record.specs.Sidedefs.{sidedef_size}
use Rattle.record_table.specs.Lumps.{SIDEDEFS}
use Rattle.map_lumps.specs.Sizes.{size_check}
use Rattle.map_reference.specs.References.{sidedef_check}
use Rattle.sidedefs_stream.specs.declared.Stream.{Stream}
use Rattle.wad.specs.Header.{most_bytes}
use Rattle.sidedefs_stream.specs.Scraps.{started, fed, sectors_check, total_check, stream_verdict}

-- a map's lumps up to SIDEDEFS, the others without bytes
abbrev pub lumps_with : List ℕ → List (List ℕ)
lumps_with sidedefs = [] ∷ [] ∷ [] ∷ sidedefs ∷ []

-- the whole lump judged: 80, 81, then 20, 21 and the first 24 as in a map
abbrev pub lump_check : ℕ → List ℕ → Check
lump_check sectors sidedefs =
    sectors_check sectors
    and_then total_check (length sidedefs)
    and_then size_check false (lumps_with sidedefs) SIDEDEFS
    and_then each (sidedef_check sidedefs sectors) (length sidedefs / sidedef_size)

-- fed with scraps, one after the other
abbrev pub fed_all : Stream → List (List ℕ) → Stream
fed_all s [] = s
fed_all s (scrap ∷ scraps) = fed_all (fed s scrap) scraps

-- from the start's own state, whatever the scraps, the verdict is the whole lump's
abbrev pub VerdictWhole : Type 0
VerdictWhole = (sectors : ℕ) (scraps : List (List ℕ)) → stream_verdict (fed_all (started sectors) scraps)
    ≡ lump_check sectors (flatten scraps)

-- any two cuts of the same bytes leave the same state, from any state
abbrev pub CutsAlike : Type 0
CutsAlike = (s : Stream) (these those : List (List ℕ)) → flatten these ≡ flatten those → fed_all s these ≡ fed_all s those

-- the count of bytes stops behind the most, however much is fed
abbrev pub TotalStops : Type 0
TotalStops = (sectors : ℕ) (scraps : List (List ℕ)) → (fed_all (started sectors) scraps).bytes ≤ most_bytes + 1
