-- The marker and the ten names after it: 12 (01, "One map"). Assumes nothing.
use Rattle.std.specs.Prelude.{ℕ, ◌+◌, Bool, ◌&&◌, List, ltb, eqb}
use Rattle.refusal.specs.Checks.{Check}
use Rattle.refusal.specs.declared.Refusal.TheVariants.{MarkerRun}
use Rattle.refusal.specs.Checks.{unless, ◌and_then◌}
use Rattle.wad.specs.Entries.{entry_name}
use Rattle.wad.specs.Lump.{entry_size}
use Rattle.name.specs.Names.{same_name}
use Rattle.record_table.specs.Lumps.{lump_name}
use Rattle.map_lumps.specs.Lumps.{each_place}

-- entry `i` of a directory of `count` entries is there and has the name
abbrev pub named_ok : List ℕ → ℕ → ℕ → List ℕ → Bool
named_ok dir count i name = ltb i count && same_name (entry_name dir i) name

-- the lump of `place` follows the marker in its place
abbrev pub place_check : List ℕ → ℕ → ℕ → ℕ → Check
place_check dir count marker place = unless (named_ok dir count (marker + place) (lump_name place)) (MarkerRun place)

-- 12 in place order
abbrev pub run_check : List ℕ → ℕ → ℕ → Check
run_check dir count marker =
    unless (eqb (entry_size dir marker) 0) (MarkerRun 0) and_then each_place (place_check dir count marker) 10
