-- The first hazard of a map, and what is promised of the answer: the map check's verdict, the hazard where it accepts, and the
-- lent words. Assumes nothing.
use Rattle.std.specs.Prelude.{ℕ, Bool, List, ◌≡◌, Option, Result, Ok, Err}
use Rattle.std.specs.Result.{result_err}
use Rattle.wad.specs.Header.{head_of, entry_count}
use Rattle.wad.specs.Entries.{directory_of}
use Rattle.record_linedef.specs.Linedefs.{linedef_size}
use Rattle.record_table.specs.Lumps.{LINEDEFS, SSECTORS, BLOCKMAP}
use Rattle.map_lumps.specs.Lumps.{map_lumps, map_lump, record_count}
use Rattle.map_lumps.specs.Games.{game_at}
use Rattle.map_check.specs.Verdict.{Verdict, verdict, words_after}
use Rattle.refusal.specs.declared.Refusal.{Refusal}
use Rattle.hazard.specs.declared.Hazard.{Hazard}
use Rattle.hazard.specs.Findings.{Finding, ◌or_else◌}
use Rattle.hazard.specs.Segs.{seg_twice}
use Rattle.hazard.specs.Lists.{long_list}
use Rattle.hazard.specs.Numbers.{high_number}

-- the first hazard of a map's lumps: a seg in two subsectors, then a long list, then a high number
abbrev pub hazard_in : Bool → List (List ℕ) → Finding
hazard_in hexen lumps =
    seg_twice (map_lump lumps SSECTORS)
    or_else long_list (map_lump lumps BLOCKMAP) (record_count lumps LINEDEFS (linedef_size hexen))
    or_else high_number hexen lumps

-- the first hazard of the map at entry `marker` of a file, by its game
abbrev pub hazard_at : List ℕ → ℕ → Finding
hazard_at wad marker =
    hazard_in (game_at (directory_of wad) (entry_count (head_of wad)) marker) (map_lumps wad (directory_of wad) marker)

-- the refusal of the map check, or the hazard of the map that it accepts
abbrev pub hazard_by : List ℕ → Verdict → Result (Option Hazard) Refusal
hazard_by wad (Ok a) = Ok (result_err (hazard_at wad a.marker))
hazard_by wad (Err r) = Err r

-- what is promised: the answer, and the words as the map check leaves them
pub record HazardTold (wad name words : List ℕ) (answer : Result (Option Hazard) Refusal) (after : List ℕ) : Type 0 where
  pub answers : answer ≡ hazard_by wad (verdict wad name words)
  pub leaves : after ≡ words_after wad name words
