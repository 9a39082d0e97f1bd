-- Which game a map is of, by the entry after its ten lumps (01, "One map"; W-205). Assumes nothing.
use Rattle.std.specs.Prelude.{ℕ, ◌+◌, Bool, cond, List, [], ◌∷◌, ltb, Result, Ok, Err}
use Rattle.refusal.specs.Checks.{Check}
use Rattle.refusal.specs.declared.Refusal.{Refusal}
use Rattle.refusal.specs.declared.Refusal.TheVariants.{EntryNumber}
use Rattle.refusal.specs.Checks.{unless, ◌and_then◌}
use Rattle.wad.specs.Header.{head_of, entry_count}
use Rattle.wad.specs.Entries.{directory_of, file_check}
use Rattle.map_lumps.specs.declared.run.Game.{Game}
use Rattle.map_lumps.specs.declared.run.Game.TheVariants.{Doom, Hexen}
use Rattle.map_lumps.specs.Run.{named_ok}

-- BEHAVIOR, the lump that makes a Hexen map
abbrev pub behavior : List ℕ
behavior = 66 ∷ 69 ∷ 72 ∷ 65 ∷ 86 ∷ 73 ∷ 79 ∷ 82 ∷ []

-- the map's game, true for Hexen: the eleventh entry after the marker is there and is BEHAVIOR
abbrev pub game_at : List ℕ → ℕ → ℕ → Bool
game_at dir count marker = named_ok dir count (marker + 11) behavior

-- the refusal, or the game
abbrev pub game_by : Check → Bool → Result Game Refusal
game_by (Ok _) hexen = Ok (cond hexen Hexen Doom)
game_by (Err r) hexen = Err r

-- what is answered of the game of a map by its marker: 1 to 6, then 7; nothing else is asked of that entry
abbrev pub game_answer : List ℕ → ℕ → Result Game Refusal
game_answer wad marker =
    game_by (file_check wad and_then unless (ltb marker (entry_count (head_of wad))) EntryNumber)
    (game_at (directory_of wad) (entry_count (head_of wad)) marker)
