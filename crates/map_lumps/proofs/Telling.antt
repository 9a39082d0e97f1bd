-- A map's game by what led to it. Assumes nothing.
use Prim.Native.Nat.{ℕ}
use mathlib.Core.Bool.{Bool}
use mathlib.Core.List.{List}
use mathlib.Core.Path.{◌≡◌, sym}
use lib.Dec.{ltb}
use Rattle.refusal.specs.declared.Refusal.TheVariants.{EntryNumber}
use Rattle.refusal.specs.Checks.{Check}
use Rattle.refusal.specs.Checks.{unless, ◌and_then◌}
use Rattle.wad.specs.Header.{head_of, entry_count}
use Rattle.wad.specs.Entries.{directory_of, file_check}
use Rattle.map_lumps.specs.Games.{game_at, game_by, game_answer}

-- what is answered by what the file, the marker's number and the eleventh entry after it are
pub game-by : (wad : List ℕ) (marker : ℕ) {file : Check} {below hexen : Bool} → file_check wad ≡ file
    → ltb marker (entry_count (head_of wad)) ≡ below → game_at (directory_of wad) (entry_count (head_of wad)) marker ≡ hexen
    → game_by (file and_then unless below EntryNumber) hexen ≡ game_answer wad marker
game-by wad marker e b g = λ i. game_by (sym e i and_then unless (sym b i) EntryNumber) (sym g i)
