-- What is answered of two maps, and what the list and the words hold afterwards (02, W-213). Assumes nothing.
use Rattle.std.specs.Prelude.{ℕ, ◌+◌, Bool, true, false, not, List, [], ◌∷◌, ◌≡◌, leb, length, Result, Ok, Err}
use Rattle.refusal.specs.Checks.{Check}
use Rattle.refusal.specs.declared.Refusal.TheVariants.{DifferenceRoom, DifferenceGames}
use Rattle.refusal.specs.Checks.{unless, ◌and_then◌}
use Rattle.layout.specs.Rows.{laid_out}
use Rattle.layout.specs.Buffers.{buffer_after}
use Rattle.wad.specs.Header.{head_of, entry_count}
use Rattle.wad.specs.Entries.{directory_of}
use Rattle.record_table.specs.Lumps.{record_size}
use Rattle.map_lumps.specs.Lumps.{map_lumps, map_lump}
use Rattle.map_lumps.specs.Games.{game_at}
use Rattle.map_check.specs.Verdict.{Verdict, verdict, words_after}
use Rattle.difference.specs.declared.CompareError.{CompareError}
use Rattle.difference.specs.declared.CompareError.TheVariants.{Old, New, Both}
use Rattle.difference.specs.Records.{changes}

-- ---- two maps' lumps

-- the changed records at a place, 1 to 8
abbrev pub changes_at : Bool → List (List ℕ) → List (List ℕ) → ℕ → List ℕ
changes_at hexen old new place = changes (record_size hexen place) (map_lump old place) (map_lump new place)

-- those of the eight lumps of records, one after the other
abbrev pub changes_in : Bool → List (List ℕ) → List (List ℕ) → List ℕ
changes_in hexen old new = laid_out (λ i. changes_at hexen old new (i + 1)) 8

-- how many there are of each
abbrev pub change_counts : Bool → List (List ℕ) → List (List ℕ) → List ℕ
change_counts hexen old new = laid_out (λ i. length (changes_at hexen old new (i + 1)) ∷ []) 8

-- ---- two files

-- the game of the map at entry `marker`, and its lumps
abbrev pub game_in : List ℕ → ℕ → Bool
game_in wad marker = game_at (directory_of wad) (entry_count (head_of wad)) marker

abbrev pub lumps_in : List ℕ → ℕ → List (List ℕ)
lumps_in wad marker = map_lumps wad (directory_of wad) marker

abbrev pub same_game : Bool → Bool → Bool
same_game true hexen = hexen
same_game false hexen = not hexen

-- the list of two maps by their markers
abbrev pub change_list : List ℕ → ℕ → List ℕ → ℕ → List ℕ
change_list oldWad old newWad new = changes_in (game_in oldWad old) (lumps_in oldWad old) (lumps_in newWad new)

-- 76, then 75, by the room in the list
abbrev pub pair_check : List ℕ → ℕ → List ℕ → ℕ → ℕ → Check
pair_check oldWad old newWad new room =
    unless (same_game (game_in oldWad old) (game_in newWad new)) DifferenceGames
    and_then unless (leb (length (change_list oldWad old newWad new)) room) DifferenceRoom

-- the counts, or what is refused of both
abbrev pub pair_answer : Check → List ℕ → Result (List ℕ) CompareError
pair_answer (Ok _) counts = Ok counts
pair_answer (Err r) counts = Err (Both r)

-- the old map's refusal, then the new one's, then those of both
abbrev pub differences_by : Verdict → Verdict → List ℕ → List ℕ → ℕ → Result (List ℕ) CompareError
differences_by (Err r) v oldWad newWad room = Err (Old r)
differences_by (Ok old) (Err r) oldWad newWad room = Err (New r)
differences_by (Ok old) (Ok new) oldWad newWad room =
    pair_answer (pair_check oldWad old.marker newWad new.marker room)
    (change_counts (game_in oldWad old.marker) (lumps_in oldWad old.marker) (lumps_in newWad new.marker))

abbrev pub list_by : Verdict → Verdict → List ℕ → List ℕ → List ℕ → List ℕ
list_by (Err r) v oldWad newWad list = list
list_by (Ok old) (Err r) oldWad newWad list = list
list_by (Ok old) (Ok new) oldWad newWad list =
    buffer_after (pair_check oldWad old.marker newWad new.marker (length list)) (change_list oldWad old.marker newWad new.marker) list

-- the new map is looked at where the old one is accepted
abbrev pub words_then_by : Verdict → List ℕ → List ℕ → List ℕ → List ℕ
words_then_by (Err r) newWad newName words = words
words_then_by (Ok old) newWad newName words = words_after newWad newName words

-- what is promised: the answer, the words as the two checks leave them, one after the other, and the list
pub record Differ (oldWad oldName newWad newName words list : List ℕ) (answer : Result (List ℕ) CompareError)
    (wordsThen listThen : List ℕ) : Type 0 where
  pub answers : answer
      ≡ differences_by (verdict oldWad oldName words) (verdict newWad newName (words_after oldWad oldName words))
      oldWad newWad (length list)
  pub leaves : wordsThen ≡ words_then_by (verdict oldWad oldName words) newWad newName (words_after oldWad oldName words)
  pub lists : listThen
      ≡ list_by (verdict oldWad oldName words) (verdict newWad newName (words_after oldWad oldName words)) oldWad newWad list
