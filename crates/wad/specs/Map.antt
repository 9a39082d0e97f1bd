-- The search for a map's marker by an asked name (01, "One map", and W-203): 10 and 11. Assumes nothing.
use Rattle.std.specs.Prelude.{ℕ, zero, suc, ◌-◌, cond, List, length, Result, Ok, Err}
use Rattle.refusal.specs.Checks.{Check}
use Rattle.refusal.specs.declared.Refusal.{Refusal}
use Rattle.refusal.specs.declared.Refusal.TheVariants.{MapName, EntryMissing}
use Rattle.refusal.specs.Checks.{unless, ◌and_then◌}
use Rattle.wad.specs.declared.map.MarkerSearch.{MarkerSearch}
use Rattle.wad.specs.Header.{head_of, entry_count}
use Rattle.wad.specs.Entries.{entry_name, directory_of, directory_check, file_check}
use Rattle.name.specs.Names.{same_name, map_name_ok}

-- the last of the first `n` entries that has the name
unfoldable pub find_marker : List ℕ → List ℕ → ℕ → Result ℕ Refusal
find_marker dir name zero = Err EntryMissing
find_marker dir name (suc n) = cond (same_name (entry_name dir n) name) (Ok n) (find_marker dir name n)

-- how many names the search compared, from the last of `count` entries down: the count less the found entry's number, or the
-- whole count if none has the name
abbrev pub counted : ℕ → Result ℕ Refusal → MarkerSearch
counted count (Ok i) = record { marker = Ok i; compared = count - i }
counted count (Err r) = record { marker = Err r; compared = count }

-- the refusal, or what the search finds
abbrev pub found : Check → Result ℕ Refusal → Result ℕ Refusal
found (Ok _) marker = marker
found (Err r) marker = Err r

-- what is answered of a map's marker, by the file's length, header and directory and the asked name
abbrev pub marker_by : ℕ → List ℕ → List ℕ → List ℕ → Result ℕ Refusal
marker_by len head dir name =
    found (directory_check len head dir and_then unless (map_name_ok name) MapName) (find_marker dir name (entry_count head))

abbrev pub marker_answer : List ℕ → List ℕ → Result ℕ Refusal
marker_answer wad name = marker_by (length wad) (head_of wad) (directory_of wad) name

-- the refusal, with no name compared, or what the search finds and how many it compared
abbrev pub searched : Check → MarkerSearch → MarkerSearch
searched (Ok _) search = search
searched (Err r) search = record { marker = Err r; compared = 0 }

-- the same with how many names were compared
abbrev pub search_answer : List ℕ → List ℕ → MarkerSearch
search_answer wad name =
    let count = entry_count (head_of wad) in
    searched (file_check wad and_then unless (map_name_ok name) MapName) (counted count (find_marker (directory_of wad) name count))
