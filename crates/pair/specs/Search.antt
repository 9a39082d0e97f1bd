-- Which of two files, a base and a patch over it, has a name (W-207). Assumes nothing.
use Rattle.std.specs.Prelude.{ℕ, cond, List, eqb, length, Result, Ok, Err}
use Rattle.std.specs.Prelude.{Option, Some, None}
use Rattle.refusal.specs.Checks.{Check}
use Rattle.refusal.specs.declared.Refusal.{Refusal}
use Rattle.refusal.specs.declared.Refusal.TheVariants.{MapName, EntryMissing}
use Rattle.refusal.specs.Checks.{unless}
use Rattle.name.specs.Names.{map_name_ok}
use Rattle.wad.specs.Header.{head_of, entry_count}
use Rattle.wad.specs.Entries.{directory_of, file_check}
use Rattle.wad.specs.Map.{find_marker}
use Rattle.pair.specs.declared.search.File.{File}
use Rattle.pair.specs.declared.search.File.TheVariants.{Base, Patch}
use Rattle.pair.specs.declared.search.PairSearch.{PairSearch}

-- how the files are noted
abbrev pub no_file : Option File
no_file = None

abbrev pub base_file : Option File
base_file = Some Base

abbrev pub patch_file : Option File
patch_file = Some Patch

-- the patch if it is noted, else the base
abbrev pub file_of : List ℕ → List ℕ → Option File → List ℕ
file_of base patch (Some Patch) = patch
file_of base patch (Some Base) = base
file_of base patch None = base

-- the last entry of a file that has the name; a name of another length than eight bytes has none
abbrev pub last_named : List ℕ → List ℕ → Result ℕ Refusal
last_named wad name = cond (eqb (length name) 8) (find_marker (directory_of wad) name (entry_count (head_of wad))) (Err EntryMissing)

-- a refusal, which notes `file`, or where the check passes what follows
abbrev pub after_check : Option File → Check → PairSearch → PairSearch
after_check file (Ok _) next = next
after_check file (Err r) next = record { file = file; marker = Err r }

-- an entry of `file`, or where it has none what follows
abbrev pub or_else : Option File → Result ℕ Refusal → PairSearch → PairSearch
or_else file (Ok i) next = record { file = file; marker = Ok i }
or_else file (Err r) next = next

-- the last entry of the patch that has the name, otherwise the last of the base, otherwise 11, which notes no file
abbrev pub either_named : List ℕ → List ℕ → List ℕ → PairSearch
either_named base patch name =
    or_else patch_file (last_named patch name)
    (or_else base_file (last_named base name)
    (record { file = no_file; marker = Err EntryMissing }))

-- 1 to 6 of the patch, then of the base, then what is asked of the name, which notes no file, then the search
abbrev pub search_pair : List ℕ → List ℕ → List ℕ → Check → PairSearch
search_pair base patch name asked =
    after_check patch_file (file_check patch)
    (after_check base_file (file_check base)
    (after_check no_file asked
    (either_named base patch name)))

-- a lump's entry: nothing is asked of its name
abbrev pub lump_search : List ℕ → List ℕ → List ℕ → PairSearch
lump_search base patch name = search_pair base patch name (Ok tt)

-- a map's marker: 10 for a name that is no map's
abbrev pub map_search : List ℕ → List ℕ → List ℕ → PairSearch
map_search base patch name = search_pair base patch name (unless (map_name_ok name) MapName)
