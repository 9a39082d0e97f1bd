-- What is answered of a lump and of a map of the pair (W-207): each from the file that has the entry, and from no other.
-- Assumes nothing.
use Rattle.std.specs.Prelude.{ℕ, List, ◌≡◌, Result, Ok, Err}
use Rattle.wad.specs.declared.lumps.Entry.{Entry}
use Rattle.refusal.specs.declared.Refusal.{Refusal}
use Rattle.wad.specs.Entries.{directory_of}
use Rattle.wad.specs.Lump.{entry_offset, entry_size, part_of}
use Rattle.map_check.specs.Verdict.{verdict_by, words_after_by}
use Rattle.pair.specs.declared.search.PairSearch.{PairSearch}
use Rattle.pair.specs.declared.PairEntry.{PairEntry}
use Rattle.pair.specs.declared.PairVerdict.{PairVerdict}
use Rattle.pair.specs.Search.{file_of, lump_search, map_search}

-- where a found entry's part of its file lies, or the refusal
abbrev pub entry_by : List ℕ → Result ℕ Refusal → Result Entry Refusal
entry_by wad (Ok i) = Ok (record { offset = entry_offset (directory_of wad) i; size = entry_size (directory_of wad) i })
entry_by wad (Err r) = Err r

-- what a search leads to, in the file that it notes
abbrev pub entry_of : List ℕ → List ℕ → PairSearch → PairEntry
entry_of base patch search =
    record { file = search.file; entry = entry_by (file_of base patch search.file) search.marker }

-- where the lump of an asked name lies, and in which file
abbrev pub pair_entry : List ℕ → List ℕ → List ℕ → PairEntry
pair_entry base patch name = entry_of base patch (lump_search base patch name)

-- the part that an answer names, out of the file that it notes; none where it refuses
abbrev pub part_by : List ℕ → List ℕ → PairEntry → List ℕ
part_by base patch answer = part_of (file_of base patch answer.file) answer.entry

-- the lump itself
abbrev pub pair_lump : List ℕ → List ℕ → List ℕ → List ℕ
pair_lump base patch name = part_by base patch (pair_entry base patch name)

-- the map check from the found marker on, of the file that a search notes
abbrev pub verdict_of : List ℕ → List ℕ → List ℕ → PairSearch → PairVerdict
verdict_of base patch words search =
    record { file = search.file; verdict = verdict_by (file_of base patch search.file) words search.marker }

abbrev pub words_after_search : List ℕ → List ℕ → List ℕ → PairSearch → List ℕ
words_after_search base patch words search = words_after_by (file_of base patch search.file) words search.marker

-- the verdict on the map of an asked name, and in which file it is
abbrev pub pair_verdict : List ℕ → List ℕ → List ℕ → List ℕ → PairVerdict
pair_verdict base patch name words = verdict_of base patch words (map_search base patch name)

-- what the lent words hold afterwards
abbrev pub pair_words : List ℕ → List ℕ → List ℕ → List ℕ → List ℕ
pair_words base patch name words = words_after_search base patch words (map_search base patch name)

-- what is promised of the pair's map check: the verdict, and the words afterwards
pub record PairAnswered (base patch name words : List ℕ) (answer : PairVerdict) (after : List ℕ) : Type 0 where
  pub verdicts : answer ≡ pair_verdict base patch name words
  pub leaves : after ≡ pair_words base patch name words
