-- Answers on a name index: whether it is the file's, and where it leads to (W-210). Assumes nothing.
use Rattle.std.specs.Prelude.{ℕ, List, ◌≡◌, Result, Ok, Err}
use Rattle.wad.specs.declared.map.MarkerSearch.{MarkerSearch}
use Rattle.refusal.specs.declared.Refusal.{Refusal}
use Rattle.refusal.specs.declared.status.Status.{Status}
use Rattle.refusal.specs.Status.{accepted, refused, status_of}
use Rattle.index_check.specs.Checking.{index_check}
use Rattle.index_find.specs.Finding.{find_answer}
use Rattle.export_index.specs.declared.IndexAnswer.{IndexAnswer}

-- the full check's answer
abbrev pub IndexJudged : List ℕ → List ℕ → Status → Type 0
IndexJudged wad index answer = answer ≡ status_of (index_check wad index)

-- the entry, and how many names were compared: this with 11 too
abbrev pub entry_with : ℕ → Result ℕ Refusal → IndexAnswer
entry_with compared (Ok entry) = record { status = accepted; entry = entry; compared = compared }
entry_with compared (Err r) = record { status = refused r; entry = 0; compared = compared }

abbrev pub index_entry_out : MarkerSearch → IndexAnswer
index_entry_out search = entry_with search.compared search.marker

-- the lookup's answer
abbrev pub IndexFound : List ℕ → List ℕ → List ℕ → IndexAnswer → Type 0
IndexFound wad index name answer = answer ≡ index_entry_out (find_answer wad index name)
