-- What holds of a lookup (02, W-210). Assumes nothing.
use Rattle.std.specs.Prelude.{ℕ, ◌≤◌, List, ◌≡◌, length, Ok}
use Rattle.wad.specs.Header.{head_of, entry_count}
use Rattle.wad.specs.Entries.{directory_of, file_check}
use Rattle.wad.specs.Map.{find_marker}
use Rattle.index.specs.Index.{index_bytes}
use Rattle.index_find.specs.Finding.{find_answer}

pub record LookupHolds (wad index name : List ℕ) : Type 0 where
  -- never more than 13 comparisons, whatever the index holds
  pub few : (find_answer wad index name).compared ≤ 13
  -- over the right index it is the search from the end, for every name of eight bytes
  pub same : file_check wad ≡ Ok tt → index ≡ index_bytes wad → length name ≡ 8
      → (find_answer wad index name).marker ≡ find_marker (directory_of wad) name (entry_count (head_of wad))
