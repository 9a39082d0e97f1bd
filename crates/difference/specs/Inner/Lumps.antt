-- Not for the reader of promises: what only contracts of inner functions cite. Assumes nothing.
use Rattle.std.specs.Prelude.{ℕ, ◌+◌, ◌≤◌, Bool, List, ◌≡◌, length, Result, Ok, Err}
use Rattle.refusal.specs.declared.Refusal.{Refusal}
use Rattle.refusal.specs.Checks.{Check}
use Rattle.layout.specs.Buffers.{buffer_after}
use Rattle.wad.specs.Header.{head_of, entry_count}
use Rattle.wad.specs.Entries.{file_check}
use Rattle.record_table.specs.Lumps.{record_size}
use Rattle.map_lumps.specs.Lumps.{map_lump}
use Rattle.difference.specs.Records.{count_in}
use Rattle.difference.specs.Differences.{game_in, lumps_in, change_list, change_counts, pair_check}

-- a marker of a file that passes, with its ten lumps behind it
pub record MapIn (wad : List ℕ) (marker : ℕ) : Type 0 where
  pub file : file_check wad ≡ Ok tt
  pub long : marker + 11 ≤ entry_count (head_of wad)

-- the records of each of the eight lumps have numbers of 16 bits
abbrev pub Numbered : Bool → List (List ℕ) → Type 0
Numbered hexen lumps = (place : ℕ) → 1 ≤ place → place ≤ 8 → count_in (record_size hexen place) (map_lump lumps place) ≤ 65535

-- the counts where the check of both passes
abbrev pub counted_if : Check → List ℕ → Result (List ℕ) Refusal
counted_if (Ok _) counts = Ok counts
counted_if (Err r) counts = Err r

-- what is answered of two accepted maps by their markers
pub record Compared (oldWad : List ℕ) (old : ℕ) (newWad : List ℕ) (new : ℕ) (list : List ℕ) (answer : Result (List ℕ) Refusal)
    (listThen : List ℕ) : Type 0 where
  pub answers : answer
      ≡ counted_if (pair_check oldWad old newWad new (length list))
      (change_counts (game_in oldWad old) (lumps_in oldWad old) (lumps_in newWad new))
  pub lists : listThen ≡ buffer_after (pair_check oldWad old newWad new (length list)) (change_list oldWad old newWad new) list
