-- The last entry of a name by an index, by halves (02, W-210). The index is not trusted: the entry that it leads to
-- is looked up in the directory. Assumes nothing.
use Rattle.std.specs.Prelude.{ℕ, zero, suc, ◌+◌, ◌-◌, ◌/◌, Bool, false, ◌&&◌, not, cond, List, ltb, eqb, length, Result, Ok, Err}
use Rattle.endian.specs.Unsigned.{u16_at}
use Rattle.refusal.specs.declared.Refusal.{Refusal}
use Rattle.refusal.specs.declared.Refusal.TheVariants.{EntryMissing}
use Rattle.name.specs.Names.{same_bytes, same_name}
use Rattle.wad.specs.declared.map.MarkerSearch.{MarkerSearch}
use Rattle.wad.specs.Slices.{part}
use Rattle.wad.specs.Header.{head_of, entry_count}
use Rattle.wad.specs.Entries.{directory_of, entry_name}
use Rattle.wad.specs.Map.{searched}
use Rattle.index.specs.Records.{padded, below_from}
use Rattle.index.specs.Index.{record_offset}
use Rattle.index_check.specs.Checking.{index_head_check}

-- record `i` of the index: the name's bytes as they are, and the entry number
abbrev pub name_in : List ℕ → ℕ → List ℕ
name_in index i = part index (record_offset i) 8

abbrev pub number_in : List ℕ → ℕ → ℕ
number_in index i = u16_at index (record_offset i + 8)

-- by bytes, the name of record `i` is not above the asked name
abbrev pub not_above : List ℕ → List ℕ → ℕ → Bool
not_above index name i = not (below_from 8 0 (padded name) (name_in index i) false)

-- it is equal to the asked name
abbrev pub is_equal : List ℕ → List ℕ → ℕ → Bool
is_equal index name i = same_bytes (name_in index i) (padded name)

-- of the `left` records behind the `past` gone past, compare the one behind half of them, rounded down; if it is not
-- above go on after it, otherwise before it: how many are gone past in the end
unfoldable pub past_by : (ℕ → Bool) → ℕ → ℕ → ℕ → ℕ
past_by low zero past left = past
past_by low (suc fuel) past left =
    cond (eqb left 0) past
    (cond (low (past + left / 2)) (past_by low fuel (past + left / 2 + 1) (left - left / 2 - 1)) (past_by low fuel past (left / 2)))

-- and how many were compared
unfoldable pub compared_by : (ℕ → Bool) → ℕ → ℕ → ℕ → ℕ
compared_by low zero past left = 0
compared_by low (suc fuel) past left =
    cond (eqb left 0) 0
    (suc
    (cond (low (past + left / 2)) (compared_by low fuel (past + left / 2 + 1) (left - left / 2 - 1))
    (compared_by low fuel past (left / 2))))

-- the entry of a number, if it is one and has the name
abbrev pub believed : List ℕ → ℕ → List ℕ → ℕ → Result ℕ Refusal
believed dir count name number =
    cond (ltb number count && same_name (entry_name dir number) name) (Ok number) (Err EntryMissing)

-- the entry of the last record gone past, if that record has the asked name
abbrev pub last_past : List ℕ → ℕ → List ℕ → List ℕ → ℕ → Result ℕ Refusal
last_past dir count index name zero = Err EntryMissing
last_past dir count index name (suc i) =
    cond (is_equal index name i) (believed dir count name (number_in index i)) (Err EntryMissing)

-- what the index leads to; a name of another length than eight bytes is compared with nothing
abbrev pub lookup : List ℕ → ℕ → List ℕ → List ℕ → MarkerSearch
lookup dir count index name =
    cond (eqb (length name) 8)
    (record {
      marker = last_past dir count index name (past_by (not_above index name) count 0 count);
      compared = compared_by (not_above index name) count 0 count;
    })
    (record { marker = Err EntryMissing; compared = 0 })

-- 1 to 6, 82 and 83, with nothing compared; then the entry, or 11
abbrev pub find_answer : List ℕ → List ℕ → List ℕ → MarkerSearch
find_answer wad index name = searched (index_head_check wad index) (lookup (directory_of wad) (entry_count (head_of wad)) index name)
