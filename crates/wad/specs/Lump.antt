-- An entry's part of the file (01, "Asked for an entry by number, .."). Assumes nothing.
use Rattle.std.specs.Prelude.{ℕ, cond, List, [], ◌≡◌, ltb, eqb, length, Result, Ok, Err}
use Rattle.endian.specs.Signed.{natural}
use Rattle.refusal.specs.Checks.{Check}
use Rattle.refusal.specs.declared.Refusal.{Refusal}
use Rattle.refusal.specs.declared.Refusal.TheVariants.{EntryNumber}
use Rattle.refusal.specs.Checks.{unless, ◌and_then◌}
use Rattle.wad.specs.declared.lumps.Entry.{Entry}
use Rattle.wad.specs.Slices.{part, part_if}
use Rattle.wad.specs.Header.{head_of, entry_count}
use Rattle.wad.specs.Entries.{directory_of, offset_at, size_at, file_check}

-- entry `i`'s size in bytes
abbrev pub entry_size : List ℕ → ℕ → ℕ
entry_size dir i = natural (size_at dir i)

-- where entry `i`'s part starts; 0 where the size is 0, since the offset is not looked at then
abbrev pub entry_offset : List ℕ → ℕ → ℕ
entry_offset dir i = cond (eqb (entry_size dir i) 0) 0 (natural (offset_at dir i))

-- entry `i`'s part of the file
abbrev pub lump_at : List ℕ → List ℕ → ℕ → List ℕ
lump_at wad dir i = part_if wad (entry_offset dir i) (entry_size dir i)

-- the refusal, or where the part lies and how long it is
abbrev pub placed : Check → ℕ → ℕ → Result Entry Refusal
placed (Ok passed) offset size = Ok (record { offset = offset; size = size })
placed (Err r) offset size = Err r

-- what is answered of entry `i`: 1 to 6, then 7
abbrev pub entry_answer : List ℕ → ℕ → Result Entry Refusal
entry_answer wad i =
    placed (file_check wad and_then unless (ltb i (entry_count (head_of wad))) EntryNumber)
    (entry_offset (directory_of wad) i)
    (entry_size (directory_of wad) i)

-- the part that an answer names; none where it refuses
abbrev pub part_of : List ℕ → Result Entry Refusal → List ℕ
part_of wad (Ok entry) = part_if wad entry.offset entry.size
part_of wad (Err r) = []

-- entry `i`'s part of the file, none where it is refused
abbrev pub entry_lump : List ℕ → ℕ → List ℕ
entry_lump wad i = part_of wad (entry_answer wad i)

-- the part from `offset` on, of exactly `size` bytes
pub record Whole (wad part' : List ℕ) (offset size : ℕ) : Type 0 where
  pub whole : part' ≡ part wad offset size
  pub sized : length part' ≡ size

-- an entry that is not refused is handed back whole
abbrev pub HandedWhole : Type 0
HandedWhole =
    (wad : List ℕ) (i offset size : ℕ) → entry_answer wad i ≡ Ok (record { offset = offset; size = size }) → Whole wad (entry_lump wad i) offset size
