-- The directory: entries of sixteen bytes with offset, size and name (01, "File and directory"). The definitions take the
-- file's length and the directory's bytes: nothing else of the file alters their verdict. Assumes nothing.
use Rattle.std.specs.Prelude.{ℕ, ◌+◌, ◌*◌, Bool, ◌&&◌, ◌||◌, List, leb, ℤ, length, Result, Ok, Err}
use Rattle.endian.specs.Signed.{i32_at, between, natural}
use Rattle.refusal.specs.Checks.{Check}
use Rattle.refusal.specs.declared.Refusal.{Refusal}
use Rattle.refusal.specs.declared.Refusal.TheVariants.{EntryBounds, EntryName}
use Rattle.refusal.specs.Checks.{unless, ◌and_then◌, each}
use Rattle.wad.specs.declared.entries.Directory.{Directory}
use Rattle.wad.specs.Slices.{part}
use Rattle.wad.specs.Header.{head_of, entry_count, start_of, file_header_check}
use Rattle.name.specs.Names.{name_ok}

-- the directory's bytes
abbrev pub directory_of : List ℕ → List ℕ
directory_of wad = part wad (start_of (head_of wad)) (16 * entry_count (head_of wad))

-- entry `i`'s offset and size, signed
abbrev pub offset_at : List ℕ → ℕ → ℤ
offset_at dir i = i32_at dir (16 * i)

abbrev pub size_at : List ℕ → ℕ → ℤ
size_at dir i = i32_at dir (16 * i + 4)

-- entry `i`'s name
abbrev pub entry_name : List ℕ → ℕ → List ℕ
entry_name dir i = part dir (16 * i + 8) 8

-- size 0, whatever the offset; or a part from 12 on that ends inside the file
abbrev pub inside_ok : ℕ → ℤ → ℤ → Bool
inside_ok len offset size =
    between size 0 0
    || (between size 1 len && between offset 12 len && leb (natural offset + natural size) len)

-- 5, then 6, of entry `i`
abbrev pub entry_check : ℕ → List ℕ → ℕ → Check
entry_check len dir i =
    unless (inside_ok len (offset_at dir i) (size_at dir i)) (EntryBounds i)
    and_then unless (name_ok (entry_name dir i)) (EntryName i)

-- 1 to 6: the header, then the entries in turn
abbrev pub directory_check : ℕ → List ℕ → List ℕ → Check
directory_check len head dir = file_header_check len head and_then each (entry_check len dir) (entry_count head)

-- the check of a file by its own length, header and directory
abbrev pub file_check : List ℕ → Check
file_check wad = directory_check (length wad) (head_of wad) (directory_of wad)

-- the refusal, or the count of lumps and the directory's start
abbrev pub listed : Check → ℕ → ℕ → Result Directory Refusal
listed (Ok passed) count start = Ok (record { count = count; start = start })
listed (Err r) count start = Err r

-- what is answered of a file's directory
abbrev pub directory_answer : List ℕ → Result Directory Refusal
directory_answer wad = listed (file_check wad) (entry_count (head_of wad)) (start_of (head_of wad))
