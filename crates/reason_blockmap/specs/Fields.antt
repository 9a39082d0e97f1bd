-- What 01 allows in BLOCKMAP, field by field, in the order in which 28 looks at them (02, W-211): the header's size,
-- columns and rows, then a cell's offset and its list. Where the lump's size itself is at fault the field is the size,
-- in bytes, at offset 0. Assumes nothing.
use Rattle.std.specs.Prelude.{ℕ, zero, suc, ◌+◌, ◌-◌, ◌*◌, ◌%◌, ◌≤◌, cond, List, [], ◌∷◌, ◌++◌, ltb, eqb, length}
use Rattle.reason_range.specs.declared.Field.{Field}
use Rattle.reason_range.specs.Fields.{field_at, FieldFits}
use Rattle.wad.specs.Header.{most_bytes}
use Rattle.map_blockmap.specs.Blockmap.{word_count, word_at, cells_of, list_end}

-- the lump's size, which must be `least` bytes or more
abbrev pub size_field : List ℕ → ℕ → Field
size_field lump least = record { offset = 0; number = length lump; least = least; most = most_bytes }

-- word `i` of the lump, which must be from `least` to `most`
abbrev pub word_field : List ℕ → ℕ → ℕ → ℕ → Field
word_field lump i least most = field_at lump (2 * i) least most

-- what comes after the rows: the size that the cells' offsets need, and the next even size
abbrev pub length_fields : List ℕ → List Field
length_fields lump = size_field lump (8 + 2 * cells_of lump) ∷ size_field lump (length lump + length lump % 2) ∷ []

-- the header: four words, 1 to 512 columns, 1 to 512 rows, then the size
abbrev pub header_fields : List ℕ → List Field
header_fields lump = size_field lump 8 ∷ word_field lump 2 1 512 ∷ word_field lump 3 1 512 ∷ length_fields lump

-- the last `left` words of the lump, up to the mark, each the number of one of `linedefs` linedefs; without a mark two
-- more bytes are wanted
unfoldable pub number_fields : List ℕ → ℕ → ℕ → List Field
number_fields lump linedefs zero = size_field lump (length lump + 2) ∷ []
number_fields lump linedefs (suc left) =
    cond (eqb (word_at lump (word_count lump - suc left)) list_end) []
    (word_field lump (word_count lump - suc left) 0 (linedefs - 1) ∷ number_fields lump linedefs left)

-- the list at word `offset`: its leading 0, then the numbers
abbrev pub list_fields : List ℕ → ℕ → ℕ → List Field
list_fields lump linedefs offset = word_field lump offset 0 0 ∷ number_fields lump linedefs (word_count lump - (offset + 1))

-- cell `i`: its offset, from the first word behind the offsets to the lump's last, and the list there
abbrev pub cell_fields : List ℕ → ℕ → ℕ → List Field
cell_fields lump linedefs i =
    word_field lump (4 + i) (4 + cells_of lump) (word_count lump - 1) ∷ list_fields lump linedefs (word_at lump (4 + i))

-- the fields of cell `i`, none where BLOCKMAP has no such cell
abbrev pub fields_if_cell : List ℕ → ℕ → ℕ → List Field
fields_if_cell lump linedefs i = cond (ltb i (cells_of lump)) (cell_fields lump linedefs i) []

-- all that 28 looks at for cell `i`: the header, and then the cell
abbrev pub blockmap_fields : List ℕ → ℕ → ℕ → List Field
blockmap_fields lump linedefs i = header_fields lump ++ fields_if_cell lump linedefs i

-- the numbers of `f` fit 32 bits, if the lump is no longer than a file and there are at most 65,536 linedefs
abbrev pub FitsIf : List ℕ → ℕ → Field → Type 0
FitsIf lump linedefs f = length lump ≤ most_bytes → linedefs ≤ 65536 → FieldFits f
