-- Small lumps, computed, in a map of 3 linedefs: what each of them is refused for. Assumes nothing.
use Rattle.std.specs.Prelude.{ℕ, List, [], ◌∷◌, ◌++◌, ◌≡◌}
use Rattle.endian.specs.Unsigned.{u16_bytes}
use Rattle.reason_range.specs.declared.Field.{Field}
use Rattle.reason_range.specs.Fields.{first_out, no_field}
use Rattle.wad.specs.Header.{most_bytes}
use Rattle.reason_blockmap.specs.Fields.{blockmap_fields}

-- the bytes of words
abbrev pub word_bytes : List ℕ → List ℕ
word_bytes [] = []
word_bytes (w ∷ ws) = u16_bytes w ++ word_bytes ws

-- what is named of cell `i`
abbrev pub named : List ℕ → ℕ → Field
named lump i = first_out (blockmap_fields lump 3 i)

-- offset, number, least and most
abbrev pub field : ℕ → ℕ → ℕ → ℕ → Field
field at n least most = record { offset = at; number = n; least = least; most = most }

pub record Examples : Type 0 where
  pub empty : named [] 0 ≡ field 0 0 8 most_bytes
  -- no columns and 513 rows: the columns come first
  pub columns : named (word_bytes (0 ∷ 0 ∷ 0 ∷ 513 ∷ [])) 0 ≡ field 4 0 1 512
  pub rows : named (word_bytes (0 ∷ 0 ∷ 1 ∷ 513 ∷ [])) 0 ≡ field 6 513 1 512
  -- two cells, and one offset; with a byte more it is odd too
  pub short : named (word_bytes (0 ∷ 0 ∷ 1 ∷ 2 ∷ 9 ∷ [])) 0 ≡ field 0 10 12 most_bytes
  pub short_odd : named (word_bytes (0 ∷ 0 ∷ 1 ∷ 2 ∷ 9 ∷ []) ++ (9 ∷ [])) 0 ≡ field 0 11 12 most_bytes
  -- odd comes before the offset, which is bad as well
  pub odd : named (word_bytes (0 ∷ 0 ∷ 1 ∷ 1 ∷ 9 ∷ []) ++ (9 ∷ [])) 0 ≡ field 0 11 12 most_bytes
  -- no word is behind the offset: the range is empty
  pub empty_range : named (word_bytes (0 ∷ 0 ∷ 1 ∷ 1 ∷ 5 ∷ [])) 0 ≡ field 8 5 5 4
  -- the second cell's offset
  pub second : named (word_bytes (0 ∷ 0 ∷ 2 ∷ 1 ∷ 6 ∷ 9 ∷ 0 ∷ 65535 ∷ [])) 1 ≡ field 10 9 6 7
  pub leading : named (word_bytes (0 ∷ 0 ∷ 1 ∷ 1 ∷ 5 ∷ 2 ∷ 65535 ∷ [])) 0 ≡ field 10 2 0 0
  -- linedefs 2, 3 and 4: the first that is not there
  pub number : named (word_bytes (0 ∷ 0 ∷ 1 ∷ 1 ∷ 5 ∷ 0 ∷ 2 ∷ 3 ∷ 4 ∷ 65535 ∷ [])) 0 ≡ field 14 3 0 2
  -- no mark
  pub endless : named (word_bytes (0 ∷ 0 ∷ 1 ∷ 1 ∷ 5 ∷ 0 ∷ 2 ∷ [])) 0 ≡ field 0 14 16 most_bytes
  -- nothing is wrong
  pub good : named (word_bytes (0 ∷ 0 ∷ 1 ∷ 1 ∷ 5 ∷ 0 ∷ 2 ∷ 65535 ∷ [])) 0 ≡ no_field
