-- What holds of BLOCKMAP's fields and of the first that is out of its range (02, W-211: "Prove that each printed reason
-- holds of the map's bytes"). It uses that a lump is no longer than a file, and that the map has a linedef (21). Assumes
-- nothing.
use Rattle.std.specs.Prelude.{ℕ, ◌+◌, ◌≤◌, true, List, ◌⊎◌, ◌≡◌, length, Err}
use Rattle.endian.specs.Unsigned.{u16_at}
use Rattle.refusal.specs.declared.Refusal.TheVariants.{Blockmap}
use Rattle.reason_range.specs.declared.Field.{Field}
use Rattle.reason_range.specs.Fields.{all_in, first_out, FirstOut}
use Rattle.map_blockmap.specs.Blockmap.{word_at, header_ok, list_ok, blockmap_check}
use Rattle.wad.specs.Header.{most_bytes}
use Rattle.reason_blockmap.specs.Fields.{header_fields, cell_fields, blockmap_fields}

-- the lump's size
pub record SizeTold (lump : List ℕ) (f : Field) : Type 0 where
  pub offset : f.offset ≡ 0
  pub size : f.number ≡ length lump

-- two bytes inside the lump
pub record WordTold (lump : List ℕ) (f : Field) : Type 0 where
  pub inside : f.offset + 2 ≤ length lump
  pub word : f.number ≡ u16_at lump f.offset

-- a lump that is refused for its header, or for cell `i`
pub record LumpReasoned (lump : List ℕ) (linedefs i : ℕ) (f : Field) : Type 0 where
  -- `f` is out of its range, and all before it, of the header and the cell, are in theirs
  pub first : FirstOut (blockmap_fields lump linedefs i) f
  -- it holds what stands there
  pub holds : SizeTold lump f ⊎ WordTold lump f

pub record BlockmapReasoned : Type 0 where
  -- 28's tests of the header are that all of its fields are in range
  pub header : (lump : List ℕ) → length lump ≤ most_bytes → header_ok lump ≡ all_in (header_fields lump)
  -- so are those of a cell
  pub cell : (lump : List ℕ) (linedefs i : ℕ) → 1 ≤ linedefs → header_ok lump ≡ true
      → list_ok lump linedefs (word_at lump (4 + i)) ≡ all_in (cell_fields lump linedefs i)
  -- where 28 is answered there is a reason
  pub refused : (lump : List ℕ) (linedefs i : ℕ) → length lump ≤ most_bytes → 1 ≤ linedefs
      → blockmap_check lump linedefs ≡ Err (Blockmap i) → LumpReasoned lump linedefs i (first_out (blockmap_fields lump linedefs i))
