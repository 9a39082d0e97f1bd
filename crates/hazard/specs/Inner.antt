-- Not for the reader of promises: what only contracts of inner functions cite. Assumes nothing.
use Rattle.std.specs.Prelude.{ℕ, ◌+◌, ◌-◌, ◌≤◌, ◌<◌, Bool, true, false, not, ◌&&◌, ◌||◌, List, ◌≡◌, leb, ltb, length, Ok}
use Rattle.bits.specs.Bits.{is_noted}
use Rattle.wad.specs.Header.{head_of, entry_count}
use Rattle.wad.specs.Entries.{directory_of, file_check}
use Rattle.map_blockmap.specs.Blockmap.{blockmap_check}
use Rattle.record_linedef.specs.Linedefs.{linedef_size}
use Rattle.record_table.specs.Lumps.{LINEDEFS, BLOCKMAP}
use Rattle.map_lumps.specs.Lumps.{map_lumps, map_lump, record_count}
use Rattle.map_lumps.specs.Games.{game_at}
use Rattle.hazard.specs.Segs.{taken_below, some_from, takes_again}
use Rattle.hazard.specs.Lists.{short_ok}

-- ---- a map that is accepted

-- BLOCKMAP passes 28
abbrev pub BlockmapPasses : Bool → List (List ℕ) → Type 0
BlockmapPasses hexen lumps = blockmap_check (map_lump lumps BLOCKMAP) (record_count lumps LINEDEFS (linedef_size hexen)) ≡ Ok tt

-- BLOCKMAP passes 28 for some count of linedefs
abbrev pub ListsPass : List ℕ → Type 0
ListsPass lump = (linedefs : ℕ) × (blockmap_check lump linedefs ≡ Ok tt)

-- what the look for hazards relies on
pub record Accepting (wad : List ℕ) (marker : ℕ) : Type 0 where
  pub file : file_check wad ≡ Ok tt
  pub long : marker + 11 ≤ entry_count (head_of wad)
  pub blockmap : BlockmapPasses (game_at (directory_of wad) (entry_count (head_of wad)) marker) (map_lumps wad (directory_of wad) marker)

-- ---- segs

-- a bit for every seg number: 1 for the segs of the subsectors before `k`
pub record Taken (lump : List ℕ) (k : ℕ) (taken : List ℕ) : Type 0 where
  pub places : length taken ≡ 16384
  pub noted : (seg : ℕ) → seg < 131072 → is_noted 16384 taken seg ≡ taken_below lump k seg

-- what is answered of subsector `k`: it takes a seg again, or none and its segs are noted
abbrev pub Took : List ℕ → ℕ → Bool → List ℕ → Type 0
Took lump k true taken = takes_again lump k ≡ true
Took lump k false taken = (takes_again lump k ≡ false) × Taken lump (k + 1) taken

-- the segs from `first` on and before `end` are noted too
pub record NotedTo (first end : ℕ) (before after : List ℕ) : Type 0 where
  pub places : length after ≡ 16384
  pub none : some_from (is_noted 16384 before) first (end - first) ≡ false
  pub noted : (seg : ℕ) → seg < 131072 → is_noted 16384 after seg ≡ (is_noted 16384 before seg || (leb first seg && ltb seg end))

-- what is answered of them: one was noted already, or none was and all are
abbrev pub TookRange : ℕ → ℕ → List ℕ → Bool → List ℕ → Type 0
TookRange first end before true after = some_from (is_noted 16384 before) first (end - first) ≡ true
TookRange first end before false after = NotedTo first end before after

-- ---- lists

-- a bit for every offset from `at` on: 1 where its list is too long; none before
pub record LongNoted (lump : List ℕ) (linedefs at : ℕ) (notes : List ℕ) : Type 0 where
  pub places : length notes ≡ 8192
  pub noted : (offset : ℕ) → offset < 65536 → is_noted 8192 notes offset ≡ (leb at offset && not (short_ok lump linedefs offset))
