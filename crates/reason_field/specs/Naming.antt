-- Not for the reader of promises: what only contracts of inner functions cite. Assumes nothing.
use Rattle.std.specs.Prelude.{ℕ, ◌+◌, ◌*◌, ◌<◌, ◌≤◌, Bool, List, ◌≡◌, length, Ok}
use Rattle.wad.specs.Header.{most_bytes}
use Rattle.record_linedef.specs.Linedefs.{linedef_size}
use Rattle.record.specs.Sidedefs.{sidedef_size}
use Rattle.record.specs.Segs.{seg_size}
use Rattle.record.specs.Subsectors.{subsector_size}
use Rattle.record.specs.Nodes.{node_size}
use Rattle.record_table.specs.Lumps.{LINEDEFS, SIDEDEFS, SEGS, SSECTORS, NODES, BLOCKMAP}
use Rattle.map_lumps.specs.Lumps.{map_lumps, map_lump, record_count, each_place}
use Rattle.map_lumps.specs.Sizes.{size_check}
use Rattle.reason_field.specs.Named.{by_number}

-- how many records the named lump has; with 28 it is not asked for
abbrev pub named_count : Bool → List (List ℕ) → ℕ → ℕ
named_count hexen lumps number =
    by_number number (record_count lumps LINEDEFS (linedef_size hexen)) (record_count lumps SIDEDEFS sidedef_size)
    (record_count lumps SEGS seg_size)
    (record_count lumps SSECTORS subsector_size) (record_count lumps NODES node_size) 0

-- the ten lumps are there, with counts that have passed 21
pub record Counts (hexen : Bool) (wad dir : List ℕ) (marker : ℕ) : Type 0 where
  pub long : 16 * (marker + 11) ≤ length dir
  pub counts : each_place (size_check hexen (map_lumps wad dir marker)) 8 ≡ Ok tt

-- and record `i` is there, of a file of at most 16,777,216 bytes
pub record Nameable (hexen : Bool) (wad dir : List ℕ) (marker number i : ℕ) : Type 0 where
  pub counted : Counts hexen wad dir marker
  pub low : 23 ≤ number
  pub high : number ≤ 28
  pub inside : number ≤ 27 → i < named_count hexen (map_lumps wad dir marker) number
  pub small : length (map_lump (map_lumps wad dir marker) BLOCKMAP) ≤ most_bytes
