-- A record written back gives the bytes it was read from (01, demand 2; W-205), in terms of the functions that a customer calls: what
-- `meshpigeon_read_K` answers, given to `meshpigeon_write_K` at the same place, leaves the lump as it was. Assumes nothing.
use Rattle.std.specs.Prelude.{ℕ, Bool, List, ◌≡◌}
use Rattle.endian.specs.Unsigned.{Bytes}
use Rattle.record_thing.specs.Things.{thing_at}
use Rattle.record_linedef.specs.Linedefs.{linedef_at}
use Rattle.record.specs.Sidedefs.{sidedef_at}
use Rattle.record.specs.Vertexes.{vertex_at}
use Rattle.record.specs.Sectors.{sector_at}
use Rattle.record.specs.Segs.{seg_at}
use Rattle.record.specs.Subsectors.{subsector_at}
use Rattle.record.specs.Nodes.{node_at}
use Rattle.refusal.specs.declared.status.Status.{Status}
use Rattle.refusal.specs.Status.{accepted}
use Rattle.export_records.specs.Records.{thing_out, linedef_out, sidedef_out, vertex_out, seg_out, subsector_out, node_out, sector_out, ThingWritten, LinedefWritten, SidedefWritten, VertexWritten, SegWritten, SubsectorWritten, NodeWritten, SectorWritten}

-- the write answered what the read had answered, and the lump is as it was
pub record Unchanged (lump : List ℕ) (read written : Status) (left : List ℕ) : Type 0 where
  pub status : written ≡ read
  pub bytes : left ≡ lump

-- for a kind whose read answers the status `read` and the record `item`, and whose write promises `Write`, whether
-- the read was refused or not
abbrev pub WritesBack : {R : Type 0} → (List ℕ → ℕ → Status) → (List ℕ → ℕ → R) → (List ℕ → ℕ → R → Status → List ℕ → Type 0) → Type 0
WritesBack read item Write = (lump : List ℕ) (index : ℕ) (answer : Status) (left : List ℕ) → Bytes lump
    → Write lump index (item lump index) answer left → Unchanged lump (read lump index) answer left

-- the same if the read was accepted: a refused read of either game answers zeros of Doom, whose records are shorter
abbrev pub WritesBackIfRead : {R : Type 0} → (List ℕ → ℕ → Status) → (List ℕ → ℕ → R)
    → (List ℕ → ℕ → R → Status → List ℕ → Type 0) → Type 0
WritesBackIfRead read item Write = (lump : List ℕ) (index : ℕ) (answer : Status) (left : List ℕ) → Bytes lump
    → read lump index ≡ accepted → Write lump index (item lump index) answer left → Unchanged lump (read lump index) answer left

-- this holds for each kind, and for things and linedefs in both games
pub record RecordsWrittenBack : Type 0 where
  pub thing : (hexen : Bool)
      → WritesBackIfRead (λ l i. (thing_out (thing_at hexen l i)).status) (λ l i. (thing_out (thing_at hexen l i)).thing) ThingWritten
  pub linedef : (hexen : Bool)
      → WritesBackIfRead (λ l i. (linedef_out (linedef_at hexen l i)).status)
      (λ l i. (linedef_out (linedef_at hexen l i)).linedef) LinedefWritten
  pub sidedef : WritesBack (λ l i. (sidedef_out (sidedef_at l i)).status) (λ l i. (sidedef_out (sidedef_at l i)).sidedef) SidedefWritten
  pub vertex : WritesBack (λ l i. (vertex_out (vertex_at l i)).status) (λ l i. (vertex_out (vertex_at l i)).vertex) VertexWritten
  pub seg : WritesBack (λ l i. (seg_out (seg_at l i)).status) (λ l i. (seg_out (seg_at l i)).seg) SegWritten
  pub subsector : WritesBack (λ l i. (subsector_out (subsector_at l i)).status)
      (λ l i. (subsector_out (subsector_at l i)).subsector) SubsectorWritten
  pub node : WritesBack (λ l i. (node_out (node_at l i)).status) (λ l i. (node_out (node_at l i)).node) NodeWritten
  pub sector : WritesBack (λ l i. (sector_out (sector_at l i)).status) (λ l i. (sector_out (sector_at l i)).sector) SectorWritten
