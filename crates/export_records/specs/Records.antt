-- Answers on a map's records. Assumes nothing.
use Rattle.std.specs.Prelude.{ℕ, Bool, cond, List, ◌≡◌, Result, Ok, Err, replicate}
use Rattle.record_field.specs.Records.{inside_check, replaced, good_check}
use Rattle.export_records.specs.declared.ThingAnswer.{ThingAnswer}
use Rattle.export_records.specs.declared.LinedefAnswer.{LinedefAnswer}
use Rattle.export_records.specs.declared.SidedefAnswer.{SidedefAnswer}
use Rattle.export_records.specs.declared.VertexAnswer.{VertexAnswer}
use Rattle.export_records.specs.declared.SegAnswer.{SegAnswer}
use Rattle.export_records.specs.declared.SubsectorAnswer.{SubsectorAnswer}
use Rattle.export_records.specs.declared.NodeAnswer.{NodeAnswer}
use Rattle.export_records.specs.declared.SectorAnswer.{SectorAnswer}
use Rattle.record_thing.specs.declared.Thing.{Thing}
use Rattle.record_thing.specs.Things.{thing_size, thing_fields_ok, thing_bytes, no_thing}
use Rattle.record_linedef.specs.declared.Linedef.{Linedef}
use Rattle.record_linedef.specs.Linedefs.{linedef_size, linedef_fields_ok, linedef_bytes, no_linedef}
use Rattle.record.specs.declared.sidedef.Sidedef.{Sidedef}
use Rattle.record.specs.Sidedefs.{sidedef_size, sidedef_of, sidedef_bytes}
use Rattle.record.specs.declared.vertex.Vertex.{Vertex}
use Rattle.record.specs.Vertexes.{vertex_size, vertex_of, vertex_bytes}
use Rattle.record.specs.declared.seg.Seg.{Seg}
use Rattle.record.specs.Segs.{seg_size, seg_of, seg_bytes}
use Rattle.record.specs.declared.subsector.Subsector.{Subsector}
use Rattle.record.specs.Subsectors.{subsector_size, subsector_of, subsector_bytes}
use Rattle.record.specs.declared.node.Node.{Node}
use Rattle.record.specs.Nodes.{node_size, node_of, node_bytes}
use Rattle.record.specs.declared.sector.Sector.{Sector}
use Rattle.record.specs.Sectors.{sector_size, sector_of, sector_bytes}
use Rattle.refusal.specs.declared.status.Status.{Status}
use Rattle.refusal.specs.declared.Refusal.{Refusal}
use Rattle.refusal.specs.Status.{accepted, refused, status_of}

-- what a write of `bytes` as record `index` answers, and what it leaves of the lump
pub record RecordWritten (lump : List ℕ) (size index : ℕ) (bytes : List ℕ) (answer : Status) (left : List ℕ) : Type 0 where
  pub answers : answer ≡ status_of (inside_check lump size index)
  pub leaves : left ≡ replaced lump size index bytes

-- the same of a record that is written only where its fields are `good`
pub record RecordWrittenIf (good : Bool) (lump : List ℕ) (size index : ℕ) (bytes : List ℕ) (answer : Status)
    (left : List ℕ) : Type 0 where
  pub answers : answer ≡ status_of (good_check good lump size index)
  pub leaves : left ≡ cond good (replaced lump size index bytes) lump

-- what the write of each kind promises of a record
abbrev pub ThingWritten : List ℕ → ℕ → Thing → Status → List ℕ → Type 0
ThingWritten lump index thing answer left =
    RecordWrittenIf (thing_fields_ok thing) lump (thing_size thing.hexen) index (thing_bytes thing.hexen thing) answer left

abbrev pub LinedefWritten : List ℕ → ℕ → Linedef → Status → List ℕ → Type 0
LinedefWritten lump index linedef answer left =
    RecordWrittenIf (linedef_fields_ok linedef) lump (linedef_size linedef.hexen) index
    (linedef_bytes linedef.hexen linedef) answer left

abbrev pub SidedefWritten : List ℕ → ℕ → Sidedef → Status → List ℕ → Type 0
SidedefWritten lump index sidedef answer left = RecordWritten lump sidedef_size index (sidedef_bytes sidedef) answer left

abbrev pub VertexWritten : List ℕ → ℕ → Vertex → Status → List ℕ → Type 0
VertexWritten lump index vertex answer left = RecordWritten lump vertex_size index (vertex_bytes vertex) answer left

abbrev pub SegWritten : List ℕ → ℕ → Seg → Status → List ℕ → Type 0
SegWritten lump index seg answer left = RecordWritten lump seg_size index (seg_bytes seg) answer left

abbrev pub SubsectorWritten : List ℕ → ℕ → Subsector → Status → List ℕ → Type 0
SubsectorWritten lump index subsector answer left = RecordWritten lump subsector_size index (subsector_bytes subsector) answer left

abbrev pub NodeWritten : List ℕ → ℕ → Node → Status → List ℕ → Type 0
NodeWritten lump index node answer left = RecordWritten lump node_size index (node_bytes node) answer left

abbrev pub SectorWritten : List ℕ → ℕ → Sector → Status → List ℕ → Type 0
SectorWritten lump index sector answer left = RecordWritten lump sector_size index (sector_bytes sector) answer left

-- a record that was read, all 0 where refused
abbrev pub thing_out : Result Thing Refusal → ThingAnswer
thing_out (Ok r) = record { status = accepted; thing = r }
thing_out (Err r) = record { status = refused r; thing = no_thing }

abbrev pub linedef_out : Result Linedef Refusal → LinedefAnswer
linedef_out (Ok r) = record { status = accepted; linedef = r }
linedef_out (Err r) = record { status = refused r; linedef = no_linedef }

abbrev pub sidedef_out : Result Sidedef Refusal → SidedefAnswer
sidedef_out (Ok r) = record { status = accepted; sidedef = r }
sidedef_out (Err r) = record { status = refused r; sidedef = sidedef_of (replicate sidedef_size 0) }

abbrev pub vertex_out : Result Vertex Refusal → VertexAnswer
vertex_out (Ok r) = record { status = accepted; vertex = r }
vertex_out (Err r) = record { status = refused r; vertex = vertex_of (replicate vertex_size 0) }

abbrev pub seg_out : Result Seg Refusal → SegAnswer
seg_out (Ok r) = record { status = accepted; seg = r }
seg_out (Err r) = record { status = refused r; seg = seg_of (replicate seg_size 0) }

abbrev pub subsector_out : Result Subsector Refusal → SubsectorAnswer
subsector_out (Ok r) = record { status = accepted; subsector = r }
subsector_out (Err r) = record { status = refused r; subsector = subsector_of (replicate subsector_size 0) }

abbrev pub node_out : Result Node Refusal → NodeAnswer
node_out (Ok r) = record { status = accepted; node = r }
node_out (Err r) = record { status = refused r; node = node_of (replicate node_size 0) }

abbrev pub sector_out : Result Sector Refusal → SectorAnswer
sector_out (Ok r) = record { status = accepted; sector = r }
sector_out (Err r) = record { status = refused r; sector = sector_of (replicate sector_size 0) }
