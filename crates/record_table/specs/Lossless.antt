-- Records are read and written without loss (01, "A write changes its record's bytes only, ..", and demand 2), in
-- both games (W-205). `record_field` says what that means for a kind. Assumes nothing.
use Rattle.std.specs.Prelude.{ℕ, Bool, true, List, ◌≡◌}
use Rattle.endian.specs.Unsigned.{Bytes}
use Rattle.record_field.specs.Lossless.{Lossless}
use Rattle.record_thing.specs.Things.{thing_size, thing_of, thing_fields_ok, thing_bytes, ThingFits}
use Rattle.record_linedef.specs.Linedefs.{linedef_size, linedef_of, linedef_fields_ok, linedef_bytes, LinedefFits}
use Rattle.record.specs.Sidedefs.{sidedef_size, sidedef_of, sidedef_bytes, SidedefFits}
use Rattle.record.specs.Vertexes.{vertex_size, vertex_of, vertex_bytes, VertexFits}
use Rattle.record.specs.Segs.{seg_size, seg_of, seg_bytes, SegFits}
use Rattle.record.specs.Subsectors.{subsector_size, subsector_of, subsector_bytes, SubsectorFits}
use Rattle.record.specs.Nodes.{node_size, node_of, node_bytes, NodeFits}
use Rattle.record.specs.Sectors.{sector_size, sector_of, sector_bytes, SectorFits}

-- reading and writing by number lose nothing, for each of the eight kinds; things and linedefs in either game, and what was
-- read of these is never refused when it is written back
pub record KindsLossless : Type 0 where
  pub thing : (hexen : Bool) → Lossless (thing_size hexen) (thing_of hexen) (thing_bytes hexen) (ThingFits hexen)
  pub thing_accepted : (hexen : Bool) (bytes : List ℕ) → Bytes bytes → thing_fields_ok (thing_of hexen bytes) ≡ true
  pub linedef : (hexen : Bool) → Lossless (linedef_size hexen) (linedef_of hexen) (linedef_bytes hexen) (LinedefFits hexen)
  pub linedef_accepted : (hexen : Bool) (bytes : List ℕ) → Bytes bytes → linedef_fields_ok (linedef_of hexen bytes) ≡ true
  pub sidedef : Lossless sidedef_size sidedef_of sidedef_bytes SidedefFits
  pub vertex : Lossless vertex_size vertex_of vertex_bytes VertexFits
  pub seg : Lossless seg_size seg_of seg_bytes SegFits
  pub subsector : Lossless subsector_size subsector_of subsector_bytes SubsectorFits
  pub node : Lossless node_size node_of node_bytes NodeFits
  pub sector : Lossless sector_size sector_of sector_bytes SectorFits
