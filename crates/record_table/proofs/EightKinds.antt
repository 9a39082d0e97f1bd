-- Each of the eight kinds is lossless, by what is its own and the law for every kind and game. Assumes nothing.
use Rattle.record_field.proofs.Lossless.{lossless}
use Rattle.record_thing.specs.Things.{thing_size, thing_of, thing_bytes, ThingFits}
use Rattle.record_linedef.specs.Linedefs.{linedef_size, linedef_of, linedef_bytes, LinedefFits}
use Rattle.record.specs.Sidedefs.{sidedef_of, sidedef_bytes, SidedefFits}
use Rattle.record.specs.Vertexes.{vertex_of, vertex_bytes, VertexFits}
use Rattle.record.specs.Sectors.{sector_of, sector_bytes, SectorFits}
use Rattle.record_thing.specs.Codecs.{thing, thing-good}
use Rattle.record_linedef.specs.Codecs.{linedef, linedef-good}
use Rattle.record.specs.Codecs.{sidedef, vertex, sector}
use Rattle.record.specs.Segs.{seg_of, seg_bytes, SegFits}
use Rattle.record.specs.Subsectors.{subsector_of, subsector_bytes, SubsectorFits}
use Rattle.record.specs.Nodes.{node_of, node_bytes, NodeFits}
use Rattle.record.specs.BuiltCodecs.{seg, subsector, node}
use Rattle.record_table.specs.Lossless.{KindsLossless}

pub kinds_lossless : KindsLossless
kinds_lossless =
    record {
      thing = λ hexen. lossless (thing_size hexen) (thing_of hexen) (thing_bytes hexen) (ThingFits hexen) (thing hexen);
      thing_accepted = λ hexen bytes h. thing-good hexen bytes;
      linedef = λ hexen. lossless (linedef_size hexen) (linedef_of hexen) (linedef_bytes hexen) (LinedefFits hexen) (linedef hexen);
      linedef_accepted = linedef-good;
      sidedef = lossless 30 sidedef_of sidedef_bytes SidedefFits sidedef;
      vertex = lossless 4 vertex_of vertex_bytes VertexFits vertex;
      seg = lossless 12 seg_of seg_bytes SegFits seg;
      subsector = lossless 4 subsector_of subsector_bytes SubsectorFits subsector;
      node = lossless 28 node_of node_bytes NodeFits node;
      sector = lossless 26 sector_of sector_bytes SectorFits sector;
    }
