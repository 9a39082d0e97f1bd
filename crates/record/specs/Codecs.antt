-- Sidedefs, vertices and sectors: the fields, read out of the bytes that were made of them, are those fields, and the bytes are the row
-- of the fields. Assumes nothing.
-- It stands in specs/ because the law `lossless` of each kind's `impl` cites it. Plain terms: what needs a tactic is a lemma of
-- `record_field`'s proofs/.
use mathlib.Core.Path.{refl}
use mathlib.Core.List.{[], ◌∷◌}
use Rattle.endian.proofs.Unsigned.{u16_whole}
use Rattle.record_field.specs.Lossless.{Codec}
use Rattle.record_field.proofs.Fields.{i16_whole, name-whole}
use Rattle.record_field.proofs.FieldRows.{number, signed16, name, written-whole}
use Rattle.record.specs.Sidedefs.{sidedef_size, sidedef_of, sidedef_bytes, SidedefFits}
use Rattle.record.specs.Vertexes.{vertex_size, vertex_of, vertex_bytes, VertexFits}
use Rattle.record.specs.Sectors.{sector_size, sector_of, sector_bytes, SectorFits}

pub sidedef : Codec sidedef_size sidedef_of sidedef_bytes SidedefFits
sidedef =
    record {
      length_encode = λ s. refl;
      decode_encode = λ s h. λ i. record {
        x_offset = i16_whole s.x_offset h.0 i;
        y_offset = i16_whole s.y_offset h.1 i;
        upper = name-whole s.upper h.2 i;
        lower = name-whole s.lower h.3 i;
        middle = name-whole s.middle h.4 i;
        sector = u16_whole s.sector i;
      };
      encode_decode = written-whole (signed16 ∷ signed16 ∷ name ∷ name ∷ name ∷ number ∷ []);
    }

pub vertex : Codec vertex_size vertex_of vertex_bytes VertexFits
vertex =
    record {
      length_encode = λ v. refl;
      decode_encode = λ v h. λ i. record {
        x = i16_whole v.x h.0 i;
        y = i16_whole v.y h.1 i;
      };
      encode_decode = written-whole (signed16 ∷ signed16 ∷ []);
    }

pub sector : Codec sector_size sector_of sector_bytes SectorFits
sector =
    record {
      length_encode = λ s. refl;
      decode_encode = λ s h. λ i. record {
        floor = i16_whole s.floor h.0 i;
        ceiling = i16_whole s.ceiling h.1 i;
        floor_flat = name-whole s.floor_flat h.2 i;
        ceiling_flat = name-whole s.ceiling_flat h.3 i;
        light = u16_whole s.light i;
        special = u16_whole s.special i;
        tag = u16_whole s.tag i;
      };
      encode_decode = written-whole (signed16 ∷ signed16 ∷ name ∷ name ∷ number ∷ number ∷ number ∷ []);
    }
