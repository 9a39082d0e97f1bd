-- The three kinds that a node builder makes: the fields, read out of the bytes that were made of them, are those fields, and the
-- bytes are the row of the fields. Assumes nothing.
-- It stands in specs/ because the law `lossless` of each kind's `impl` cites it. Plain terms: what needs a tactic is a lemma of
-- `record_field`'s proofs/.
use mathlib.Core.Path.{refl}
use mathlib.Core.List.{[], ◌∷◌}
use Rattle.endian.proofs.Unsigned.{u16_whole}
use Rattle.record_field.specs.Lossless.{Codec}
use Rattle.record_field.proofs.Fields.{i16_whole, four-whole}
use Rattle.record_field.proofs.FieldRows.{number, signed16, written-whole}
use Rattle.record.specs.Segs.{seg_size, seg_of, seg_bytes, SegFits}
use Rattle.record.specs.Subsectors.{subsector_size, subsector_of, subsector_bytes, SubsectorFits}
use Rattle.record.specs.Nodes.{node_size, node_of, node_bytes, NodeFits}

pub seg : Codec seg_size seg_of seg_bytes SegFits
seg =
    record {
      length_encode = λ s. refl;
      decode_encode = λ s h. λ i. record {
        start = u16_whole s.start i;
        end = u16_whole s.end i;
        angle = u16_whole s.angle i;
        linedef = u16_whole s.linedef i;
        direction = u16_whole s.direction i;
        offset = i16_whole s.offset h i;
      };
      encode_decode = written-whole (number ∷ number ∷ number ∷ number ∷ number ∷ signed16 ∷ []);
    }

pub subsector : Codec subsector_size subsector_of subsector_bytes SubsectorFits
subsector =
    record {
      length_encode = λ s. refl;
      decode_encode = λ s h. λ i. record {
        number = u16_whole s.number i;
        first = u16_whole s.first i;
      };
      encode_decode = written-whole (number ∷ number ∷ []);
    }

pub node : Codec node_size node_of node_bytes NodeFits
node =
    record {
      length_encode = λ n. refl;
      decode_encode = λ n h. λ i. record {
        x = i16_whole n.x h.0 i;
        y = i16_whole n.y h.1 i;
        dx = i16_whole n.dx h.2 i;
        dy = i16_whole n.dy h.3 i;
        right_box = four-whole n.right_box h.4 i;
        left_box = four-whole n.left_box h.5 i;
        right = u16_whole n.right i;
        left = u16_whole n.left i;
      };
      encode_decode = written-whole (signed16 ∷ signed16 ∷ signed16 ∷ signed16 ∷ signed16 ∷ signed16 ∷ signed16
          ∷ signed16 ∷ signed16 ∷ signed16 ∷ signed16 ∷ signed16 ∷ number ∷ number ∷ []);
    }
