-- A record of SEGS: fields by document 004's table (01, "One map"). Assumes nothing.
use Rattle.std.specs.Prelude.{ℕ, List, ◌++◌, Result}
use Rattle.refusal.specs.declared.Refusal.{Refusal}
use Rattle.endian.specs.Unsigned.{u16_at, u16_bytes}
use Rattle.endian.specs.Signed.{i16_at}
use Rattle.record_field.specs.Fields.{i16_bytes, Int16}
use Rattle.record_field.specs.Records.{record_at}
use Rattle.record.specs.declared.seg.Seg.{Seg}

-- a record's bytes, and the place of its lump
abbrev pub seg_size : ℕ
seg_size = 12

abbrev pub seg_place : ℕ
seg_place = 5

-- the fields of a record's bytes
abbrev pub seg_of : List ℕ → Seg
seg_of bytes =
    record {
      start = u16_at bytes 0;
      end = u16_at bytes 2;
      angle = u16_at bytes 4;
      linedef = u16_at bytes 6;
      direction = u16_at bytes 8;
      offset = i16_at bytes 10;
    }

-- the bytes of a record's fields
abbrev pub seg_bytes : Seg → List ℕ
seg_bytes s =
    u16_bytes s.start
    ++ u16_bytes s.end
    ++ u16_bytes s.angle
    ++ u16_bytes s.linedef
    ++ u16_bytes s.direction
    ++ i16_bytes s.offset

-- fields that fit their widths, as far as it matters for reading them back
abbrev pub SegFits : Seg → Type 0
SegFits s = Int16 s.offset

-- record `index` of a lump, or the refusal
abbrev pub seg_at : List ℕ → ℕ → Result Seg Refusal
seg_at lump index = record_at seg_size seg_of lump index
