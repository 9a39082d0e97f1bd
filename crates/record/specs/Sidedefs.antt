-- A record of SIDEDEFS: fields by document 004's table (01, "One map"). A texture name is eight raw bytes. Assumes nothing.
use Rattle.std.specs.Prelude.{ℕ, List, ◌++◌, Result}
use Rattle.refusal.specs.declared.Refusal.{Refusal}
use Rattle.endian.specs.Unsigned.{u16_at, u16_bytes}
use Rattle.endian.specs.Signed.{i16_at}
use Rattle.record_field.specs.Fields.{i16_bytes, Int16, name_at, Name}
use Rattle.record_field.specs.Records.{record_at}
use Rattle.record.specs.declared.sidedef.Sidedef.{Sidedef}

-- a record's bytes, and the place of its lump
abbrev pub sidedef_size : ℕ
sidedef_size = 30

abbrev pub sidedef_place : ℕ
sidedef_place = 3

-- the fields of a record's bytes
abbrev pub sidedef_of : List ℕ → Sidedef
sidedef_of bytes =
    record {
      x_offset = i16_at bytes 0;
      y_offset = i16_at bytes 2;
      upper = name_at bytes 4;
      lower = name_at bytes 12;
      middle = name_at bytes 20;
      sector = u16_at bytes 28;
    }

-- the bytes of a record's fields
abbrev pub sidedef_bytes : Sidedef → List ℕ
sidedef_bytes s =
    i16_bytes s.x_offset
    ++ i16_bytes s.y_offset
    ++ name_at s.upper 0
    ++ name_at s.lower 0
    ++ name_at s.middle 0
    ++ u16_bytes s.sector

-- fields that fit their widths, as far as it matters for reading them back
abbrev pub SidedefFits : Sidedef → Type 0
SidedefFits s = Int16 s.x_offset × Int16 s.y_offset × Name s.upper × Name s.lower × Name s.middle

-- record `index` of a lump, or the refusal
abbrev pub sidedef_at : List ℕ → ℕ → Result Sidedef Refusal
sidedef_at lump index = record_at sidedef_size sidedef_of lump index
