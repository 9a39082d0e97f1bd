-- A record of SECTORS: fields by document 004's table (01, "One map"). A flat's name is eight raw bytes. Assumes nothing.
use Rattle.std.specs.Prelude.{ℕ, List, ◌++◌, Result}
use Rattle.refusal.specs.declared.Refusal.{Refusal}
use Rattle.endian.specs.Unsigned.{u16_at, u16_bytes}
use Rattle.endian.specs.Signed.{i16_at}
use Rattle.record_field.specs.Fields.{i16_bytes, Int16, name_at, Name}
use Rattle.record_field.specs.Records.{record_at}
use Rattle.record.specs.declared.sector.Sector.{Sector}

-- a record's bytes, and the place of its lump
abbrev pub sector_size : ℕ
sector_size = 26

abbrev pub sector_place : ℕ
sector_place = 8

-- the fields of a record's bytes
abbrev pub sector_of : List ℕ → Sector
sector_of bytes =
    record {
      floor = i16_at bytes 0;
      ceiling = i16_at bytes 2;
      floor_flat = name_at bytes 4;
      ceiling_flat = name_at bytes 12;
      light = u16_at bytes 20;
      special = u16_at bytes 22;
      tag = u16_at bytes 24;
    }

-- the bytes of a record's fields
abbrev pub sector_bytes : Sector → List ℕ
sector_bytes s =
    i16_bytes s.floor
    ++ i16_bytes s.ceiling
    ++ name_at s.floor_flat 0
    ++ name_at s.ceiling_flat 0
    ++ u16_bytes s.light
    ++ u16_bytes s.special
    ++ u16_bytes s.tag

-- fields that fit their widths, as far as it matters for reading them back
abbrev pub SectorFits : Sector → Type 0
SectorFits s = Int16 s.floor × Int16 s.ceiling × Name s.floor_flat × Name s.ceiling_flat

-- record `index` of a lump, or the refusal
abbrev pub sector_at : List ℕ → ℕ → Result Sector Refusal
sector_at lump index = record_at sector_size sector_of lump index
