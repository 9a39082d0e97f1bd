-- A record of SSECTORS: fields by document 004's table (01, "One map"). Assumes nothing.
use Rattle.std.specs.Prelude.{ℕ, List, ◌++◌, Result}
use Rattle.refusal.specs.declared.Refusal.{Refusal}
use Rattle.endian.specs.Unsigned.{u16_at, u16_bytes}
use Rattle.record_field.specs.Records.{record_at}
use Rattle.record.specs.declared.subsector.Subsector.{Subsector}

-- a record's bytes, and the place of its lump
abbrev pub subsector_size : ℕ
subsector_size = 4

abbrev pub subsector_place : ℕ
subsector_place = 6

-- the fields of a record's bytes
abbrev pub subsector_of : List ℕ → Subsector
subsector_of bytes =
    record {
      number = u16_at bytes 0;
      first = u16_at bytes 2;
    }

-- the bytes of a record's fields
abbrev pub subsector_bytes : Subsector → List ℕ
subsector_bytes s =
    u16_bytes s.number
    ++ u16_bytes s.first

-- fields that fit their widths: nothing is asked of unsigned ones, which come back whatever they are
abbrev pub SubsectorFits : Subsector → Type 0
SubsectorFits s = Unit

-- record `index` of a lump, or the refusal
abbrev pub subsector_at : List ℕ → ℕ → Result Subsector Refusal
subsector_at lump index = record_at subsector_size subsector_of lump index
