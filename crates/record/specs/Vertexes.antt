-- A record of VERTEXES: fields by document 004's table (01, "One map"). Assumes nothing.
use Rattle.std.specs.Prelude.{ℕ, List, ◌++◌, Result}
use Rattle.refusal.specs.declared.Refusal.{Refusal}
use Rattle.endian.specs.Signed.{i16_at}
use Rattle.record_field.specs.Fields.{i16_bytes, Int16}
use Rattle.record_field.specs.Records.{record_at}
use Rattle.record.specs.declared.vertex.Vertex.{Vertex}

-- a record's bytes, and the place of its lump
abbrev pub vertex_size : ℕ
vertex_size = 4

abbrev pub vertex_place : ℕ
vertex_place = 4

-- the fields of a record's bytes
abbrev pub vertex_of : List ℕ → Vertex
vertex_of bytes =
    record {
      x = i16_at bytes 0;
      y = i16_at bytes 2;
    }

-- the bytes of a record's fields
abbrev pub vertex_bytes : Vertex → List ℕ
vertex_bytes v =
    i16_bytes v.x
    ++ i16_bytes v.y

-- fields that fit their widths, as far as it matters for reading them back
abbrev pub VertexFits : Vertex → Type 0
VertexFits v = Int16 v.x × Int16 v.y

-- record `index` of a lump, or the refusal
abbrev pub vertex_at : List ℕ → ℕ → Result Vertex Refusal
vertex_at lump index = record_at vertex_size vertex_of lump index
