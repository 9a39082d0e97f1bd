-- What holds of a record's fields and of the first that is out of its range (W-211), for each kind of record. Of the
-- counts it is used that they are above 0, and that there are at most 65,535 sidedefs: both by 21. Assumes nothing.
use Rattle.std.specs.Prelude.{ℕ, ◌+◌, ◌/◌, ◌<◌, ◌≤◌, Bool, false, List, [], ◌∷◌, ◌≡◌, ltb, length}
use Rattle.endian.specs.Unsigned.{u16_at}
use Rattle.reason_range.specs.declared.Field.{Field}
use Rattle.reason_range.specs.Fields.{all_in, first_out, FirstOut}
use Rattle.record_field.specs.Records.{record_bytes}
use Rattle.record_linedef.specs.Linedefs.{linedef_size, linedef_of}
use Rattle.record.specs.Sidedefs.{sidedef_size, sidedef_of}
use Rattle.record.specs.Segs.{seg_size, seg_of}
use Rattle.record.specs.Subsectors.{subsector_size, subsector_of}
use Rattle.record.specs.Nodes.{node_size}
use Rattle.node.specs.Nodes.{nodes_of, node_ok}
use Rattle.map_reference.specs.References.{linedef_ok, seg_ok, subsector_ok}
use Rattle.reason_record.specs.RecordFields.{linedef_fields, sidedef_fields, seg_fields, subsector_fields, node_fields}

-- fields of two bytes one after the other, from `from` on and before `end`
abbrev pub InOrder : ℕ → ℕ → List Field → Type 0
InOrder from end [] = from ≤ end
InOrder from end (f ∷ fs) = (from ≤ f.offset) × InOrder (f.offset + 2) end fs

-- of a record of `size` bytes whose check is `ok`, and its fields
pub record RecordReasoned (bytes : List ℕ) (size : ℕ) (ok : Bool) (fields : List Field) : Type 0 where
  -- the check is that all are in range
  pub same : ok ≡ all_in fields
  -- they stand in byte order
  pub order : InOrder 0 size fields
  -- where it refuses, one is out of its range, and all before it are in theirs
  pub first : ok ≡ false → FirstOut fields (first_out fields)
  -- and that one holds what stands at its offset
  pub holds : ok ≡ false → (first_out fields).number ≡ u16_at bytes (first_out fields).offset

pub record RecordsReasoned : Type 0 where
  pub linedef : (hexen : Bool) (bytes : List ℕ) (vertices sidedefs : ℕ) → 0 < vertices → 0 < sidedefs → sidedefs ≤ 65535
      → RecordReasoned bytes (linedef_size hexen) (linedef_ok vertices sidedefs (linedef_of hexen bytes))
      (linedef_fields hexen bytes vertices sidedefs)
  pub sidedef : (bytes : List ℕ) (sectors : ℕ) → 0 < sectors
      → RecordReasoned bytes sidedef_size (ltb (sidedef_of bytes).sector sectors) (sidedef_fields bytes sectors)
  pub seg : (hexen : Bool) (linedefs bytes : List ℕ) (vertices : ℕ) → 0 < vertices → 0 < length linedefs / linedef_size hexen
      → RecordReasoned bytes seg_size (seg_ok hexen linedefs vertices (seg_of bytes)) (seg_fields hexen linedefs bytes vertices)
  pub subsector : (bytes : List ℕ) (segs : ℕ)
      → RecordReasoned bytes subsector_size (subsector_ok segs (subsector_of bytes)) (subsector_fields bytes segs)
  pub node : (nodes : List ℕ) (subsectors i : ℕ) → i < nodes_of nodes
      → RecordReasoned (record_bytes nodes node_size i) node_size (node_ok nodes subsectors i)
      (node_fields (record_bytes nodes node_size i) (nodes_of nodes) subsectors)
