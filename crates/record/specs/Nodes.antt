-- A record of NODES: fields by document 004's table (01, "One map"). The two bounding boxes are four numbers each. Assumes
-- nothing.
use Rattle.std.specs.Prelude.{ℕ, List, ◌++◌, Result}
use Rattle.refusal.specs.declared.Refusal.{Refusal}
use Rattle.endian.specs.Unsigned.{u16_at, u16_bytes}
use Rattle.endian.specs.Signed.{i16_at}
use Rattle.record_field.specs.Fields.{i16_bytes, four_at, four_bytes, Int16, FourFits}
use Rattle.record_field.specs.Records.{record_at}
use Rattle.record.specs.declared.node.Node.{Node}

-- a record's bytes, and the place of its lump
abbrev pub node_size : ℕ
node_size = 28

abbrev pub node_place : ℕ
node_place = 7

-- the fields of a record's bytes
abbrev pub node_of : List ℕ → Node
node_of bytes =
    record {
      x = i16_at bytes 0;
      y = i16_at bytes 2;
      dx = i16_at bytes 4;
      dy = i16_at bytes 6;
      right_box = four_at bytes 8;
      left_box = four_at bytes 16;
      right = u16_at bytes 24;
      left = u16_at bytes 26;
    }

-- the bytes of a record's fields
abbrev pub node_bytes : Node → List ℕ
node_bytes n =
    i16_bytes n.x
    ++ i16_bytes n.y
    ++ i16_bytes n.dx
    ++ i16_bytes n.dy
    ++ four_bytes n.right_box
    ++ four_bytes n.left_box
    ++ u16_bytes n.right
    ++ u16_bytes n.left

-- fields that fit their widths, as far as it matters for reading them back
abbrev pub NodeFits : Node → Type 0
NodeFits n = Int16 n.x × Int16 n.y × Int16 n.dx × Int16 n.dy × FourFits n.right_box × FourFits n.left_box

-- record `index` of a lump, or the refusal
abbrev pub node_at : List ℕ → ℕ → Result Node Refusal
node_at lump index = record_at node_size node_of lump index
