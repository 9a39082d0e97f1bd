-- Small records, computed: what each of them is refused for. Assumes nothing.
use Rattle.std.specs.Prelude.{ℕ, Bool, true, false, List, ◌++◌, ◌≡◌, replicate}
use Rattle.endian.specs.Unsigned.{u16_bytes}
use Rattle.reason_range.specs.declared.Field.{Field}
use Rattle.reason_range.specs.Fields.{first_out, no_field}
use Rattle.reason_record.specs.RecordFields.{linedef_fields, sidedef_fields, seg_fields, subsector_fields, node_fields}

-- offset, number, least and most
abbrev pub field : ℕ → ℕ → ℕ → ℕ → Field
field at n least most = record { offset = at; number = n; least = least; most = most }

-- a Doom linedef of vertices 0 and 1 with these flags, of right side 3 and this left one; and the same in Hexen
abbrev pub doom_linedef : ℕ → ℕ → List ℕ
doom_linedef flags left = u16_bytes 0 ++ u16_bytes 1 ++ u16_bytes flags ++ replicate 4 7 ++ u16_bytes 3 ++ u16_bytes left

abbrev pub hexen_linedef : ℕ → ℕ → List ℕ
hexen_linedef flags left = u16_bytes 0 ++ u16_bytes 1 ++ u16_bytes flags ++ replicate 6 7 ++ u16_bytes 3 ++ u16_bytes left

-- in a map of 2 vertices and 641 sidedefs
abbrev pub of_linedef : Bool → List ℕ → Field
of_linedef hexen bytes = first_out (linedef_fields hexen bytes 2 641)

-- a seg of vertices 0 and `end` along linedef 0, and of this direction
abbrev pub seg : ℕ → ℕ → List ℕ
seg end direction = u16_bytes 0 ++ u16_bytes end ++ replicate 2 7 ++ u16_bytes 0 ++ u16_bytes direction ++ replicate 2 7

-- in a map of 2 vertices and one linedef
abbrev pub of_seg : List ℕ → List ℕ → Field
of_seg linedef bytes = first_out (seg_fields false linedef bytes 2)

-- in a map of 10 segs
abbrev pub of_subsector : ℕ → ℕ → Field
of_subsector number first = first_out (subsector_fields (u16_bytes number ++ u16_bytes first) 10)

-- a node with these children, in a map of 32 nodes and 5 subsectors
abbrev pub of_node : ℕ → ℕ → Field
of_node right left = first_out (node_fields (replicate 24 7 ++ u16_bytes right ++ u16_bytes left) 32 5)

pub record Examples : Type 0 where
  -- left sidedef 812 of sidedefs 0 to 640, in both games
  pub left : of_linedef false (doom_linedef 0 812) ≡ field 12 812 0 640
  pub hexen_left : of_linedef true (hexen_linedef 0 812) ≡ field 14 812 0 640
  -- two-sided without a left side, and one-sided
  pub missing : of_linedef false (doom_linedef 4 65535) ≡ field 12 65535 0 640
  pub one_sided : of_linedef false (doom_linedef 1 65535) ≡ no_field
  pub sector : first_out (sidedef_fields (replicate 28 7 ++ u16_bytes 9) 9) ≡ field 28 9 0 8
  -- both its end and its direction are bad: the end comes first
  pub end : of_seg (doom_linedef 1 65535) (seg 2 2) ≡ field 2 2 0 1
  -- directions along a linedef without a left side, and with one
  pub against : of_seg (doom_linedef 1 65535) (seg 1 1) ≡ field 8 1 0 0
  pub most : of_seg (doom_linedef 1 65535) (seg 1 65535) ≡ field 8 65535 0 0
  pub sided : of_seg (doom_linedef 4 5) (seg 1 2) ≡ field 8 2 0 1
  -- no segs, more than there are, and too far behind
  pub empty : of_subsector 0 3 ≡ field 0 0 1 10
  pub many : of_subsector 11 20 ≡ field 0 11 1 10
  pub behind : of_subsector 4 7 ≡ field 2 7 0 6
  -- node 40 of nodes 0 to 31, and subsector 5 of 5, as stored
  pub node : of_node 31 40 ≡ field 26 40 0 31
  pub subsector : of_node 32773 40 ≡ field 24 32773 32768 32772
  pub good : of_node 0 32772 ≡ no_field
