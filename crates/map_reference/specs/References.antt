-- The references of a record to others: 23 to 27 (01, "References"). Linedefs are read by the map's game. Assumes nothing.
use Rattle.std.specs.Prelude.{ℕ, ◌+◌, ◌/◌, ◌%◌, Bool, not, ◌&&◌, ◌||◌, List, leb, ltb, eqb, length}
use Rattle.refusal.specs.Checks.{Check}
use Rattle.refusal.specs.declared.Refusal.TheVariants.{LinedefReference, SidedefReference, SegReference, SubsectorReference, NodeReference}
use Rattle.refusal.specs.Checks.{unless}
use Rattle.record_linedef.specs.declared.Linedef.{Linedef}
use Rattle.record.specs.declared.seg.Seg.{Seg}
use Rattle.record.specs.declared.subsector.Subsector.{Subsector}
use Rattle.record_field.specs.Records.{record_bytes}
use Rattle.record_linedef.specs.Linedefs.{linedef_size, linedef_of, no_sidedef}
use Rattle.record.specs.Sidedefs.{sidedef_size, sidedef_of}
use Rattle.record.specs.Segs.{seg_size, seg_of}
use Rattle.record.specs.Subsectors.{subsector_size, subsector_of}
use Rattle.node.specs.Nodes.{node_ok}

-- flag 0x0004
abbrev pub two_sided : ℕ → Bool
two_sided flags = eqb (flags / 4 % 2) 1

-- both vertices in range; a right side in range (which 65,535 never is, since there are at most 65,535 sidedefs); a left side
-- none or in range, and there where the linedef is two-sided
abbrev pub linedef_ok : ℕ → ℕ → Linedef → Bool
linedef_ok vertices sidedefs l =
    ltb l.start vertices && ltb l.end vertices && ltb l.right sidedefs
    && (eqb l.left no_sidedef || ltb l.left sidedefs) && not (two_sided l.flags && eqb l.left no_sidedef)

-- linedef `i` is there and has a left side
abbrev pub left_ok : Bool → List ℕ → ℕ → Bool
left_ok hexen linedefs i =
    ltb i (length linedefs / linedef_size hexen)
    && not (eqb (linedef_of hexen (record_bytes linedefs (linedef_size hexen) i)).left no_sidedef)

-- both vertices and the linedef in range; direction 0, or 1 along a linedef with a left side
abbrev pub seg_ok : Bool → List ℕ → ℕ → Seg → Bool
seg_ok hexen linedefs vertices s =
    ltb s.start vertices && ltb s.end vertices && ltb s.linedef (length linedefs / linedef_size hexen)
    && (eqb s.direction 0 || (eqb s.direction 1 && left_ok hexen linedefs s.linedef))

-- at least one seg, and none past the last of `segs`
abbrev pub subsector_ok : ℕ → Subsector → Bool
subsector_ok segs s = leb 1 s.number && leb (s.first + s.number) segs

-- 23, of linedef `i`
abbrev pub linedef_check : Bool → List ℕ → ℕ → ℕ → ℕ → Check
linedef_check hexen linedefs vertices sidedefs i =
    unless (linedef_ok vertices sidedefs (linedef_of hexen (record_bytes linedefs (linedef_size hexen) i))) (LinedefReference i)

-- 24, of sidedef `i`
abbrev pub sidedef_check : List ℕ → ℕ → ℕ → Check
sidedef_check sidedefs sectors i = unless (ltb (sidedef_of (record_bytes sidedefs sidedef_size i)).sector sectors) (SidedefReference i)

-- 25, of seg `i`
abbrev pub seg_check : Bool → List ℕ → List ℕ → ℕ → ℕ → Check
seg_check hexen segs linedefs vertices i = unless (seg_ok hexen linedefs vertices (seg_of (record_bytes segs seg_size i))) (SegReference i)

-- 26, of subsector `i`
abbrev pub subsector_check : List ℕ → ℕ → ℕ → Check
subsector_check subsectors segs i = unless (subsector_ok segs (subsector_of (record_bytes subsectors subsector_size i))) (SubsectorReference i)

-- 27, of node `i`
abbrev pub node_check : List ℕ → ℕ → ℕ → Check
node_check nodes subsectors i = unless (node_ok nodes subsectors i) (NodeReference i)
