-- Which numbers the checks of a map give: none above 22 before the records are looked at, none above 30 before the node graph is judged. Assumes nothing.
use Prim.Native.Nat.{ℕ, ◌+◌, ◌*◌, ◌≤◌}
use mathlib.Core.Bool.{Bool}
use mathlib.Core.List.{List}
use native.Mathlib.Omega.{arith}
use lib.Dec.{leb, ltb, eqb}
use lib.ListN.{length}
use Rattle.refusal.specs.declared.Refusal.{Refusal}
use Rattle.refusal.specs.declared.Refusal.TheVariants.{MarkerRun, RecordSize, RecordCount, RejectLength, LinedefReference, SidedefReference, SegReference, SubsectorReference, NodeReference, Blockmap, WorkWords}
use Rattle.refusal.specs.Table.{number_of}
use Rattle.refusal.specs.Checks.{unless, each}
use Rattle.refusal.proofs.Numbers.{AtMost, unless_at_most, and_then_at_most, each_at_most, at_most_more}
use Rattle.wad.specs.Lump.{entry_size}
use Rattle.record_table.specs.Lumps.{lump_name, LINEDEFS, SIDEDEFS, VERTEXES, SEGS, SSECTORS, NODES, SECTORS, REJECT, BLOCKMAP}
use Rattle.record_field.specs.Records.{record_bytes}
use Rattle.record_linedef.specs.Linedefs.{linedef_size, linedef_of}
use Rattle.record.specs.Sidedefs.{sidedef_size, sidedef_of}
use Rattle.record.specs.Vertexes.{vertex_size}
use Rattle.record.specs.Segs.{seg_size, seg_of}
use Rattle.record.specs.Subsectors.{subsector_size, subsector_of}
use Rattle.record.specs.Nodes.{node_size}
use Rattle.record.specs.Sectors.{sector_size}
use Rattle.node.specs.Nodes.{node_ok}
use Rattle.map_reference.specs.References.{linedef_ok, seg_ok, subsector_ok}
use Rattle.map_blockmap.specs.Blockmap.{word_at, cells_of, header_ok, list_ok, blockmap_check}
use Rattle.map_lumps.specs.Lumps.{map_lump, record_count}
use Rattle.map_lumps.specs.Run.{named_ok, run_check}
use Rattle.map_lumps.specs.Games.{game_at}
use Rattle.map_lumps.specs.Sizes.{whole_ok, record_count_ok, reject_size, size_check, sizes_check}
use Rattle.map_check.specs.References.{linedefs_check, sidedefs_check, segs_check, subsectors_check, nodes_check, references_check}
use Rattle.map_check.specs.Verdict.{map_check}

-- a scan of tests
tests : {most : ℕ} (ok : ℕ → Bool) (r : ℕ → Refusal) → ((i : ℕ) → number_of (r i) ≤ most) → (n : ℕ)
    → AtMost most (each (λ i. unless (ok i) (r i)) n)
tests ok r h n = each_at_most _ (λ i. unless_at_most (ok i) (r i) (h i)) n

pub run_at_most : (dir : List ℕ) (count marker : ℕ) → AtMost 22 (run_check dir count marker)
run_at_most dir count marker =
    and_then_at_most _ _ (unless_at_most (eqb (entry_size dir marker) 0) (MarkerRun 0) (omega arith))
    (tests (λ i. named_ok dir count (marker + (i + 1)) (lump_name (i + 1))) (λ i. MarkerRun (i + 1)) (λ i. omega arith) 10)

module _ (hexen : Bool) (lumps : List (List ℕ)) where
  pub sizes_at_most : AtMost 22 (sizes_check hexen lumps)
  sizes_at_most =
      and_then_at_most _ _
      (each_at_most (λ i. size_check hexen lumps (i + 1)) (λ i.
      and_then_at_most _ _ (unless_at_most (whole_ok hexen lumps (i + 1)) (RecordSize (i + 1)) (omega arith))
      (unless_at_most (record_count_ok hexen lumps (i + 1)) (RecordCount (i + 1)) (omega arith))) 8)
      (unless_at_most (eqb (length (map_lump lumps REJECT)) (reject_size (record_count lumps SECTORS sector_size))) RejectLength (omega arith))

  references : AtMost 30 (references_check hexen lumps)
  references =
      and_then_at_most (linedefs_check hexen lumps) _
      (tests (λ i. linedef_ok (record_count lumps VERTEXES vertex_size) (record_count lumps SIDEDEFS sidedef_size) (linedef_of hexen (record_bytes (map_lump lumps LINEDEFS) (linedef_size hexen) i))) LinedefReference (λ i. omega arith) _)
      (and_then_at_most (sidedefs_check lumps) _
      (tests (λ i. ltb (sidedef_of (record_bytes (map_lump lumps SIDEDEFS) sidedef_size i)).sector (record_count lumps SECTORS sector_size)) SidedefReference (λ i. omega arith) _)
      (and_then_at_most (segs_check hexen lumps) _
      (tests (λ i. seg_ok hexen (map_lump lumps LINEDEFS) (record_count lumps VERTEXES vertex_size) (seg_of (record_bytes (map_lump lumps SEGS) seg_size i))) SegReference (λ i. omega arith) _)
      (and_then_at_most (subsectors_check lumps) (nodes_check lumps)
      (tests (λ i. subsector_ok (record_count lumps SEGS seg_size) (subsector_of (record_bytes (map_lump lumps SSECTORS) subsector_size i))) SubsectorReference (λ i. omega arith) _)
      (tests (λ i. node_ok (map_lump lumps NODES) (record_count lumps SSECTORS subsector_size) i) NodeReference (λ i. omega arith) _))))

blockmaps : (lump : List ℕ) (linedefs : ℕ) → AtMost 30 (blockmap_check lump linedefs)
blockmaps lump linedefs =
    and_then_at_most _ _ (unless_at_most (header_ok lump) (Blockmap 0) (omega arith))
    (tests (λ i. list_ok lump linedefs (word_at lump (4 + i))) Blockmap (λ i. omega arith) (cells_of lump))

-- 12 to 30
pub map_at_most : (dir : List ℕ) (count marker : ℕ) (lumps : List (List ℕ)) (lent : ℕ)
    → AtMost 30 (map_check dir count marker lumps lent)
map_at_most dir count marker lumps lent =
    let hexen = game_at dir count marker in
    and_then_at_most (run_check dir count marker) _ (at_most_more (run_check dir count marker) (omega arith) (run_at_most dir count marker))
    (and_then_at_most (sizes_check hexen lumps) _ (at_most_more (sizes_check hexen lumps) (omega arith) (sizes_at_most hexen lumps))
    (and_then_at_most (references_check hexen lumps) _ (references hexen lumps)
    (and_then_at_most _ _ (blockmaps (map_lump lumps BLOCKMAP) (record_count lumps LINEDEFS (linedef_size hexen)))
    (unless_at_most (leb (4 * record_count lumps NODES node_size) lent) WorkWords (omega arith)))))
