-- What a map is known to hold once its checks pass: what the later checks and the node graph rely on. Assumes nothing.
use Prim.Native.Nat.{ℕ, ◌+◌, ◌*◌, ◌≤◌, ◌<◌}
use mathlib.Core.Bool.{Bool}
use mathlib.Core.List.{List}
use mathlib.Core.Path.{◌≡◌, ap, ◌∙◌, subst⁻¹}
use native.Mathlib.Omega.{arith}
use borrow.Author.Tests.{leb-true, ltb-true}
use lib.Dec.{leb, ltb, eqb}
use lib.ListN.{length}
use Rattle.std.specs.Prelude.{Ok}
use Rattle.refusal.specs.declared.Refusal.TheVariants.{MarkerRun, SubsectorReference, NodeReference, WorkWords}
use Rattle.refusal.specs.Checks.{unless, ◌and_then◌}
use Rattle.refusal.proofs.Checks.{both, and_then_pass, unless_pass, each_pass}
use Rattle.wad.specs.Header.{head_of, entry_count}
use Rattle.wad.specs.Entries.{directory_of, entry_name}
use Rattle.wad.specs.Lump.{entry_size}
use Rattle.name.specs.Names.{same_name}
use Rattle.record_table.specs.Lumps.{lump_name, LINEDEFS, SEGS, SSECTORS, NODES, BLOCKMAP}
use Rattle.record_linedef.specs.Linedefs.{linedef_size}
use Rattle.record_field.specs.Records.{record_bytes}
use Rattle.record.specs.Segs.{seg_size}
use Rattle.record.specs.Subsectors.{subsector_size, subsector_of}
use Rattle.record.specs.Nodes.{node_size}
use Rattle.node.specs.Nodes.{nodes_of, node_ok}
use Rattle.node_graph.specs.Judging.{Judgeable}
use Rattle.node.proofs.Nodes.{nodes_ok_lem, nodes_in_range}
use Rattle.node_descent.proofs.Descends.{Passed}
use Rattle.map_reference.specs.References.{subsector_ok, subsector_check, node_check}
use Rattle.map_blockmap.specs.Blockmap.{blockmap_check}
use Rattle.map_lumps.specs.Lumps.{map_lumps, map_lump, record_count, each_place}
use Rattle.map_lumps.specs.Games.{game_at}
use Rattle.map_lumps.specs.Run.{named_ok, place_check, run_check}
use Rattle.map_lumps.specs.Sizes.{size_check, reject_check, sizes_check}
use Rattle.map_check.specs.References.{linedefs_check, sidedefs_check, segs_check, subsectors_check, nodes_check, references_check}
use Rattle.map_check.specs.Lumps.{work_check, lumps_check}
use Rattle.map_check.specs.Verdict.{map_check, check_at, nodes_at}
use Rattle.map_lumps.proofs.Places.{each_place_pass, subsectors-size, nodes_size}
use Rattle.map_check.proofs.CountsPassing.{count-least, count_most, nodes_whole, nodes_alone}

-- ---- 12: the ten lumps follow the marker

pub run_long : (dir : List ℕ) (count marker : ℕ) → run_check dir count marker ≡ Ok tt → marker + 11 ≤ count
run_long dir count marker e =
    let p = and_then_pass (unless (eqb (entry_size dir marker) 0) (MarkerRun 0)) (each_place (place_check dir count marker) 10) e in
    let last = each_place_pass (place_check dir count marker) 10 p.1 BLOCKMAP (omega arith) (omega arith) in
    let named = unless_pass (named_ok dir count (marker + BLOCKMAP) (lump_name BLOCKMAP)) (MarkerRun BLOCKMAP) last in
    let there = ltb-true (marker + BLOCKMAP) count (both (ltb (marker + BLOCKMAP) count) (same_name (entry_name dir (marker + BLOCKMAP)) (lump_name BLOCKMAP)) named).0 in
    omega arith

-- ---- 20 to 30

module _ (hexen : Bool) (lumps : List (List ℕ)) (words : ℕ) (e : lumps_check hexen lumps words ≡ Ok tt) where
  sizes : sizes_check hexen lumps ≡ Ok tt
  sizes = (and_then_pass (sizes_check hexen lumps) _ e).0

  pub counts : each_place (size_check hexen lumps) 8 ≡ Ok tt
  counts = (and_then_pass (each_place (size_check hexen lumps) 8) (reject_check lumps) sizes).0

  rest : (references_check hexen lumps and_then (blockmap_check (map_lump lumps BLOCKMAP) (record_count lumps LINEDEFS (linedef_size hexen)) and_then work_check lumps words)) ≡ Ok tt
  rest = (and_then_pass (sizes_check hexen lumps) _ e).1

  -- 26 and 27
  both_pass : (subsectors_check lumps ≡ Ok tt) × (nodes_check lumps ≡ Ok tt)
  both_pass =
      let references = (and_then_pass (references_check hexen lumps) _ rest).0 in
      let p = (and_then_pass (linedefs_check hexen lumps) _ references).1 in
      let q = (and_then_pass (sidedefs_check lumps) _ p).1 in
      let r = (and_then_pass (segs_check hexen lumps) _ q).1 in
      and_then_pass (subsectors_check lumps) (nodes_check lumps) r

  -- 28 and 30
  last_pass : (blockmap_check (map_lump lumps BLOCKMAP) (record_count lumps LINEDEFS (linedef_size hexen)) ≡ Ok tt) × (work_check lumps words ≡ Ok tt)
  last_pass =
      let p = (and_then_pass (references_check hexen lumps) _ rest).1 in
      and_then_pass (blockmap_check (map_lump lumps BLOCKMAP) (record_count lumps LINEDEFS (linedef_size hexen))) (work_check lumps words) p

  pub blockmap_pass : blockmap_check (map_lump lumps BLOCKMAP) (record_count lumps LINEDEFS (linedef_size hexen)) ≡ Ok tt
  blockmap_pass = last_pass.0

  -- the segs of each subsector are the map's
  pub subsectors-inside : (i : ℕ) → i < record_count lumps SSECTORS subsector_size
      → let s = subsector_of (record_bytes (map_lump lumps SSECTORS) subsector_size i) in s.first + s.number ≤ record_count lumps SEGS seg_size
  subsectors-inside i h =
      let s = subsector_of (record_bytes (map_lump lumps SSECTORS) subsector_size i) in
      let segs = record_count lumps SEGS seg_size in
      let passes = each_pass (subsector_check (map_lump lumps SSECTORS) segs) (record_count lumps SSECTORS subsector_size) both_pass.0 i h in
      let ok = unless_pass (subsector_ok segs s) (SubsectorReference i) passes in
      leb-true (s.first + s.number) segs (both (leb 1 s.number) (leb (s.first + s.number) segs) ok).1

  -- what the descent relies on
  pub passed : Passed (map_lump lumps NODES) (record_count lumps SSECTORS subsector_size)
  passed =
      record {
        whole = nodes_whole hexen lumps counts;
        few = count_most hexen lumps counts NODES (omega arith) (omega arith) (nodes_size hexen);
        least = count-least hexen lumps counts SSECTORS (omega arith) (omega arith) (subsectors-size hexen);
        most = count_most hexen lumps counts SSECTORS (omega arith) (omega arith) (subsectors-size hexen);
        alone = nodes_alone hexen lumps counts;
        in_range =
            nodes_ok_lem (map_lump lumps NODES) (record_count lumps SSECTORS subsector_size)
            (λ (i : ℕ) (h : i < nodes_of (map_lump lumps NODES)).
            unless_pass (node_ok (map_lump lumps NODES) (record_count lumps SSECTORS subsector_size) i) (NodeReference i)
            (each_pass (node_check (map_lump lumps NODES) (record_count lumps SSECTORS subsector_size)) (record_count lumps NODES node_size) both_pass.1 i h));
      }

  -- what the node graph's check relies on
  pub judgeable : (lent : List ℕ) → length lent ≡ words → Judgeable (map_lump lumps NODES) (nodes_of (map_lump lumps NODES)) lent
  judgeable lent l =
      let enough = leb-true (4 * record_count lumps NODES node_size) words (unless_pass (leb (4 * record_count lumps NODES node_size) words) WorkWords last_pass.1) in
      record {
        whole = nodes_whole hexen lumps counts;
        most = count_most hexen lumps counts NODES (omega arith) (omega arith) (nodes_size hexen);
        enough = omega arith;
        in_range = nodes_in_range (map_lump lumps NODES) (record_count lumps SSECTORS subsector_size) passed.in_range;
      }

-- ---- 12 to 30, of the map at a marker

module _ (wad : List ℕ) (marker lent : ℕ) where
  -- by the file's own directory and count
  pub check-same : {dir : List ℕ} {count : ℕ} → dir ≡ directory_of wad → count ≡ entry_count (head_of wad)
      → map_check dir count marker (map_lumps wad dir marker) lent ≡ check_at wad marker lent
  check-same d n = λ i. map_check (d i) (n i) marker (map_lumps wad (d i) marker) lent

  module _ (e : check_at wad marker lent ≡ Ok tt) where
    two : (run_check (directory_of wad) (entry_count (head_of wad)) marker ≡ Ok tt)
        × (lumps_check (game_at (directory_of wad) (entry_count (head_of wad)) marker) (map_lumps wad (directory_of wad) marker) lent ≡ Ok tt)
    two = and_then_pass (run_check (directory_of wad) (entry_count (head_of wad)) marker) _ e

    pub lumps_pass : lumps_check (game_at (directory_of wad) (entry_count (head_of wad)) marker) (map_lumps wad (directory_of wad) marker) lent ≡ Ok tt
    lumps_pass = two.1

    pub long_at : marker + 11 ≤ entry_count (head_of wad)
    long_at = run_long (directory_of wad) (entry_count (head_of wad)) marker two.0

    pub judgeable_at : {nodes : List ℕ} → nodes ≡ nodes_at wad marker → (words : List ℕ) → length words ≡ lent → Judgeable nodes (nodes_of nodes) words
    judgeable_at n words l =
        subst⁻¹ (λ (nodes : List ℕ). Judgeable nodes (nodes_of nodes) words) n
        (judgeable (game_at (directory_of wad) (entry_count (head_of wad)) marker) (map_lumps wad (directory_of wad) marker) lent lumps_pass words l)

-- its NODES lump, found by the file's own directory
pub nodes_same : (wad : List ℕ) (marker : ℕ) {dir nodes : List ℕ} → dir ≡ directory_of wad → nodes ≡ map_lump (map_lumps wad dir marker) NODES
    → nodes ≡ nodes_at wad marker
nodes_same wad marker d n = n ∙ ap (λ (dir : List ℕ). map_lump (map_lumps wad dir marker) NODES) d
