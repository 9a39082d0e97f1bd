-- What a refusal from 23 on tells of a map: the run of names, sizes and counts have passed, and the record that it names is there and
-- fails its check, or BLOCKMAP fails. Assumes nothing.
use Prim.Native.Nat.{ℕ, ◌+◌, ◌*◌, ◌<◌}
use mathlib.Core.Bool.{Bool, false}
use mathlib.Core.List.{List}
use mathlib.Core.Path.{◌≡◌, sym, ap, ◌∙◌, subst}
use lib.Dec.{leb, ltb}
use Rattle.refusal.specs.declared.Refusal.{Refusal}
use Rattle.refusal.specs.declared.Refusal.TheVariants.{LinedefReference, SidedefReference, SegReference, SubsectorReference, NodeReference, Blockmap, WorkWords}
use Rattle.std.specs.Prelude.{Ok, Err}
use Rattle.refusal.specs.Table.{number_of, record_of}
use Rattle.refusal.specs.Checks.{unless, ◌and_then◌, each}
use Rattle.refusal.proofs.Checks.{and_then_pass, and_then_by, each-by, unless-refused, unless-named}
use Rattle.refusal.proofs.Numbers.{and_then_late}
use Rattle.record_field.specs.Records.{record_bytes}
use Rattle.record_linedef.specs.Linedefs.{linedef_size, linedef_of}
use Rattle.record.specs.Sidedefs.{sidedef_size, sidedef_of}
use Rattle.record.specs.Vertexes.{vertex_size}
use Rattle.record.specs.Sectors.{sector_size}
use Rattle.record.specs.Segs.{seg_size, seg_of}
use Rattle.record.specs.Subsectors.{subsector_size, subsector_of}
use Rattle.record.specs.Nodes.{node_size}
use Rattle.node.specs.Nodes.{node_ok}
use Rattle.map_reference.specs.References.{linedef_ok, seg_ok, subsector_ok}
use Rattle.map_blockmap.specs.Blockmap.{word_at, cells_of, header_ok, list_ok, blockmap_check}
use Rattle.record_table.specs.Lumps.{LINEDEFS, SIDEDEFS, VERTEXES, SEGS, SSECTORS, NODES, SECTORS, BLOCKMAP}
use Rattle.map_lumps.specs.Lumps.{map_lump, record_count, each_place}
use Rattle.map_lumps.specs.Run.{run_check}
use Rattle.map_lumps.specs.Games.{game_at}
use Rattle.map_lumps.specs.Sizes.{size_check, reject_check, sizes_check}
use Rattle.map_check.specs.References.{linedefs_check, sidedefs_check, segs_check, subsectors_check, nodes_check, references_check}
use Rattle.map_check.specs.Lumps.{work_check, lumps_check}
use Rattle.map_check.specs.Verdict.{map_check}
use Rattle.theorem_map.proofs.Numbers.{run_at_most, sizes_at_most}

-- the run of names has passed
pub past_run : (dir : List ℕ) (count marker : ℕ) (lumps : List (List ℕ)) (lent : ℕ) {r : Refusal}
    → map_check dir count marker lumps lent ≡ Err r → 22 < number_of r
    → (run_check dir count marker ≡ Ok tt) × (lumps_check (game_at dir count marker) lumps lent ≡ Err r)
past_run dir count marker lumps lent e late = and_then_late (run_check dir count marker) _ (run_at_most dir count marker) e late

-- which cell 28 names
blockmap-named : (lump : List ℕ) (linedefs : ℕ) {r : Refusal} → blockmap_check lump linedefs ≡ Err r → (i : ℕ) × (Blockmap i ≡ r)
blockmap-named lump linedefs {r} e =
    and_then_by {X = (i : ℕ) × (Blockmap i ≡ r)} (unless (header_ok lump) (Blockmap 0)) _ e
    (λ q. (0, unless-named (header_ok lump) (Blockmap 0) q))
    (λ q.
    let (i, (h, t)) = each-by (λ i. unless (list_ok lump linedefs (word_at lump (4 + i))) (Blockmap i)) (cells_of lump) q in
    (i, unless-named (list_ok lump linedefs (word_at lump (4 + i))) (Blockmap i) t))

module _ (hexen : Bool) (lumps : List (List ℕ)) (lent : ℕ) {r : Refusal} (e : lumps_check hexen lumps lent ≡ Err r) (late : 22 < number_of r) where
  past_sizes : (sizes_check hexen lumps ≡ Ok tt)
      × ((references_check hexen lumps and_then (blockmap_check (map_lump lumps BLOCKMAP) (record_count lumps LINEDEFS (linedef_size hexen)) and_then work_check lumps lent)) ≡ Err r)
  past_sizes = and_then_late (sizes_check hexen lumps) _ (sizes_at_most hexen lumps) e late

  -- and sizes and counts
  pub past-counts : each_place (size_check hexen lumps) 8 ≡ Ok tt
  past-counts = (and_then_pass (each_place (size_check hexen lumps) 8) (reject_check lumps) past_sizes.0).0

  module _ (P : ℕ → ℕ → Type 0) where
    scan : (ok : ℕ → Bool) (name : ℕ → Refusal) (n : ℕ)
        → ((i : ℕ) → i < n → ok i ≡ false → P (number_of (name i)) (record_of (name i)))
        → each (λ i. unless (ok i) (name i)) n ≡ Err r → P (number_of r) (record_of r)
    scan ok name n p q =
        let (i, (h, t)) = each-by (λ i. unless (ok i) (name i)) n q in
        subst (λ (s : Refusal). P (number_of s) (record_of s)) (unless-named (ok i) (name i) t)
        (p i h (unless-refused (ok i) (name i) t))

    module _
        (linedef : (i : ℕ) → i < record_count lumps LINEDEFS (linedef_size hexen)
        → linedef_ok (record_count lumps VERTEXES vertex_size) (record_count lumps SIDEDEFS sidedef_size)
        (linedef_of hexen (record_bytes (map_lump lumps LINEDEFS) (linedef_size hexen) i)) ≡ false → P 23 i)
        (sidedef : (i : ℕ) → i < record_count lumps SIDEDEFS sidedef_size
        → ltb (sidedef_of (record_bytes (map_lump lumps SIDEDEFS) sidedef_size i)).sector (record_count lumps SECTORS sector_size) ≡ false → P 24 i)
        (seg : (i : ℕ) → i < record_count lumps SEGS seg_size
        → seg_ok hexen (map_lump lumps LINEDEFS) (record_count lumps VERTEXES vertex_size)
        (seg_of (record_bytes (map_lump lumps SEGS) seg_size i)) ≡ false → P 25 i)
        (subsector : (i : ℕ) → i < record_count lumps SSECTORS subsector_size
        → subsector_ok (record_count lumps SEGS seg_size) (subsector_of (record_bytes (map_lump lumps SSECTORS) subsector_size i)) ≡ false → P 26 i)
        (node : (i : ℕ) → i < record_count lumps NODES node_size
        → node_ok (map_lump lumps NODES) (record_count lumps SSECTORS subsector_size) i ≡ false → P 27 i)
        (blockmap : (i : ℕ) → blockmap_check (map_lump lumps BLOCKMAP) (record_count lumps LINEDEFS (linedef_size hexen)) ≡ Err (Blockmap i) → P 28 i)
        (work : P 30 0) where
      references : references_check hexen lumps ≡ Err r → P (number_of r) (record_of r)
      references q =
          and_then_by (linedefs_check hexen lumps) _ q
          (scan (λ i. linedef_ok (record_count lumps VERTEXES vertex_size) (record_count lumps SIDEDEFS sidedef_size) (linedef_of hexen (record_bytes (map_lump lumps LINEDEFS) (linedef_size hexen) i))) LinedefReference _ linedef)
          (λ q1. and_then_by (sidedefs_check lumps) _ q1
          (scan (λ i. ltb (sidedef_of (record_bytes (map_lump lumps SIDEDEFS) sidedef_size i)).sector (record_count lumps SECTORS sector_size)) SidedefReference _ sidedef)
          (λ q2. and_then_by (segs_check hexen lumps) _ q2
          (scan (λ i. seg_ok hexen (map_lump lumps LINEDEFS) (record_count lumps VERTEXES vertex_size) (seg_of (record_bytes (map_lump lumps SEGS) seg_size i))) SegReference _ seg)
          (λ q3. and_then_by (subsectors_check lumps) (nodes_check lumps) q3
          (scan (λ i. subsector_ok (record_count lumps SEGS seg_size) (subsector_of (record_bytes (map_lump lumps SSECTORS) subsector_size i))) SubsectorReference _ subsector)
          (scan (λ i. node_ok (map_lump lumps NODES) (record_count lumps SSECTORS subsector_size) i) NodeReference _ node))))

      blockmaps : blockmap_check (map_lump lumps BLOCKMAP) (record_count lumps LINEDEFS (linedef_size hexen)) ≡ Err r → P (number_of r) (record_of r)
      blockmaps q =
          let (i, t) = blockmap-named (map_lump lumps BLOCKMAP) (record_count lumps LINEDEFS (linedef_size hexen)) q in
          subst (λ (s : Refusal). P (number_of s) (record_of s)) t (blockmap i (q ∙ ap Err (sym t)))

      -- what holds of each record that fails, of a BLOCKMAP that does, and of 30, holds of the refusal
      pub refused-by : P (number_of r) (record_of r)
      refused-by =
          and_then_by (references_check hexen lumps) _ past_sizes.1 references
          (λ q. and_then_by (blockmap_check (map_lump lumps BLOCKMAP) (record_count lumps LINEDEFS (linedef_size hexen))) (work_check lumps lent) q blockmaps
          (λ w. subst (λ (s : Refusal). P (number_of s) (record_of s))
          (unless-named (leb (4 * record_count lumps NODES node_size) lent) WorkWords w) work))
