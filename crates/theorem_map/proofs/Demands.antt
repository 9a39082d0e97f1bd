-- Demand 2's frame, demand 3 and W-205's game. The frame is a matter of rewriting, since the definitions take only what they may depend
-- on; demand 3 is the node graph's theorems, carried to the verdict. Assumes nothing.
use Prim.Native.Nat.{ℕ, ◌+◌, ◌/◌, ◌≤◌, ◌<◌}
use mathlib.Core.Bool.{Bool}
use mathlib.Core.List.{List}
use mathlib.Core.Path.{◌≡◌, refl, sym, ap, ◌∙◌, subst}
use native.Mathlib.Omega.{arith}
use borrow.Author.Tests.{lt-ltb}
use lib.IntN.{ℤ}
use lib.ListN.{length}
use Rattle.refusal.specs.declared.Refusal.{Refusal}
use Rattle.refusal.specs.declared.Refusal.TheVariants.{NodeLoop, NodeShared, WorkWords}
use Rattle.refusal.specs.Table.{number_of}
use Rattle.refusal.specs.Checks.{Check}
use Rattle.std.specs.Prelude.{Result, Ok, Err}
use Rattle.refusal.specs.Checks.{unless, ◌and_then◌}
use Rattle.refusal.proofs.Checks.{and_then_pass}
use Rattle.refusal.proofs.Numbers.{AtMost}
use Rattle.wad.specs.declared.lumps.Entry.{Entry}
use Rattle.wad.specs.Header.{head_of, entry_count}
use Rattle.wad.specs.Entries.{directory_of}
use Rattle.wad.specs.Lump.{entry_size, entry_offset, lump_at, entry_answer, part_of}
use Rattle.wad.specs.Map.{marker_by, marker_answer}
use Rattle.wad.proofs.Answers.{entry_at, handed-whole}
use Rattle.record_linedef.specs.Linedefs.{linedef_size}
use Rattle.record.specs.Subsectors.{subsector_size}
use Rattle.wad.proofs.Numbers.{marker_at_most}
use Rattle.node_route.specs.declared.GraphError.{GraphError}
use Rattle.node_route.specs.declared.GraphError.TheVariants.{HasLoop, HasShared}
use Rattle.node_route.specs.Heights.{graph_verdict}
use Rattle.node_route.specs.Routes.{Loop, Shared}
use Rattle.node_route.specs.Reach.{OneMore}
use Rattle.node.proofs.Nodes.{nodes_in_range}
use Rattle.node_route.proofs.Verdict.{verdict-holds, depth_verdict}
use Rattle.node_route.proofs.Reach.{one_more_lem}
use Rattle.node_descent.proofs.Descends.{Passed, descent-holds}
use Rattle.map_blockmap.specs.Blockmap.{blockmap_check}
use Rattle.record_table.specs.Lumps.{LINEDEFS, SSECTORS, NODES, BLOCKMAP}
use Rattle.map_lumps.specs.Lumps.{map_lumps, map_lump, record_count}
use Rattle.map_lumps.specs.Run.{run_check}
use Rattle.map_lumps.specs.Games.{game_at}
use Rattle.map_lumps.specs.Sizes.{sizes_check}
use Rattle.map_check.specs.References.{references_check}
use Rattle.map_check.specs.Lumps.{lumps_check}
use Rattle.map_check.specs.Verdict.{Verdict, accepted, map_check, graph_answer, judged, check_at, nodes_at, subsectors_at, verdict_by, verdict}
use Rattle.theorem_map.specs.Demands.{MapAt, SameMap, SameShortage, Frame, Below31, HandedOver, Demand3, GameTold}
use Rattle.map_check.proofs.Passing.{run_long, passed}
use Rattle.map_check.proofs.Answers.{marker_known}
use Rattle.map_lumps.proofs.Telling.{game-by}
use Rattle.theorem_map.proofs.Numbers.{map_at_most}

-- ---- demand 2

module _ (wad wad' name words words' : List ℕ) (same : SameMap wad wad' name) (short : SameShortage wad name words words') where
  same_marker : marker_answer wad name ≡ marker_answer wad' name
  same_marker = λ i. marker_by (same.long i) (same.header i) (same.directory i) name

  module _ (m : ℕ) where
    -- the ten names are looked at before the lumps
    run_refused : (r : Refusal) → run_check (directory_of wad) (entry_count (head_of wad)) m ≡ Err r
        → verdict_by wad words (Ok m) ≡ verdict_by wad' words' (Ok m)
    run_refused r e =
        let e' : run_check (directory_of wad') (entry_count (head_of wad')) m ≡ Err r =
        sym (λ i. run_check (same.directory i) (entry_count (same.header i)) m) ∙ e in
        ap (λ (c : Check). judged (c and_then lumps_check (game_at (directory_of wad) (entry_count (head_of wad)) m) (map_lumps wad (directory_of wad) m) (length words)) (graph_verdict (nodes_at wad m)) m) e
        ∙ sym (ap (λ (c : Check). judged (c and_then lumps_check (game_at (directory_of wad') (entry_count (head_of wad')) m) (map_lumps wad' (directory_of wad') m) (length words')) (graph_verdict (nodes_at wad' m)) m) e')

    run_passed : MapAt wad name m → verdict_by wad words (Ok m) ≡ verdict_by wad' words' (Ok m)
    run_passed at =
        let dir = directory_of wad in
        let lumps = map_lumps wad dir m in
        let hexen = game_at dir (entry_count (head_of wad)) m in
        let enough : Bool → Check = λ (b : Bool).
        run_check dir (entry_count (head_of wad)) m
        and_then (sizes_check hexen lumps and_then references_check hexen lumps and_then blockmap_check (map_lump lumps BLOCKMAP) (record_count lumps LINEDEFS (linedef_size hexen)) and_then unless b WorkWords) in
        ap (λ (b : Bool). judged (enough b) (graph_verdict (nodes_at wad m)) m) (short m at)
        ∙ (λ i.
        judged (map_check (same.directory i) (entry_count (same.header i)) m (same.lumps m at i) (length words')) (graph_verdict (map_lump (same.lumps m at i) NODES)) m)

    run_by : (c : Check) → marker_answer wad name ≡ Ok m → run_check (directory_of wad) (entry_count (head_of wad)) m ≡ c
        → verdict_by wad words (Ok m) ≡ verdict_by wad' words' (Ok m)
    run_by (Ok _) e q = run_passed (e, q)
    run_by (Err r) e q = run_refused r q

  same_by : (a : Result ℕ Refusal) → marker_answer wad name ≡ a → verdict_by wad words a ≡ verdict_by wad' words' a
  same_by (Err r) e = refl
  same_by (Ok m) e = run_by m (run_check (directory_of wad) (entry_count (head_of wad)) m) e refl

pub frame : Frame
frame wad wad' name words words' same short =
    same_by wad wad' name words words' same short (marker_answer wad name) refl
    ∙ ap (verdict_by wad' words') (same_marker wad wad' name words words' same short)

-- ---- demand 3

-- the number of a refused map
abbrev number_in : Verdict → ℕ
number_in (Ok a) = 0
number_in (Err r) = number_of r

-- the depth and the marker of a map that is accepted
abbrev depth_in : Verdict → ℕ
depth_in (Ok a) = a.depth
depth_in (Err r) = 0

abbrev marker_in : Verdict → ℕ
marker_in (Ok a) = a.marker
marker_in (Err r) = 0

abbrev Graph : Type 0
Graph = Result ℕ GraphError

pub graph_loop : (g : Graph) (m : ℕ) → graph_answer g m ≡ Err NodeLoop → g ≡ Err HasLoop
graph_loop (Err HasLoop) m e = refl
graph_loop (Err HasShared) m e = let z : ◌≡◌ {A = ℕ} 31 32 = ap number_in (sym e) in absurd (omega arith)
graph_loop (Ok d) m e = let z : ◌≡◌ {A = ℕ} 0 31 = ap number_in e in absurd (omega arith)

graph_shared : (g : Graph) (m : ℕ) → graph_answer g m ≡ Err NodeShared → g ≡ Err HasShared
graph_shared (Err HasLoop) m e = let z : ◌≡◌ {A = ℕ} 31 32 = ap number_in e in absurd (omega arith)
graph_shared (Err HasShared) m e = refl
graph_shared (Ok d) m e = let z : ◌≡◌ {A = ℕ} 0 32 = ap number_in e in absurd (omega arith)

graph_deep : (g : Graph) (m : ℕ) {d m' : ℕ} → graph_answer g m ≡ accepted d m' → (g ≡ Ok d) × (m ≡ m')
graph_deep (Err HasLoop) m e = let z : ◌≡◌ {A = ℕ} 31 0 = ap number_in e in absurd (omega arith)
graph_deep (Err HasShared) m e = let z : ◌≡◌ {A = ℕ} 32 0 = ap number_in e in absurd (omega arith)
graph_deep (Ok d) m e = (ap Ok (ap depth_in e), ap marker_in e)

-- a loop is no shared child
loop-or-shared : {g : Graph} → g ≡ Err HasLoop → g ≡ Err HasShared → ⊥
loop-or-shared e q = let z : ◌≡◌ {A = ℕ} 0 1 = cc in omega arith

-- a check gives no number above 30, so that one is the graph's
not_above_lem : (r s : Refusal) → number_of r ≤ 30 → 30 < number_of s → ◌≡◌ {A = Verdict} (Err r) (Err s) → ⊥
not_above_lem r s h k e = let same : number_of r ≡ number_of s = ap number_in e in omega arith

judged_graph : (c : Check) (g : Graph) (m : ℕ) (s : Refusal) → 30 < number_of s → AtMost 30 c → judged c g m ≡ Err s
    → (c ≡ Ok tt) × (graph_answer g m ≡ Err s)
judged_graph (Ok _) g m s k h e = (refl, e)
judged_graph (Err r) g m s k h e = absurd (not_above_lem r s (h r refl) k e)

judged-deep : (c : Check) (g : Graph) (m : ℕ) {d m' : ℕ} → judged c g m ≡ accepted d m' → (c ≡ Ok tt) × ((g ≡ Ok d) × (m ≡ m'))
judged-deep (Ok _) g m e = (refl, graph_deep g m e)
judged-deep (Err r) g m e = let z : ◌≡◌ {A = ℕ} 0 1 = cc in absurd (omega arith)

-- an entry that is not refused
abbrev entry_of : ℕ → ℕ → Result Entry Refusal
entry_of offset size = Ok (record { offset = offset; size = size })

module _ (wad name words : List ℕ) where
  -- below 31 everything passes: the verdict is the graph's
  graphs : (m : ℕ) → Below31 wad name words m → verdict wad name words ≡ graph_answer (graph_verdict (nodes_at wad m)) m
  graphs m b =
      ap (verdict_by wad words) b.marks ∙ ap (λ (c : Check). judged c (graph_verdict (nodes_at wad m)) m) b.passes

  pub record Known (d m : ℕ) : Type 0 where
    pub below : Below31 wad name words m
    pub deep : graph_verdict (nodes_at wad m) ≡ Ok d

  known_by : (a : Result ℕ Refusal) {d m : ℕ} → marker_answer wad name ≡ a → verdict_by wad words a ≡ accepted d m → Known d m
  known_by (Err r) e q = let z : ◌≡◌ {A = ℕ} 0 1 = cc in absurd (omega arith)
  known_by (Ok k) {d} {m} e q =
      let p = judged-deep (check_at wad k (length words)) (graph_verdict (nodes_at wad k)) k q in
      subst (λ (n : ℕ). Known d n) p.1.1 (record { below = record { marks = e; passes = p.0 }; deep = p.1.0 })

  -- an accepted map passes every check below 31, and its graph has that depth
  pub known : (d m : ℕ) → verdict wad name words ≡ accepted d m → Known d m
  known d m q = known_by (marker_answer wad name) refl q

  -- a map that is refused with a number above 30 passes every check below it, and is refused for its graph
  pub graph_by_lem : (a : Result ℕ Refusal) (s : Refusal) → 30 < number_of s → marker_answer wad name ≡ a → verdict_by wad words a ≡ Err s
      → (m : ℕ) × (Below31 wad name words m × (graph_answer (graph_verdict (nodes_at wad m)) m ≡ Err s))
  graph_by_lem (Err r) s k e q = let h = marker_at_most wad name r e in absurd (not_above_lem r s (omega arith) k q)
  graph_by_lem (Ok m) s k e q =
      let dir = directory_of wad in
      let below = map_at_most dir (entry_count (head_of wad)) m (map_lumps wad dir m) (length words) in
      let p = judged_graph (check_at wad m (length words)) (graph_verdict (nodes_at wad m)) m s k below q in
      (m, (record { marks = e; passes = p.0 }, p.1))

  loop-only : verdict wad name words ≡ Err NodeLoop → (m : ℕ) × (Below31 wad name words m × Loop (nodes_at wad m))
  loop-only q =
      let (m, (b, e)) = graph_by_lem (marker_answer wad name) NodeLoop (omega arith) refl q in
      (m, (b, (verdict-holds (nodes_at wad m)).loop.0 (graph_loop (graph_verdict (nodes_at wad m)) m e)))

  shared-only : verdict wad name words ≡ Err NodeShared
      → (m : ℕ) × (Below31 wad name words m × ((Loop (nodes_at wad m) → ⊥) × Shared (nodes_at wad m)))
  shared-only q =
      let (m, (b, e)) = graph_by_lem (marker_answer wad name) NodeShared (omega arith) refl q in
      let holds = verdict-holds (nodes_at wad m) in
      let is = graph_shared (graph_verdict (nodes_at wad m)) m e in
      let none : Loop (nodes_at wad m) → ⊥ = λ (l : Loop (nodes_at wad m)). loop-or-shared (holds.loop.1 l) is in
      (m, (b, (none, (holds.shared none).0 is)))

  -- what the descent and the count of subsectors rely on
  pub below_passed : (m : ℕ) → Below31 wad name words m → Passed (nodes_at wad m) (subsectors_at wad m)
  below_passed m b =
      let dir = directory_of wad in
      let lumps = map_lumps wad dir m in
      let hexen = game_at dir (entry_count (head_of wad)) m in
      let rest = (and_then_pass (run_check dir (entry_count (head_of wad)) m) (lumps_check hexen lumps (length words)) b.passes).1 in
      passed hexen lumps (length words) rest

  pub known_passed : (d m : ℕ) → Known d m → Passed (nodes_at wad m) (subsectors_at wad m)
  known_passed d m k = below_passed m k.below

  one-more_of : (d m : ℕ) → Known d m → OneMore (nodes_at wad m)
  one-more_of d m k =
      let (off, alone, is) = depth_verdict (nodes_at wad m) k.deep in
      one_more_lem (nodes_at wad m) off alone (nodes_in_range (nodes_at wad m) (subsectors_at wad m) (known_passed d m k).in_range)

  -- the ten entries after the marker are there, so that none of them is refused
  handed_over : (d m : ℕ) → Known d m → HandedOver wad m
  handed_over d m k =
      let dir = directory_of wad in
      let count = entry_count (head_of wad) in
      let file = (marker_known wad name k.below.marks).0 in
      let long = run_long dir count m (and_then_pass (run_check dir count m) _ k.below.passes).0 in
      let at : (i : ℕ) → i < count → entry_answer wad i ≡ Ok (record { offset = entry_offset dir i; size = entry_size dir i }) = λ i h. sym (entry_at wad i file h) in
      let sized : (i : ℕ) → i < count → entry_size dir i ≡ length (lump_at wad dir i) =
      λ i h. sym (handed-whole wad i (entry_offset dir i) (entry_size dir i) (at i h)).sized ∙ ap (λ (a : Result Entry Refusal). length (part_of wad a)) (at i h) in
      let seven : m + NODES < count = omega arith in
      let six : m + SSECTORS < count = omega arith in
      record {
        nodes_offset = entry_offset dir (m + NODES);
        nodes_entry = at (m + NODES) seven ∙ ap (entry_of (entry_offset dir (m + NODES))) (sized (m + NODES) seven);
        nodes_part = ap (part_of wad) (at (m + NODES) seven);
        ssectors_offset = entry_offset dir (m + SSECTORS);
        ssectors_size = entry_size dir (m + SSECTORS);
        ssectors_entry = at (m + SSECTORS) six;
        subsectors = ap (λ (n : ℕ). n / subsector_size) (sized (m + SSECTORS) six);
      }

  pub demand3 : Demand3 wad name words
  demand3 =
      record {
        loop = λ (m : ℕ) (b : Below31 wad name words m).
            let holds = verdict-holds (nodes_at wad m) in (
              λ (e : verdict wad name words ≡ Err NodeLoop).
                  holds.loop.0 (graph_loop (graph_verdict (nodes_at wad m)) m (sym (graphs m b) ∙ e)),
              λ (l : Loop (nodes_at wad m)). graphs m b ∙ ap (λ (g : Graph). graph_answer g m) (holds.loop.1 l),
            );
        loop_only = loop-only;
        shared = λ (m : ℕ) (b : Below31 wad name words m) (none : Loop (nodes_at wad m) → ⊥).
            let holds = (verdict-holds (nodes_at wad m)).shared none in (
              λ (e : verdict wad name words ≡ Err NodeShared).
                  holds.0 (graph_shared (graph_verdict (nodes_at wad m)) m (sym (graphs m b) ∙ e)),
              λ (l : Shared (nodes_at wad m)). graphs m b ∙ ap (λ (g : Graph). graph_answer g m) (holds.1 l),
            );
        shared_only = shared-only;
        neither = λ (m : ℕ) (b : Below31 wad name words m) (none : Loop (nodes_at wad m) → ⊥) (alone : Shared (nodes_at wad m) → ⊥).
            let d = (verdict-holds (nodes_at wad m)).neither none alone in
            (d.0, graphs m b ∙ ap (λ (g : Graph). graph_answer g m) d.1);
        exact = λ (d m : ℕ) (e : verdict wad name words ≡ accepted d m). (verdict-holds (nodes_at wad m)).deep d (known d m e).deep;
        one_more = λ (d m : ℕ) (e : verdict wad name words ≡ accepted d m). one-more_of d m (known d m e);
        handed = λ (d m : ℕ) (e : verdict wad name words ≡ accepted d m). handed_over d m (known d m e);
        descends = λ (d m : ℕ) (e : verdict wad name words ≡ accepted d m) (x y : ℤ).
            let k = known d m e in
            descent-holds (nodes_at wad m) (subsectors_at wad m) (known_passed d m k) d k.deep x y;
      }

-- ---- W-205

pub game-told : GameTold
game-told wad name words d m e =
    let p = marker_known wad name (known wad name words d m e).below.marks in
    sym (game-by wad m p.0 (lt-ltb m (entry_count (head_of wad)) p.1) refl)
