-- One picture is bounded: an order that is listed holds each reached subsector once, and the segs of these are all different.
-- Assumes nothing.
use Prim.Native.Nat.{ℕ, zero, suc, ◌+◌, ◌-◌, ◌/◌, ◌≤◌, ◌<◌}
use mathlib.Core.Bool.{Bool, true, false, not}
use mathlib.Core.List.{List, [], ◌∷◌, ◌++◌}
use mathlib.Core.Path.{◌≡◌, refl, sym, ap, ◌∙◌, subst}
use native.Mathlib.Decide.{dec_lt}
use native.Mathlib.Omega.{arith}
use borrow.Author.Tests.{ltb-true, le-ltb, lt-ltb, not-true}
use lib.Dec.{ltb}
use lib.IntN.{ℤ}
use lib.ListN.{length, take, drop}
use lib.Seq.{take-append_seam}
use Rattle.refusal.specs.declared.Refusal.{Refusal}
use Rattle.refusal.specs.Checks.{Check}
use Rattle.std.specs.Prelude.{Ok, Err}
use Rattle.refusal.specs.Table.{number_of}
use Rattle.refusal.specs.Status.{accepted, refused}
use Rattle.refusal.proofs.Table.{number-some}
use Rattle.refusal.specs.declared.status.Status.{Status}
use Rattle.wad.specs.Entries.{directory_of}
use Rattle.record.specs.Segs.{seg_size}
use Rattle.record.specs.Subsectors.{subsector_size}
use Rattle.record_table.specs.Lumps.{SEGS, SSECTORS}
use Rattle.node.specs.declared.Choice.{Choice}
use Rattle.node.specs.Nodes.{nodes_of, subsector_bit, child_of, child_ok, root}
use Rattle.node.proofs.Nodes.{child_ok-node, root-last}
use Rattle.node_route.specs.Routes.{Follow, Reached}
use Rattle.node_route.specs.Heights.{member}
use Rattle.node_route.proofs.Reach.{at_most}
use Rattle.node_route.proofs.Verdict.{depth_verdict}
use Rattle.node_descent.proofs.Descends.{Passed}
use Rattle.map_lumps.specs.Lumps.{map_lumps, map_lump, record_count}
use Rattle.map_check.specs.Verdict.{nodes_at, subsectors_at}
use Rattle.map_check.proofs.Passing.{lumps_pass, subsectors-inside}
use Rattle.theorem_map.proofs.Demands.{known, known_passed}
use Rattle.hazard.specs.declared.Hazard.{Hazard}
use Rattle.hazard.specs.declared.Hazard.TheVariants.{SegTwice}
use Rattle.std.specs.Prelude.{Ok, Err}
use Rattle.std.specs.Result.{result_err}
use Rattle.hazard.specs.Findings.{Finding, found_unless, ◌or_else◌, each_of}
use Rattle.hazard.specs.Segs.{takes_again, seg_twice_at, seg_twice}
use Rattle.hazard.specs.Hazards.{hazard_at, hazard_by}
use Rattle.refusal.specs.Checks.{each}
use Rattle.refusal.proofs.Checks.{unless_pass, each_none, each_pass}
use Rattle.export_maps.specs.declared.hazards.HazardAnswer.{HazardAnswer}
use Rattle.export_maps.specs.Hazards.{hazard_out, finding_out, answer_out}
use Rattle.export_maps.specs.declared.OrderAnswer.{OrderAnswer}
use Rattle.export_maps.specs.Maps.{order_out, OrderDrawn}
use Rattle.draw_order.specs.Lists.{Listing, listed, stopped, listed_by, root_order, order_check, draw_order}
use Rattle.draw_order.specs.Promises.{order_answer, words_after_check}
use Rattle.draw_order.proofs.Lists.{order-known}
use Rattle.theorem_draw.specs.Pictures.{segs_drawn, PicturesBounded}
use Rattle.theorem_draw.proofs.Draws.{draws_accepted}
use Rattle.theorem_draw.proofs.Depths.{root-low}
use Rattle.theorem_draw.proofs.Segs.{drawn-once, drawn-low}

each-suc : (f : ℕ → Finding) (n : ℕ) → each f (suc n) ≡ each f n or_else f n
unfolding each
each-suc f n = refl

-- ---- no hazard 1

module _ (lump : List ℕ) where
  unless-twice : (b : Bool) (k : ℕ) {h : Hazard} → found_unless b (SegTwice k) ≡ Err h → (hazard_out h).hazard ≡ 1
  unless-twice true k e = let z : ◌≡◌ {A = ℕ} 0 1 = cc in absurd (omega arith)
  unless-twice false k e = sym (ap (λ (f : Finding). (finding_out (result_err f)).hazard) e)

  twice-by : (f : Finding) (k : ℕ) {h : Hazard} → ((h' : Hazard) → f ≡ Err h' → (hazard_out h').hazard ≡ 1) → f or_else seg_twice_at lump k ≡ Err h
      → (hazard_out h).hazard ≡ 1
  twice-by (Ok _) k rec e = unless-twice (not (takes_again lump k)) k e
  twice-by (Err h') k {h} rec e = rec h e

  -- what the look at segs finds has the number 1
  twice-number : (n : ℕ) {h : Hazard} → each_of (seg_twice_at lump) n ≡ Err h → (hazard_out h).hazard ≡ 1
  twice-number zero e = let none = each_none (seg_twice_at lump) in let z : ◌≡◌ {A = ℕ} 0 1 = cc in absurd (omega arith)
  twice-number (suc n) e = twice-by (each_of (seg_twice_at lump) n) n (λ h' q. twice-number n {h = h'} q) (sym (each-suc (seg_twice_at lump) n) ∙ e)

  nothing-by : (f rest : Finding) → seg_twice lump ≡ f → ((finding_out (result_err (f or_else rest))).hazard ≡ 1 → ⊥) → seg_twice lump ≡ Ok tt
  nothing-by (Ok _) rest e other = e
  nothing-by (Err h) rest e other = absurd (other (twice-number _ e))

  -- so that no subsector takes a seg again
  none-again : (rest : Finding) → ((finding_out (result_err (seg_twice lump or_else rest))).hazard ≡ 1 → ⊥) → (k : ℕ) → k < length lump / subsector_size → takes_again lump k ≡ false
  none-again rest other k h =
      not-true (takes_again lump k)
      (unless_pass (not (takes_again lump k)) (SegTwice k)
      (each_pass (seg_twice_at lump) _ (nothing-by (seg_twice lump) rest refl other) k h))

-- ---- an order that is listed

listed_same : {xs ys : List ℕ} → listed xs ≡ listed ys → xs ≡ ys
listed_same {xs} e = ap list_in e
  where
    list_in : Listing → List ℕ
    list_in (listed zs) = zs
    list_in (stopped r) = xs

module _ (nodes : List ℕ) (subsectors : ℕ) (x y : ℤ) (lent : List ℕ) where
  -- what is known of it: the check passes, and the words begin with the list
  record Listed (count : ℕ) (drawn : List ℕ) : Type 0 where
    list : List ℕ
    passes : order_check nodes subsectors (length lent) ≡ Ok tt
    is : root_order nodes subsectors x y ≡ listed list
    counts : count ≡ length list
    writes : drawn ≡ list ++ drop (length list) lent

  not-refused : (r : Refusal) {X : Type 0} → refused r ≡ accepted → X
  not-refused r e = let some = number-some r in let z : number_of r ≡ 0 = ap (λ (s : Status). s.number) e in absurd (omega arith)

  listed_by_lem : (c : Check) (l : Listing) → order_check nodes subsectors (length lent) ≡ c → root_order nodes subsectors x y ≡ l
      → (order : OrderAnswer) (drawn : List ℕ) → order ≡ order_out (order_answer (listed_by c l)) → drawn ≡ words_after_check c nodes l lent
      → order.status ≡ accepted → Listed order.count drawn
  listed_by_lem (Ok _) (listed xs) e q order drawn a w s =
      record { list = xs; passes = e; is = q; counts = ap (λ (o : OrderAnswer). o.count) a; writes = w }
  listed_by_lem (Ok _) (stopped r) e q order drawn a w s = not-refused r (sym (ap (λ (o : OrderAnswer). o.status) a) ∙ s)
  listed_by_lem (Err r) l e q order drawn a w s = not-refused r (sym (ap (λ (o : OrderAnswer). o.status) a) ∙ s)

  draw_is : draw_order nodes subsectors x y (length lent) ≡ listed_by (order_check nodes subsectors (length lent)) (root_order nodes subsectors x y)
  unfolding draw_order
  draw_is = refl

  listed-order : (order : OrderAnswer) (drawn : List ℕ) → OrderDrawn nodes subsectors x y lent order drawn → order.status ≡ accepted
      → Listed order.count drawn
  listed-order order drawn o s =
      listed_by_lem (order_check nodes subsectors (length lent)) (root_order nodes subsectors x y) refl refl order drawn
      (o.answers ∙ ap (λ (l : Listing). order_out (order_answer l)) draw_is) o.leaves s

-- ---- subsectors that are reached

module _ (nodes : List ℕ) (subsectors : ℕ) (p : Passed nodes subsectors) where
  -- a word in range
  abbrev Inside : ℕ → Type 0
  Inside w = child_ok (nodes_of nodes) subsectors w ≡ true

  -- a node in range is one of the lump's
  inside-node : (w : ℕ) → Inside w → w < subsector_bit → w < nodes_of nodes
  inside-node w e h = child_ok-node (nodes_of nodes) subsectors w e h

  inside_follow : (cs : List Choice) (w v : ℕ) → Inside w → Follow nodes w cs v → Inside v
  inside_follow [] w v h f = subst Inside f h
  inside_follow (c ∷ cs) w v h f =
      inside_follow cs (child_of nodes w c) v (p.in_range w (inside-node w h f.0) c) f.1

  inside-root : Inside (root (nodes_of nodes))
  inside-root = by (dec_lt 0 (nodes_of nodes))
    where
      by : Dec (0 < nodes_of nodes) → Inside (root (nodes_of nodes))
      by (yes h) =
          let last = root-last (nodes_of nodes) h in
          let few = p.few in
          let node : ltb (nodes_of nodes - 1) subsector_bit ≡ true = lt-ltb (nodes_of nodes - 1) subsector_bit (omega arith) in
          let low : ltb (nodes_of nodes - 1) (nodes_of nodes) ≡ true = lt-ltb (nodes_of nodes - 1) (nodes_of nodes) (omega arith) in
          rw (last, node, low)
      by (no h) =
          let none : nodes_of nodes ≡ 0 = omega arith in
          rw (none, p.alone none)

  reached-low : (s : ℕ) → Reached nodes (subsector_bit + s) → s < subsectors
  reached-low s r =
      let ok = inside_follow r.choices (root (nodes_of nodes)) (subsector_bit + s) inside-root r.leads in
      let end : ltb (subsector_bit + s) subsector_bit ≡ false = le-ltb (subsector_bit + s) subsector_bit (omega arith) in
      let place : subsector_bit + s - subsector_bit ≡ s = omega arith in
      ltb-true s subsectors (rw (end, place) at ok)

-- ---- the theorem

pub pictures_bounded : PicturesBounded
pictures_bounded wad name words answer after judged other depth marker e x y lent order drawn o status =
    let nodes = nodes_at wad marker in
    let lumps = map_lumps wad (directory_of wad) marker in
    let lump = map_lump lumps SSECTORS in
    let subsectors = subsectors_at wad marker in
    let k = known wad name words depth marker e in
    let l = listed-order nodes subsectors x y lent order drawn o status in
    let enough = (order-known nodes subsectors (length lent) l.passes).2 in
    let deep = (depth_verdict nodes k.deep).2 in
    let shallow : depth ≤ 256 = rw (sym deep) (root-low nodes subsectors x y (record { list = l.list; is = l.is })) in
    let draws = draws_accepted wad name words depth marker e shallow x y (length lent) enough in
    let same : draws.list ≡ l.list = listed_same (sym draws.drawn ∙ draw_is nodes subsectors x y lent ∙ (λ i. listed_by (l.passes i) (l.is i))) in
    let found : answer.hazard ≡ (finding_out (result_err (hazard_at wad marker))).hazard =
    ap (λ (a : HazardAnswer). a.hazard) (judged.answers ∙ ap (λ v. answer_out (hazard_by wad v)) e) in
    let none = none-again lump _ (λ q. other (found ∙ q)) in
    let taken : take order.count drawn ≡ draws.list =
    (λ i. take (l.counts i) (l.writes i)) ∙ take-append_seam l.list (drop (length l.list) lent) ∙ sym same in
    let low : (s : ℕ) → member s draws.list ≡ true → s < subsectors =
    λ s m. reached-low nodes subsectors (known_passed wad name words depth marker k) s (draws.each.only s m) in
    let once = drawn-once lump subsectors none draws.list draws.each.once low in
    rw taken
    record {
      once = once;
      most =
          at_most (record_count lumps SEGS seg_size) (segs_drawn lump draws.list) once
          (drawn-low lump subsectors none (record_count lumps SEGS seg_size) draws.list
          (λ s m. subsectors-inside _ lumps (length words) (lumps_pass wad marker (length words) k.below.passes) s (low s m)));
    }
