-- The theorem on reasons. Each part of the map check's row tells which record it refuses; the reasons of records, of BLOCKMAP and of the node
-- graph are carried to the answer and to the output. Assumes nothing.
use Prim.Native.Nat.{ℕ, ◌+◌, ◌/◌, ◌≤◌, ◌<◌}
use mathlib.Core.Bool.{Bool, true, false, ◌&&◌, cond, true≢false}
use mathlib.Core.List.{List, [], ◌∷◌, ◌++◌}
use mathlib.Core.Logic.{inl, inr, ⊎_elim}
use mathlib.Core.Path.{◌≡◌, refl, sym, ap, subst, subst⁻¹, ◌∙◌}
use native.Mathlib.Omega.{arith}
use borrow.Author.Tests.{leb-true}
use lib.Dec.{leb}
use lib.ListN.{length, drop}
use Rattle.refusal.specs.declared.Refusal.{Refusal}
use Rattle.refusal.specs.declared.Refusal.TheVariants.{ReasonRoom, NodeLoop}
use Rattle.refusal.specs.Checks.{Check}
use Rattle.std.specs.Prelude.{Result, Ok, Err}
use Rattle.refusal.specs.Table.{number_of, record_of}
use Rattle.wad.specs.Header.{head_of, entry_count}
use Rattle.wad.specs.Entries.{directory_of}
use Rattle.wad.specs.Map.{marker_answer}
use Rattle.wad.proofs.Listing.{file-header, file_sound}
use Rattle.wad.proofs.Numbers.{marker_at_most}
use Rattle.reason_range.specs.declared.Field.{Field}
use Rattle.reason_range.specs.Fields.{first_out, put_field}
use Rattle.record_field.specs.Records.{record_bytes}
use Rattle.record_field.proofs.Records.{fits-inside, length-record_bytes}
use Rattle.record_linedef.specs.Linedefs.{linedef_size}
use Rattle.record.specs.Sidedefs.{sidedef_size}
use Rattle.record.specs.Vertexes.{vertex_size}
use Rattle.record.specs.Sectors.{sector_size}
use Rattle.record.specs.Segs.{seg_size}
use Rattle.record.specs.Subsectors.{subsector_size}
use Rattle.record.specs.Nodes.{node_size}
use Rattle.node_route.specs.declared.GraphError.{GraphError}
use Rattle.node_route.specs.declared.GraphError.TheVariants.{HasLoop, HasShared}
use Rattle.node_route.specs.Heights.{graph_verdict}
use Rattle.node.proofs.Nodes.{nodes_in_range}
use Rattle.reason_record.specs.Reasons.{InOrder, RecordReasoned}
use Rattle.reason_record.proofs.Reasons.{records_reasoned}
use Rattle.reason_blockmap.specs.Reasons.{WordTold}
use Rattle.reason_blockmap.proofs.Reasons.{blockmap_reasoned}
use Rattle.record_table.specs.Lumps.{LINEDEFS, SIDEDEFS, VERTEXES, SEGS, SSECTORS, NODES, SECTORS, BLOCKMAP}
use Rattle.map_lumps.specs.Lumps.{map_lumps, map_lump, record_count}
use Rattle.map_lumps.specs.Games.{game_at}
use Rattle.map_check.specs.Verdict.{Verdict, accepted, graph_answer, judged, check_at, nodes_at, subsectors_at, verdict_by, verdict}
use Rattle.map_check.specs.Lumps.{lumps_check}
use Rattle.map_check.proofs.Answers.{marker_known}
use Rattle.theorem_map.proofs.Refusing.{past_run, past-counts, refused-by}
use Rattle.theorem_map.proofs.Demands.{graph_loop, graph_by_lem, below_passed, known}
use Rattle.node_path.specs.Ways.{loop_way, route_of, way_of, bytes_of, printed}
use Rattle.node_path.proofs.Loops.{loop-holds}
use Rattle.node_path.proofs.Routes.{route-holds}
use Rattle.reason.specs.declared.Reason.{Reason}
use Rattle.reason_field.specs.Named.{field_ok, named_field}
use Rattle.reason.specs.Printing.{length_by, out_by, printed_length, printed_out, ReasonTold}
use Rattle.theorem_reason.specs.Promises.{field_in, FieldTold, FieldToldAt, ChoicesIn, ReasonHolds, ReasonsHold}
use Rattle.theorem_reason.proofs.Outputs.{field_in_put, printed-choices, out_by-short, out_by-rest}
use Rattle.reason_field.proofs.Counting.{linedefs_counted, sidedefs_counted, vertices_counted, sectors_counted, blockmap-within}
use Rattle.reason.proofs.Printing.{field_numbers}

-- ---- 23 to 28

-- fields in byte order end inside the record
in_order-end : (from end : ℕ) (fs : List Field) → InOrder from end fs → from ≤ end
in_order-end from end [] h = h
in_order-end from end (f ∷ fs) h = let l = in_order-end (f.offset + 2) end fs h.1 in omega (arith, h.0)

in_order_at : (from end : ℕ) (before after : List Field) (f : Field) → InOrder from end (before ++ (f ∷ after)) → f.offset + 2 ≤ end
in_order_at from end [] after f h = in_order-end (f.offset + 2) end after h.1
in_order_at from end (g ∷ before) after f h = in_order_at (g.offset + 2) end before after f h.1

-- so the field that a record is refused for lies inside it
word-told : (lump : List ℕ) (size i : ℕ) {ok : Bool} {fields : List Field} → RecordReasoned (record_bytes lump size i) size ok fields
    → i < length lump / size → ok ≡ false → WordTold (record_bytes lump size i) (first_out fields)
word-told lump size i {ok} {fields} t h bad =
    let o = t.first bad in
    let within = in_order_at 0 size o.before o.after (first_out fields) (subst (InOrder 0 size) o.stands t.order) in
    let long = length-record_bytes lump size i (fits-inside size i (length lump) h) in
    record { inside = subst⁻¹ (λ (n : ℕ). (first_out fields).offset + 2 ≤ n) long within; word = t.holds bad }

field_told : (hexen : Bool) (lumps : List (List ℕ)) (lent : ℕ) {r : Refusal} → lumps_check hexen lumps lent ≡ Err r → 22 < number_of r
    → length (map_lump lumps BLOCKMAP) ≤ 16777216 → field_ok (number_of r) ≡ true
    → FieldTold hexen lumps (number_of r) (record_of r) (named_field hexen lumps (number_of r) (record_of r))
field_told hexen lumps lent e late small =
    let counts = past-counts hexen lumps lent e late in
    let vertices = vertices_counted hexen lumps counts in
    let sidedefs = sidedefs_counted hexen lumps counts in
    let linedefs = linedefs_counted hexen lumps counts in
    let sectors = sectors_counted hexen lumps counts in
    refused-by hexen lumps lent e late (λ n i. field_ok n ≡ true → FieldTold hexen lumps n i (named_field hexen lumps n i))
    (λ i h bad _.
    let t = records_reasoned.linedef hexen (record_bytes (map_lump lumps LINEDEFS) (linedef_size hexen) i) (record_count lumps VERTEXES vertex_size) (record_count lumps SIDEDEFS sidedef_size) vertices.0 sidedefs.0 sidedefs.1 in
    record { first = t.first bad; holds = inl (word-told (map_lump lumps LINEDEFS) (linedef_size hexen) i t h bad); order = λ no. t.order })
    (λ i h bad _.
    let t = records_reasoned.sidedef (record_bytes (map_lump lumps SIDEDEFS) sidedef_size i) (record_count lumps SECTORS sector_size) sectors.0 in
    record { first = t.first bad; holds = inl (word-told (map_lump lumps SIDEDEFS) sidedef_size i t h bad); order = λ no. t.order })
    (λ i h bad _.
    let t = records_reasoned.seg hexen (map_lump lumps LINEDEFS) (record_bytes (map_lump lumps SEGS) seg_size i) (record_count lumps VERTEXES vertex_size) vertices.0 linedefs.0 in
    record { first = t.first bad; holds = inl (word-told (map_lump lumps SEGS) seg_size i t h bad); order = λ no. t.order })
    (λ i h bad _.
    let t = records_reasoned.subsector (record_bytes (map_lump lumps SSECTORS) subsector_size i) (record_count lumps SEGS seg_size) in
    record { first = t.first bad; holds = inl (word-told (map_lump lumps SSECTORS) subsector_size i t h bad); order = λ no. t.order })
    (λ i h bad _.
    let t = records_reasoned.node (map_lump lumps NODES) (record_count lumps SSECTORS subsector_size) i h in
    record { first = t.first bad; holds = inl (word-told (map_lump lumps NODES) node_size i t h bad); order = λ no. t.order })
    (λ i q _.
    let t = blockmap_reasoned.refused (map_lump lumps BLOCKMAP) (record_count lumps LINEDEFS (linedef_size hexen)) i small linedefs.0 q in
    record { first = t.first; holds = ⊎_elim (λ s. inr (refl, s)) (λ w. inl w) t.holds; order = λ no. absurd (no refl) })
    (λ (q : field_ok 30 ≡ true). absurd (true≢false (sym q)))

-- the refusal and the number of a refused map
abbrev refusal_in : Refusal → Verdict → Refusal
refusal_in s (Ok map) = s
refusal_in s (Err r) = r

abbrev number_in : Verdict → ℕ
number_in (Ok map) = 0
number_in (Err r) = number_of r

graph_late : (g : Result ℕ GraphError) (m : ℕ) (r : Refusal) → graph_answer g m ≡ Err r → number_of r ≤ 28 → ⊥
graph_late (Err HasLoop) m r e h = let q : ◌≡◌ {A = ℕ} 31 (number_of r) = ap number_in e in omega arith
graph_late (Err HasShared) m r e h = let q : ◌≡◌ {A = ℕ} 32 (number_of r) = ap number_in e in omega arith
graph_late (Ok d) m r e h = let z : ◌≡◌ {A = ℕ} 0 1 = cc in omega arith

judged_early : (c : Check) (g : Result ℕ GraphError) (m : ℕ) (r : Refusal) → judged c g m ≡ Err r → number_of r ≤ 28 → c ≡ Err r
judged_early (Ok _) g m r e h = absurd (graph_late g m r e h)
judged_early (Err s) g m r e h = ap Err (ap (refusal_in s) e)

accepted-none : {r : Refusal} {depth marker : ℕ} → ◌≡◌ {A = Verdict} (Err r) (accepted depth marker) → ⊥
accepted-none e = let z : ◌≡◌ {A = ℕ} 0 1 = cc in absurd (omega arith)

-- the field that a refusal of the map at entry `m` names
abbrev field_at : List ℕ → ℕ → Refusal → Field
field_at wad m r =
    named_field (game_at (directory_of wad) (entry_count (head_of wad)) m) (map_lumps wad (directory_of wad) m) (number_of r) (record_of r)

-- a map that is refused without a field and for no loop prints nothing
silent_graph : (nodes : List ℕ) (g : Result ℕ GraphError) (m : ℕ) (r : Refusal) → graph_answer g m ≡ Err r → (r ≡ NodeLoop → ⊥)
    → length (way_of nodes g) ≡ 0
silent_graph nodes (Err HasLoop) m r e other = absurd (other (sym (ap (refusal_in NodeLoop) e)))
silent_graph nodes (Err HasShared) m r e other = refl
silent_graph nodes (Ok d) m r e other = let z : ◌≡◌ {A = ℕ} 0 1 = cc in absurd (omega arith)

silent_by : (c : Check) (nodes : List ℕ) (m : ℕ) (r : Refusal) → judged c (graph_verdict nodes) m ≡ Err r
    → field_ok (number_of r) ≡ false → (r ≡ NodeLoop → ⊥) → length_by c nodes ≡ 0
silent_by (Ok _) nodes m r e bare other = silent_graph nodes (graph_verdict nodes) m r e other
silent_by (Err s) nodes m r e bare other = ap (λ (n : ℕ). cond (field_ok n) 16 0) (ap number_in e) ∙ ap (λ (b : Bool). cond b 16 0) bare

module _ (wad name words : List ℕ) where
  -- which map a field is told of, that its checks refuse it so, and the field
  field-by : (a : Result ℕ Refusal) (r : Refusal) → marker_answer wad name ≡ a → verdict_by wad words a ≡ Err r → field_ok (number_of r) ≡ true
      → (m : ℕ) × ((marker_answer wad name ≡ Ok m) × ((check_at wad m (length words) ≡ Err r) × FieldToldAt wad m r (field_at wad m r)))
  field-by (Err s) r e q ok =
      let early = marker_at_most wad name s e in
      let same : number_of s ≡ number_of r = ap number_in q in
      absurd (omega (arith, (field_numbers (number_of r) ok).0))
  field-by (Ok m) r e q ok =
      let dir = directory_of wad in
      let count = entry_count (head_of wad) in
      let lumps = map_lumps wad dir m in
      let numbers = field_numbers (number_of r) ok in
      let refused = judged_early (check_at wad m (length words)) (graph_verdict (nodes_at wad m)) m r q numbers.1 in
      let past = past_run dir count m lumps (length words) refused (omega (arith, numbers.0)) in
      let file = file_sound wad (file-header wad (marker_known wad name e).0) in
      let within = blockmap-within wad dir m in
      let told = field_told (game_at dir count m) lumps (length words) past.1 (omega (arith, numbers.0)) (omega (arith, file.high)) ok in
      (m, (e, (refused, told)))

  silent : (a : Result ℕ Refusal) (r : Refusal) → verdict_by wad words a ≡ Err r → field_ok (number_of r) ≡ false → (r ≡ NodeLoop → ⊥)
      → printed_length wad words a ≡ 0
  silent (Err s) r e bare other = refl
  silent (Ok m) r e bare other = silent_by (check_at wad m (length words)) (nodes_at wad m) m r e bare other

  module _ (out : List ℕ) where
    out-short : (a : Result ℕ Refusal) → leb (printed_length wad words a) (length out) ≡ false → printed_out wad words out a ≡ out
    out-short (Err r) e = refl
    out-short (Ok m) e =
        out_by-short (game_at (directory_of wad) (entry_count (head_of wad)) m) (map_lumps wad (directory_of wad) m) (nodes_at wad m) out
        (check_at wad m (length words)) e

    out-rest : (a : Result ℕ Refusal) → leb (printed_length wad words a) (length out) ≡ true
        → drop (printed_length wad words a) (printed_out wad words out a) ≡ drop (printed_length wad words a) out
    out-rest (Err r) e = refl
    out-rest (Ok m) e =
        out_by-rest (game_at (directory_of wad) (entry_count (head_of wad)) m) (map_lumps wad (directory_of wad) m) (nodes_at wad m) out
        (check_at wad m (length words)) e

    -- what is printed from a marker on, by what the checks below 31 say of it
    abbrev printed_by : ℕ → Check → List ℕ
    printed_by m c = out_by c (game_at (directory_of wad) (entry_count (head_of wad)) m) (map_lumps wad (directory_of wad) m) (nodes_at wad m) out

    module _ (answer : Reason) (wordsThen after : List ℕ) (t : ReasonTold wad name words out answer wordsThen after) where
      abbrev long : ℕ
      long = printed_length wad words (marker_answer wad name)

      -- ---- the output is too short

      module _ (e : leb long (length out) ≡ false) where
        short : answer ≡ record { verdict = Err ReasonRoom; length = 0 }
        short = t.answers ∙ ap (λ (b : Bool). cond b (record { verdict = verdict wad name words; length = long }) (record { verdict = Err ReasonRoom; length = 0 })) e

        -- so the answer is 85 and no other
        is_85 : {r : Refusal} → answer.verdict ≡ Err r → 85 ≡ number_of r
        is_85 q = ap number_in (sym (ap (λ (x : Reason). x.verdict) short) ∙ q)

        holds-short : ReasonHolds wad name words out answer after
        holds-short =
            record {
              own = λ other. absurd (other (ap (λ (x : Reason). x.verdict) short));
              field = λ r q ok. absurd (omega (arith, is_85 q, (field_numbers (number_of r) ok).1));
              loop = λ q. absurd (omega (arith, is_85 q));
              route = λ depth marker q. absurd (accepted-none (sym (ap (λ (x : Reason). x.verdict) short) ∙ q));
              nothing = λ r q bare other. ap (λ (x : Reason). x.length) short;
              rest = ap (drop answer.length) (t.prints ∙ out-short (marker_answer wad name) e);
            }

      -- ---- it has room

      module _ (e : leb long (length out) ≡ true) where
        fits : answer ≡ record { verdict = verdict wad name words; length = long }
        fits = t.answers ∙ ap (λ (b : Bool). cond b (record { verdict = verdict wad name words; length = long }) (record { verdict = Err ReasonRoom; length = 0 })) e

        is-own : answer.verdict ≡ verdict wad name words
        is-own = ap (λ (x : Reason). x.verdict) fits

        is-long : answer.length ≡ long
        is-long = ap (λ (x : Reason). x.length) fits

        -- the length and the output of a map whose checks below 31 are known
        long_at : (m : ℕ) (c : Check) → marker_answer wad name ≡ Ok m → check_at wad m (length words) ≡ c → long ≡ length_by c (nodes_at wad m)
        long_at m c marks is = ap (printed_length wad words) marks ∙ ap (λ (d : Check). length_by d (nodes_at wad m)) is

        after_at : (m : ℕ) (c : Check) → marker_answer wad name ≡ Ok m → check_at wad m (length words) ≡ c → after ≡ printed_by m c
        after_at m c marks is = t.prints ∙ ap (printed_out wad words out) marks ∙ ap (printed_by m) is

        field-holds : (r : Refusal) → answer.verdict ≡ Err r → field_ok (number_of r) ≡ true
            → (m : ℕ) × ((marker_answer wad name ≡ Ok m) × ((answer.length ≡ 16) × FieldToldAt wad m r (field_in after)))
        field-holds r q ok =
            let (m, (marks, (refused, told))) = field-by (marker_answer wad name) r refl (sym is-own ∙ q) ok in
            let sixteen : long ≡ 16 = long_at m (Err r) marks refused ∙ ap (λ (b : Bool). cond b 16 0) ok in
            let room : leb 16 (length out) ≡ true = ap (λ (n : ℕ). leb n (length out)) (sym sixteen) ∙ e in
            let put : printed_by m (Err r) ≡ put_field out (field_at wad m r) = λ i. cond (ok i && room i) (put_field out (field_at wad m r)) out in
            let said = ap field_in (after_at m (Err r) marks refused ∙ put) ∙ field_in_put out (field_at wad m r) (leb-true 16 (length out) room) in
            (m, (marks, (is-long ∙ sixteen, subst⁻¹ (FieldToldAt wad m r) said told)))

        -- the choices that are printed with the graph's verdict
        choices_at : (m : ℕ) (g : Result ℕ GraphError) → marker_answer wad name ≡ Ok m → check_at wad m (length words) ≡ Ok tt → graph_verdict (nodes_at wad m) ≡ g
            → ChoicesIn after answer.length (way_of (nodes_at wad m) g)
        choices_at m g marks passes is =
            let cs = way_of (nodes_at wad m) in
            let many : long ≡ length (cs g) = long_at m (Ok tt) marks passes ∙ ap (λ (h : Result ℕ GraphError). length (cs h)) is in
            let room : leb (length (cs g)) (length out) ≡ true = ap (λ (n : ℕ). leb n (length out)) (sym many) ∙ e in
            let left : after ≡ printed out (bytes_of (cs g)) = after_at m (Ok tt) marks passes ∙ ap (λ (h : Result ℕ GraphError). printed out (bytes_of (cs h))) is in
            subst⁻¹ (λ (l : List ℕ). ChoicesIn l answer.length (cs g)) left
            (subst⁻¹ (λ (n : ℕ). ChoicesIn (printed out (bytes_of (cs g))) n (cs g)) (is-long ∙ many) (printed-choices out (cs g) room))

        holds-room : ReasonHolds wad name words out answer after
        holds-room =
            record {
              own = λ other. is-own;
              field = field-holds;
              loop = λ q.
                  let (m, (b, a)) = graph_by_lem wad name words (marker_answer wad name) NodeLoop (omega arith) refl (sym is-own ∙ q) in
                  let nodes = nodes_at wad m in
                  let is = graph_loop (graph_verdict nodes) m a in
                  let told = loop-holds nodes (nodes_in_range nodes (subsectors_at wad m) (below_passed wad name words m b).in_range) is in
                  (m, (b.marks, (loop_way nodes, (choices_at m (Err HasLoop) b.marks b.passes is, told))));
              route = λ depth m q.
                  let k = known wad name words depth m (sym is-own ∙ q) in
                  let nodes = nodes_at wad m in
                  (route_of nodes, (choices_at m (Ok depth) k.below.marks k.below.passes k.deep, route-holds nodes depth k.deep));
              nothing = λ r q bare other. is-long ∙ silent (marker_answer wad name) r (sym is-own ∙ q) bare other;
              rest = (λ i. drop (is-long i) (t.prints i)) ∙ out-rest (marker_answer wad name) e ∙ ap (λ (n : ℕ). drop n out) (sym is-long);
            }

      by-room : (b : Bool) → leb long (length out) ≡ b → ReasonHolds wad name words out answer after
      by-room true e = holds-room e
      by-room false e = holds-short e

pub reasons_hold : ReasonsHold
reasons_hold wad name words out answer wordsThen after t =
    by-room wad name words out answer wordsThen after t (leb (printed_length wad words (marker_answer wad name)) (length out)) refl
