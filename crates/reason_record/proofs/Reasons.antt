-- The checks of 23 to 27 are that all fields are in range: kind by kind, from what a test of one number is. Assumes nothing.
use Prim.Native.Nat.{ℕ, zero, suc, ◌+◌, ◌-◌, ◌/◌, ◌<◌, ◌≤◌}
use mathlib.Core.Bool.{Bool, true, false, not, ◌&&◌, ◌||◌, cond, and-true}
use mathlib.Core.List.{List, [], ◌∷◌}
use mathlib.Core.Path.{◌≡◌, refl, sym, ap, subst, ◌∙◌}
use native.Mathlib.Omega.{arith}
use borrow.Author.Tests.{ltb-true, ltb-false, leb-true, leb-false, eqb-true, ne_eqb, le-ltb, le-leb, lt-leb}
use lib.Dec.{leb, ltb, eqb}
use lib.ListN.{length}
use Rattle.endian.specs.Unsigned.{u16_at}
use Rattle.reason_range.specs.declared.Field.{Field}
use Rattle.reason_range.specs.Fields.{field_at, in_range, all_in, first_out}
use Rattle.reason_range.proofs.Fields.{Each, all_in-none, all_in-more, first_out_lem, first_holds}
use Rattle.record_field.specs.Records.{record_bytes}
use Rattle.record_linedef.specs.Linedefs.{linedef_size, right_offset, left_offset, linedef_of, no_sidedef}
use Rattle.record_linedef.proofs.Fields.{linedef-left}
use Rattle.record.specs.Sidedefs.{sidedef_size, sidedef_of}
use Rattle.record.specs.Segs.{seg_size, seg_of}
use Rattle.record.specs.Subsectors.{subsector_size, subsector_of}
use Rattle.record.specs.Nodes.{node_size}
use Rattle.node.specs.Nodes.{nodes_of, is_node, subsector_bit, child_ok, node_ok}
use Rattle.map_reference.specs.References.{two_sided, linedef_ok, left_ok, seg_ok, subsector_ok}
use Rattle.reason_record.specs.RecordFields.{number_at, left_fields, linedef_fields, sidedef_fields, seg_fields, subsector_fields, child_at, node_fields}
use Rattle.reason_record.specs.Reasons.{InOrder, RecordReasoned, RecordsReasoned}

-- ---- rows of tests

row_of_four : (a b c d : Bool) → (a && b && c && d) ≡ (a && (b && (c && d)))
row_of_four false b c d = refl
row_of_four true false c d = refl
row_of_four true true c d = refl

last_two : (a b c : Bool) → (a && b && c) ≡ (a && (b && c))
last_two true b c = refl
last_two false b c = refl

four_same : {a b c d a' b' c' d' : Bool} → a ≡ a' → b ≡ b' → c ≡ c' → d ≡ d' → (a && b && c && d) ≡ (a' && b' && c' && d')
four_same p q r s i = p i && q i && r i && s i

all_in-one : (f : Field) → all_in (f ∷ []) ≡ in_range f
all_in-one f = all_in-more f [] ∙ ap (λ (b : Bool). in_range f && b) all_in-none ∙ and-true (in_range f)

all_in_two : (f g : Field) → all_in (f ∷ g ∷ []) ≡ (in_range f && in_range g)
all_in_two f g = all_in-more f (g ∷ []) ∙ ap (λ (b : Bool). in_range f && b) (all_in-one g)

all_in-after_three : (f g h : Field) (fs : List Field) → all_in (f ∷ g ∷ h ∷ fs) ≡ (in_range f && in_range g && in_range h && all_in fs)
all_in-after_three f g h fs =
    rw (all_in-more f (g ∷ h ∷ fs), all_in-more g (h ∷ fs), all_in-more h fs)
    (sym (row_of_four (in_range f) (in_range g) (in_range h) (all_in fs)))

-- ---- tests of one number

-- 0 to `count - 1` is what is below `count`: but for 0, where it would hold 0
below : (n count : ℕ) → 0 < count → ltb n count ≡ (leb 0 n && leb n (count - 1))
below n count h = by_test (ltb n count) refl
  where
    by_test : (b : Bool) → ltb n count ≡ b → b ≡ (leb 0 n && leb n (count - 1))
    by_test true e = let l = ltb-true n count e in rw (le-leb 0 n (omega arith), le-leb n (count - 1) (omega arith))
    by_test false e = let l = ltb-false n count e in rw (le-leb 0 n (omega arith), lt-leb n (count - 1) (omega arith))

-- 0 to 1, or 0 alone
direction_same : (n : ℕ) (left : Bool) → (eqb n 0 || (eqb n 1 && left)) ≡ (leb 0 n && leb n (cond left 1 0))
direction_same zero true = refl
direction_same zero false = refl
direction_same (suc zero) true = refl
direction_same (suc zero) false = refl
direction_same (suc (suc n)) left =
    let d = suc (suc n) in
    rw (ne_eqb d 0 (λ q. omega arith), ne_eqb d 1 (λ q. omega arith), le-leb 0 d (omega arith), lt-leb d (cond left 1 0) (above left))
  where
    above : (left : Bool) → cond left 1 0 < suc (suc n)
    above true = omega arith
    above false = omega arith

-- so many segs from a first one on: the number alone must not exceed the segs, and the first leaves so many
segs_same : (number first segs : ℕ)
    → (leb 1 number && leb (first + number) segs) ≡ (leb 1 number && leb number segs && (leb 0 first && leb first (segs - number)))
segs_same number first segs = by_test (leb 1 number) (leb (first + number) segs) refl
  where
    by_test : (a b : Bool) → leb (first + number) segs ≡ b → (a && b) ≡ (a && leb number segs && (leb 0 first && leb first (segs - number)))
    by_test false b e = refl
    by_test true true e =
        let l = leb-true (first + number) segs e in
        rw (le-leb number segs (omega arith), le-leb 0 first (omega arith), le-leb first (segs - number) (omega arith))
    by_test true false e = by_number_lem (leb number segs) refl
      where
        by_number_lem : (a : Bool) → leb number segs ≡ a → false ≡ (a && (leb 0 first && leb first (segs - number)))
        by_number_lem false q = refl
        by_number_lem true q =
            let l = leb-false (first + number) segs e in
            let m = leb-true number segs q in
            rw (le-leb 0 first (omega arith), lt-leb first (segs - number) (omega arith))

-- a left side that may be none, or must be there
left-same : (left sidedefs : ℕ) (two : Bool) (f : Field) → 0 < sidedefs → sidedefs ≤ 65535 → in_range f ≡ (leb 0 left && leb left (sidedefs - 1))
    → ((eqb left 65535 || ltb left sidedefs) && not (two && eqb left 65535)) ≡ all_in (cond (eqb left 65535 && not two) [] (f ∷ []))
left-same left sidedefs two f h m is = by_tests (eqb left 65535) refl two
  where
    one : all_in (f ∷ []) ≡ ltb left sidedefs
    one = all_in-one f ∙ is ∙ sym (below left sidedefs h)

    by_tests : (n : Bool) → eqb left 65535 ≡ n → (two : Bool)
        → ((n || ltb left sidedefs) && not (two && n)) ≡ all_in (cond (n && not two) [] (f ∷ []))
    by_tests true e true =
        let q = eqb-true left 65535 e in
        sym (one ∙ le-ltb left sidedefs (omega arith))
    by_tests true e false = sym all_in-none
    by_tests false e true = and-true (ltb left sidedefs) ∙ sym one
    by_tests false e false = and-true (ltb left sidedefs) ∙ sym one

-- a child as stored, in the range of its kind
child_same : (bytes : List ℕ) (at nodes subsectors : ℕ) → 0 < nodes
    → child_ok nodes subsectors (u16_at bytes at) ≡ in_range (child_at bytes at nodes subsectors)
child_same bytes at nodes subsectors h = by_kind (u16_at bytes at) (is_node (u16_at bytes at)) refl
  where
    by_range : (w : ℕ) → subsector_bit ≤ w → (b : Bool) → ltb (w - subsector_bit) subsectors ≡ b
        → b ≡ (leb subsector_bit w && leb w (subsector_bit + subsectors - 1))
    by_range w l true e =
        let m = ltb-true (w - subsector_bit) subsectors e in
        rw (le-leb subsector_bit w l, le-leb w (subsector_bit + subsectors - 1) (omega arith))
    by_range w l false e =
        let m = ltb-false (w - subsector_bit) subsectors e in
        rw (le-leb subsector_bit w l, lt-leb w (subsector_bit + subsectors - 1) (omega arith))

    by_kind : (w : ℕ) (b : Bool) → is_node w ≡ b
        → cond b (ltb w nodes) (ltb (w - subsector_bit) subsectors)
        ≡ (leb (cond b 0 subsector_bit) w && leb w (cond b (nodes - 1) (subsector_bit + subsectors - 1)))
    by_kind w true e = below w nodes h
    by_kind w false e = by_range w (ltb-false w subsector_bit e) (ltb (w - subsector_bit) subsectors) refl

-- ---- each kind

module _ (bytes : List ℕ) where
  -- what a field of the record's bytes holds
  abbrev Held : Field → Type 0
  Held f = f.number ≡ u16_at bytes f.offset

  reasoned : (size : ℕ) (ok : Bool) (fields : List Field) → ok ≡ all_in fields → InOrder 0 size fields → Each Held fields
      → RecordReasoned bytes size ok fields
  reasoned size ok fields e o h =
      record {
        same = e;
        order = o;
        first = λ r. first_out_lem fields (sym e ∙ r);
        holds = λ r. first_holds Held fields (first_out fields) h (first_out_lem fields (sym e ∙ r));
      }

sidedef_reasoned : (bytes : List ℕ) (sectors : ℕ) → 0 < sectors
    → RecordReasoned bytes sidedef_size (ltb (sidedef_of bytes).sector sectors) (sidedef_fields bytes sectors)
sidedef_reasoned bytes sectors h =
    reasoned bytes sidedef_size (ltb (sidedef_of bytes).sector sectors) (sidedef_fields bytes sectors)
    (below (u16_at bytes 28) sectors h ∙ sym (all_in-one (number_at bytes 28 sectors)))
    (omega arith, omega arith)
    (refl, tt)

subsector_reasoned : (bytes : List ℕ) (segs : ℕ)
    → RecordReasoned bytes subsector_size (subsector_ok segs (subsector_of bytes)) (subsector_fields bytes segs)
subsector_reasoned bytes segs =
    reasoned bytes subsector_size (subsector_ok segs (subsector_of bytes)) (subsector_fields bytes segs)
    (segs_same (u16_at bytes 0) (u16_at bytes 2) segs ∙ sym (all_in_two (field_at bytes 0 1 segs) (field_at bytes 2 0 (segs - u16_at bytes 0))))
    (omega arith, (omega arith, omega arith))
    (refl, (refl, tt))

node_reasoned : (nodes : List ℕ) (subsectors i : ℕ) → i < nodes_of nodes
    → RecordReasoned (record_bytes nodes node_size i) node_size (node_ok nodes subsectors i)
    (node_fields (record_bytes nodes node_size i) (nodes_of nodes) subsectors)
node_reasoned nodes subsectors i h =
    let bytes = record_bytes nodes node_size i in
    let count = nodes_of nodes in
    let child : ℕ → Field = λ at. child_at bytes at count subsectors in
    let same : (at : ℕ) → child_ok count subsectors (u16_at bytes at) ≡ in_range (child at) =
    λ at. child_same bytes at count subsectors (omega arith) in
    reasoned bytes node_size (node_ok nodes subsectors i) (node_fields bytes count subsectors)
    (ap (λ (b : Bool). b && child_ok count subsectors (u16_at bytes 26)) (same 24) ∙ ap (λ (b : Bool). in_range (child 24) && b) (same 26)
    ∙ sym (all_in_two (child 24) (child 26)))
    (omega arith, (omega arith, omega arith))
    (refl, (refl, tt))

seg_reasoned : (hexen : Bool) (linedefs bytes : List ℕ) (vertices : ℕ) → 0 < vertices → 0 < length linedefs / linedef_size hexen
    → RecordReasoned bytes seg_size (seg_ok hexen linedefs vertices (seg_of bytes)) (seg_fields hexen linedefs bytes vertices)
seg_reasoned hexen linedefs bytes vertices v l =
    let count = length linedefs / linedef_size hexen in
    let left = left_ok hexen linedefs (u16_at bytes 6) in
    let last = field_at bytes 8 0 (cond left 1 0) in
    reasoned bytes seg_size (seg_ok hexen linedefs vertices (seg_of bytes)) (seg_fields hexen linedefs bytes vertices)
    (four_same (below (u16_at bytes 0) vertices v) (below (u16_at bytes 2) vertices v) (below (u16_at bytes 6) count l)
    (direction_same (u16_at bytes 8) left ∙ sym (all_in-one last))
    ∙ sym (all_in-after_three (number_at bytes 0 vertices) (number_at bytes 2 vertices) (number_at bytes 6 count) (last ∷ [])))
    (omega arith, (omega arith, (omega arith, (omega arith, omega arith))))
    (refl, (refl, (refl, (refl, tt))))

-- the left sidedef, in the list or not
left-order : (hexen : Bool) (bytes : List ℕ) (sidedefs : ℕ) → InOrder (left_offset hexen) (linedef_size hexen) (left_fields hexen bytes sidedefs)
left-order hexen bytes sidedefs = by_test (eqb (u16_at bytes (left_offset hexen)) no_sidedef && not (two_sided (u16_at bytes 4)))
  where
    by_test : (b : Bool) → InOrder (left_offset hexen) (linedef_size hexen) (cond b [] (number_at bytes (left_offset hexen) sidedefs ∷ []))
    by_test true = let h = linedef-left hexen in omega arith
    by_test false = let h = linedef-left hexen in (omega arith, omega arith)

left_held : (hexen : Bool) (bytes : List ℕ) (sidedefs : ℕ) → Each (Held bytes) (left_fields hexen bytes sidedefs)
left_held hexen bytes sidedefs = by_test (eqb (u16_at bytes (left_offset hexen)) no_sidedef && not (two_sided (u16_at bytes 4)))
  where
    by_test : (b : Bool) → Each (Held bytes) (cond b [] (number_at bytes (left_offset hexen) sidedefs ∷ []))
    by_test true = tt
    by_test false = (refl, tt)

places-order : (hexen : Bool) → (4 ≤ right_offset hexen) × (right_offset hexen + 2 ≡ left_offset hexen)
places-order true = (omega arith, refl)
places-order false = (omega arith, refl)

linedef_reasoned : (hexen : Bool) (bytes : List ℕ) (vertices sidedefs : ℕ) → 0 < vertices → 0 < sidedefs → sidedefs ≤ 65535
    → RecordReasoned bytes (linedef_size hexen) (linedef_ok vertices sidedefs (linedef_of hexen bytes)) (linedef_fields hexen bytes vertices sidedefs)
linedef_reasoned hexen bytes vertices sidedefs v s m =
    let at = right_offset hexen in
    let left = u16_at bytes (left_offset hexen) in
    let two = two_sided (u16_at bytes 4) in
    reasoned bytes (linedef_size hexen) (linedef_ok vertices sidedefs (linedef_of hexen bytes)) (linedef_fields hexen bytes vertices sidedefs)
    (last_two (ltb (u16_at bytes 0) vertices && ltb (u16_at bytes 2) vertices && ltb (u16_at bytes at) sidedefs)
    (eqb left no_sidedef || ltb left sidedefs) (not (two && eqb left no_sidedef))
    ∙ four_same (below (u16_at bytes 0) vertices v) (below (u16_at bytes 2) vertices v) (below (u16_at bytes at) sidedefs s)
    (left-same left sidedefs two (number_at bytes (left_offset hexen) sidedefs) s m refl)
    ∙ sym (all_in-after_three (number_at bytes 0 vertices) (number_at bytes 2 vertices) (number_at bytes at sidedefs) (left_fields hexen bytes sidedefs))) (
      omega arith,
      (
        omega arith,
        (
          (places-order hexen).0,
          subst (λ (n : ℕ). InOrder n (linedef_size hexen) (left_fields hexen bytes sidedefs)) (sym (places-order hexen).1)
              (left-order hexen bytes sidedefs),
        ),
      ),
    )
    (refl, (refl, (refl, left_held hexen bytes sidedefs)))

pub records_reasoned : RecordsReasoned
records_reasoned =
    record {
      linedef = linedef_reasoned;
      sidedef = sidedef_reasoned;
      seg = seg_reasoned;
      subsector = subsector_reasoned;
      node = node_reasoned;
    }
