-- A lookup over the right index is the search from the end, and no lookup compares more than 13 names. Assumes nothing.
use Prim.Native.Nat.{ℕ, zero, suc, ◌+◌, ◌*◌, ◌≤◌, ◌<◌, zero-le}
use mathlib.Core.Bool.{Bool, true, false, not, cond}
use mathlib.Core.List.{List}
use mathlib.Core.Logic.{◌⊎◌, inl, inr, ⊎_elim}
use mathlib.Core.Path.{◌≡◌, refl, sym, ap, ◌∙◌, subst}
use native.Mathlib.Nat.{le_of_suc-le-suc, eq-or-lt_of_le, min-le_left}
use native.Mathlib.Omega.{arith}
use borrow.Author.Tests.{ltb-true, ltb-false, lt-ltb, eq-eqb, not-true}
use lib.Dec.{ltb, eqb}
use lib.ListN.{length, get_or, drop, length-take}
use lib.Seq.{ext_get_or}
use Rattle.refusal.specs.Checks.{Check}
use Rattle.std.specs.Prelude.{Ok, Err}
use Rattle.refusal.specs.declared.Refusal.TheVariants.{EntryMissing}
use Rattle.refusal.proofs.Checks.{and_then_pass}
use Rattle.name.specs.Names.{same_bytes, same_name}
use Rattle.name.proofs.Bytes.{same_equal, equal_same}
use Rattle.wad.specs.declared.map.MarkerSearch.{MarkerSearch}
use Rattle.wad.specs.Header.{head_of, entry_count}
use Rattle.wad.specs.Entries.{directory_of, entry_name, file_check}
use Rattle.wad.specs.Map.{find_marker, searched}
use Rattle.wad.proofs.Listing.{file-header, file_sound}
use Rattle.wad.proofs.Search.{find_marker-found, find_marker_on, find_marker-none}
use Rattle.index.specs.declared.IndexRecord.{IndexRecord}
use Rattle.index.specs.Records.{no_record, padded, record_at, below_from, precedes}
use Rattle.index.specs.Index.{sorted_records, index_bytes}
use Rattle.index.proofs.Orders.{not_both, below-same, precedes-name, below_above, below_equal}
use Rattle.index.proofs.Holds.{index_holds}
use Rattle.index.proofs.Padded.{padded-length, padded-same, same-padded}
use Rattle.index.proofs.Bytes.{name-at, number-at}
use Rattle.index_check.specs.Checking.{index_head_check}
use Rattle.index_check.proofs.Accepts.{head_passes}
use Rattle.index_find.specs.Finding.{not_above, past_by, last_past, lookup, find_answer}
use Rattle.index_find.specs.Promises.{LookupHolds}
use Rattle.index_find.proofs.Halving.{Ends, compared_few, past-ends}

-- ---- the search from the end

module _ (dir name : List ℕ) where
  find_none : (n : ℕ) → ((m : ℕ) → m < n → same_name (entry_name dir m) name ≡ false) → find_marker dir name n ≡ Err EntryMissing
  find_none zero none = find_marker-none dir name
  find_none (suc n) none =
      find_marker_on dir name n (suc n) refl refl (none n (omega arith)) ∙ find_none n (λ m h. none m (omega arith))

  find-last : (n k : ℕ) → k < n → same_name (entry_name dir k) name ≡ true → ((m : ℕ) → k < m → m < n → same_name (entry_name dir m) name ≡ false)
      → find_marker dir name n ≡ Ok k
  find-last zero k h is none = absurd (omega arith)
  find-last (suc n) k h is none =
      ⊎_elim
      (λ (e : k ≡ n). find_marker-found dir name n (suc n) refl refl (subst (λ (m : ℕ). same_name (entry_name dir m) name ≡ true) e is) ∙ ap Ok (sym e))
      (λ (l : k < n).
      find_marker_on dir name n (suc n) refl refl (none n l (omega arith)) ∙ find-last n k l is (λ m a b. none m a (omega arith)))
      (eq-or-lt_of_le (le_of_suc-le-suc h))

-- ---- over the right index

module _ (wad name : List ℕ) (eight : length name ≡ 8) where
  abbrev dir : List ℕ
  dir = directory_of wad

  abbrev count : ℕ
  count = entry_count (head_of wad)

  abbrev index : List ℕ
  index = index_bytes wad

  abbrev at : ℕ → IndexRecord
  at i = get_or (sorted_records wad) i no_record

  entry_eight : (k : ℕ) → length (entry_name dir k) ≤ 8
  entry_eight k = rw (length-take 8 (drop (16 * k + 8) dir)) (min-le_left 8 (length (drop (16 * k + 8) dir)))

  low-name : (i : ℕ) → i < count → not_above index name i ≡ not (below_from 8 0 (padded name) (at i).name false)
  low-name i h = ap (λ (n : List ℕ). not (below_from 8 0 (padded name) n false)) (name-at wad i h)

  not-below : (i : ℕ) → i < count → not_above index name i ≡ true → below_from 8 0 (padded name) (at i).name false ≡ false
  not-below i h e = not-true (below_from 8 0 (padded name) (at i).name false) (sym (low-name i h) ∙ e)

  -- a record before one that is not above is not above
  low-falls : (i j : ℕ) → i < j → j < count → not_above index name j ≡ true → not_above index name i ≡ true
  low-falls i j h l e = low-name i (omega arith) ∙ by (below_from 8 0 (padded name) (at i).name false) refl
    where
      by : (b : Bool) → below_from 8 0 (padded name) (at i).name false ≡ b → not b ≡ true
      by false q = refl
      by true q =
          let holds = index_holds dir count in
          let before = holds.ascending i j h (omega (arith, holds.long, l)) in
          not_both (below_above (padded name) (at j).name (at i).name q (precedes-name (at i) (at j) before)) (not-below j l e)

  abbrev past : ℕ
  past = past_by (not_above index name) count 0 count

  ends : Ends (not_above index name) 0 count past
  ends = past-ends (not_above index name) count low-falls count 0 count (omega arith) (omega arith)

  -- an entry of the asked name has a record that is gone past
  record Gone (m : ℕ) : Type 0 where
    place : ℕ
    low : place < past
    inside : place < count
    is : at place ≡ record_at dir m
    named : (at place).name ≡ padded name

  gone : (m : ℕ) → m < count → same_name (entry_name dir m) name ≡ true → Gone m
  gone m h e =
      let (i, (l, is)) = (index_holds dir count).every m h in
      let named : (at i).name ≡ padded name = ap (λ (r : IndexRecord). r.name) is ∙ same-padded (entry_name dir m) name e in
      let low : not_above index name i ≡ true =
      low-name i l ∙ ap (λ (n : List ℕ). not (below_from 8 0 (padded name) n false)) named ∙ ap not (below-same 8 0 (padded name) false) in
      record { place = i; low = first i l low (ltb i past) refl; inside = l; is = is; named = named }
    where
      first : (i : ℕ) → i < count → not_above index name i ≡ true → (b : Bool) → ltb i past ≡ b → i < past
      first i l low true q = ltb-true i past q
      first i l low false q = not_both low (ends.over i (ltb-false i past q) (omega arith))

  same_or_not : (m : ℕ) → ((same_name (entry_name dir m) name ≡ true) → ⊥) → same_name (entry_name dir m) name ≡ false
  same_or_not m h = by (same_name (entry_name dir m) name) refl
    where
      by : (b : Bool) → same_name (entry_name dir m) name ≡ b → b ≡ false
      by true e = absurd (h e)
      by false e = refl

  -- the last record gone past
  module _ (q : ℕ) (last : past ≡ suc q) where
    q_low : q < count
    q_low = let m = ends.most in omega arith

    -- a record gone past before it has its name only with a smaller number
    before_last : (m : ℕ) (g : Gone m) → (at q).name ≡ padded name → (g.place ≡ q) ⊎ (m < (at q).number)
    before_last m g e =
        let low = g.low in
        ⊎_elim
        (λ (h : g.place ≡ q). inl h)
        (λ (h : g.place < q).
        let holds = index_holds dir count in
        let before : precedes (at g.place) (at q) ≡ true = holds.ascending g.place q h (omega (arith, holds.long, q_low)) in
        let names : (at g.place).name ≡ (at q).name = g.named ∙ sym e in
        let less : ltb (at g.place).number (at q).number ≡ true =
        sym (below-same 8 0 (at q).name (ltb (at g.place).number (at q).number))
        ∙ ap (λ (n : List ℕ). below_from 8 0 n (at q).name (ltb (at g.place).number (at q).number)) (sym names) ∙ before in
        let number : (at g.place).number ≡ m = ap (λ (r : IndexRecord). r.number) g.is in
        inr (rw number at (ltb-true (at g.place).number (at q).number less)))
        (eq-or-lt_of_le (le_of_suc-le-suc (subst (λ (n : ℕ). g.place < n) last low)))

    -- where it has not the asked name, none has
    none_named : ((at q).name ≡ padded name → ⊥) → (m : ℕ) → m < count → same_name (entry_name dir m) name ≡ true → ⊥
    none_named apart m h e =
        let g = gone m h e in
        ⊎_elim
        (λ (p : g.place ≡ q). apart (subst (λ (n : ℕ). (at n).name ≡ padded name) p g.named))
        (λ (p : g.place < q).
        let holds = index_holds dir count in
        let before = holds.ascending g.place q p (omega (arith, holds.long, q_low)) in
        let above : below_from 8 0 (at q).name (padded name) false ≡ false =
        ap (λ (n : List ℕ). below_from 8 0 (at q).name n false) (sym g.named) ∙ precedes-name (at g.place) (at q) before in
        let under = not-below q q_low (ends.under q zero-le (subst (λ (n : ℕ). q < n) (sym last) (omega arith))) in
        let (k, (low, is)) = holds.entries q (omega (arith, holds.long, q_low)) in
        let long : length (at q).name ≡ 8 = ap (λ (r : IndexRecord). length r.name) is ∙ padded-length (entry_name dir k) in
        let eight' = padded-length name in
        apart (ext_get_or 0 (at q).name (padded name) (long ∙ sym eight')
        (λ i l. below_equal 8 0 (at q).name (padded name) above under i zero-le (omega (arith, l, long)))))
        (eq-or-lt_of_le (le_of_suc-le-suc (subst (λ (n : ℕ). g.place < n) last g.low)))

    found : last_past dir count index name (suc q) ≡ find_marker dir name count
    found = by (same_bytes (at q).name (padded name)) refl
      where
        by : (b : Bool) → same_bytes (at q).name (padded name) ≡ b → last_past dir count index name (suc q) ≡ find_marker dir name count
        by false e =
            rw (name-at wad q q_low, e)
            (sym (find_none dir name count
            (λ m h. same_or_not m (none_named
            (λ p. not_both (ap (λ (n : List ℕ). same_bytes n (padded name)) p ∙ equal_same (padded name)) e) m h))))
        by true e =
            let named = same_equal (at q).name (padded name) e in
            let holds = index_holds dir count in
            let (k, (low, is)) = holds.entries q (omega (arith, holds.long, q_low)) in
            let number : (at q).number ≡ k = ap (λ (r : IndexRecord). r.number) is in
            let same : same_name (entry_name dir k) name ≡ true =
            padded-same (entry_name dir k) name (entry_eight k) (omega arith) (sym (ap (λ (r : IndexRecord). r.name) is) ∙ named) in
            rw (name-at wad q q_low, e, number-at wad q q_low, number, lt-ltb k count low, same)
            (sym (find-last dir name count k low same
            (λ m a b. same_or_not m
            (λ t.
            ⊎_elim
            (λ (p : (gone m b t).place ≡ q).
            let g = gone m b t in
            let mine : (at q).number ≡ m = ap (λ (n : ℕ). (at n).number) (sym p) ∙ ap (λ (r : IndexRecord). r.number) g.is in
            absurd (omega (arith, mine, number, a)))
            (λ (p : m < (at q).number). absurd (omega (arith, p, number, a)))
            (before_last m (gone m b t) named)))))

  last_found : (p : ℕ) → past ≡ p → last_past dir count index name p ≡ find_marker dir name count
  last_found zero e =
      sym (find_none dir name count
      (λ m h. same_or_not m (λ t. let g = gone m h t in let low = g.low in absurd (omega arith))))
  last_found (suc q) e = found q e

  pub lookup-same : (lookup dir count index name).marker ≡ find_marker dir name count
  lookup-same = rw (eq-eqb (length name) 8 eight) (last_found past refl)

-- ---- how many are compared

-- by what a test of the name's length answers
few_if : (b : Bool) (search other : MarkerSearch) → search.compared ≤ 13 → other.compared ≤ 13 → (cond {A = MarkerSearch} b search other).compared ≤ 13
few_if true search other h k = h
few_if false search other h k = k

few-by : (wad index name : List ℕ) (c : Check) → index_head_check wad index ≡ c → (find_answer wad index name).compared ≤ 13
few-by wad index name (Ok _) e =
    let file = (and_then_pass (file_check wad) _ e).0 in
    let most = (file_sound wad (file-header wad file)).few in
    let few = compared_few (not_above index name) 13 (entry_count (head_of wad)) 0 (entry_count (head_of wad)) (omega arith) in
    rw e (few_if (eqb (length name) 8) _ _ few zero-le)
few-by wad index name (Err r) e = rw e zero-le

pub lookup-holds : (wad index name : List ℕ) → LookupHolds wad index name
lookup-holds wad index name =
    record {
      few = few-by wad index name (index_head_check wad index) refl;
      same = λ file right eight.
          ap (λ (i : List ℕ). (find_answer wad i name).marker) right
          ∙ ap (λ (c : Check). (searched c (lookup (directory_of wad) (entry_count (head_of wad)) (index_bytes wad) name)).marker) (head_passes wad file)
          ∙ lookup-same wad name eight;
    }
