-- The theorems of the pair: which file's change is not seen, and that a lump is handed back whole. Assumes nothing.
use Prim.Native.Nat.{ℕ, zero, suc, ◌+◌, ◌≤◌, ◌<◌}
use mathlib.Core.Bool.{Bool, true, false, cond}
use mathlib.Core.List.{List}
use mathlib.Core.Path.{◌≡◌, refl, sym, ap, ◌∙◌}
use mathlib.Core.Logic.{⊎_elim}
use native.Mathlib.Nat.{not-suc-le-zero, le_of_suc-le-suc, eq-or-lt_of_le}
use native.Mathlib.Omega.{arith}
use borrow.Author.Tests.{eq-eqb, eqb-true}
use lib.Dec.{eqb}
use lib.ListN.{length}
use Rattle.refusal.specs.declared.Refusal.TheVariants.{MapName, EntryMissing}
use Rattle.refusal.specs.declared.Refusal.{Refusal}
use Rattle.refusal.specs.Checks.{Check}
use Rattle.std.specs.Prelude.{Result, Ok, Err}
use Rattle.refusal.specs.Checks.{unless}
use Rattle.name.specs.Names.{same_name, map_name_ok}
use Rattle.wad.specs.declared.lumps.Entry.{Entry}
use Rattle.wad.specs.Header.{head_of, entry_count}
use Rattle.wad.specs.Entries.{directory_of, entry_name, file_check}
use Rattle.wad.specs.Lump.{entry_offset, entry_size, part_of}
use Rattle.wad.specs.Map.{find_marker}
use Rattle.wad.proofs.Search.{find_marker-none, find_marker-found, find_marker_on}
use Rattle.wad.proofs.Answers.{entry-inside}
use Rattle.map_check.proofs.Answers.{find_marker-below}
use Rattle.wad.proofs.Slices.{part_if-inside, length_part}
use Rattle.pair.specs.declared.search.PairSearch.{PairSearch}
use Rattle.pair.specs.Search.{no_file, base_file, patch_file, file_of, last_named, after_check, or_else, either_named, search_pair, lump_search}
use Rattle.pair.specs.Answers.{entry_by, entry_of, part_by, verdict_of, words_after_search}
use Rattle.theorem_pair.specs.Promises.{Valid, Has, Lacks, BaseChanged, PatchChanged, PickedWhole}
use Rattle.pair.proofs.Searching.{missing}
use Rattle.pair.proofs.Entries.{known}

-- ---- a file that has a name, or has not

clash : false ≡ true → ⊥
clash e = let z : ◌≡◌ {A = ℕ} 0 1 = cc in absurd (omega arith)

module _ (dir name : List ℕ) where
  has_by : (n i : ℕ) (b : Bool) → same_name (entry_name dir n) name ≡ b → i < suc n → same_name (entry_name dir i) name ≡ true
      → (i < n → (j : ℕ) × (find_marker dir name n ≡ Ok j)) → (j : ℕ) × (find_marker dir name (suc n) ≡ Ok j)
  has_by n i true e h q rec = (n, find_marker-found dir name n (suc n) refl refl e)
  has_by n i false e h q rec =
      ⊎_elim
      (λ (s : i ≡ n). absurd (clash (sym e ∙ ap (λ (k : ℕ). same_name (entry_name dir k) name) (sym s) ∙ q)))
      (λ (l : i < n). ((rec l).0, find_marker_on dir name n (suc n) refl refl e ∙ (rec l).1))
      (eq-or-lt_of_le (le_of_suc-le-suc h))

  -- an entry of the name is found, this one or a later one
  find_marker_has : (n i : ℕ) → i < n → same_name (entry_name dir i) name ≡ true → (j : ℕ) × (find_marker dir name n ≡ Ok j)
  find_marker_has zero i h q = absurd (not-suc-le-zero h)
  find_marker_has (suc n) i h q = has_by n i (same_name (entry_name dir n) name) refl h q (λ l. find_marker_has n i l q)

  named_by : (n : ℕ) (b : Bool) → same_name (entry_name dir n) name ≡ b → {i : ℕ} → find_marker dir name (suc n) ≡ Ok i
      → (find_marker dir name n ≡ Ok i → same_name (entry_name dir i) name ≡ true) → same_name (entry_name dir i) name ≡ true
  named_by n true e {i} q rec =
      let same : n ≡ i = (let f = find_marker-found dir name n (suc n) refl refl e in cc) in
      ap (λ (k : ℕ). same_name (entry_name dir k) name) (sym same) ∙ e
  named_by n false e q rec = rec (sym (find_marker_on dir name n (suc n) refl refl e) ∙ q)

  -- what is found has the name
  find_marker-named : (n : ℕ) {i : ℕ} → find_marker dir name n ≡ Ok i → same_name (entry_name dir i) name ≡ true
  find_marker-named zero e = let f = find_marker-none dir name in let z : ◌≡◌ {A = ℕ} 0 1 = cc in absurd (omega arith)
  find_marker-named (suc n) e = named_by n (same_name (entry_name dir n) name) refl e (find_marker-named n)

has_found : (wad name : List ℕ) → Has wad name → (j : ℕ) × (last_named wad name ≡ Ok j)
has_found wad name h =
    let f = find_marker_has (directory_of wad) name (entry_count (head_of wad)) h.entry h.below h.named in (
      f.0,
      ap (λ (b : Bool). cond b (find_marker (directory_of wad) name (entry_count (head_of wad))) (Err EntryMissing)) (eq-eqb _ 8 h.asked) ∙ f.1,
    )

found-by : (wad name : List ℕ) (b : Bool) → eqb (length name) 8 ≡ b → {i : ℕ}
    → cond b (find_marker (directory_of wad) name (entry_count (head_of wad))) (Err EntryMissing) ≡ Ok i → Has wad name
found-by wad name true e {i} q =
    record {
      asked = eqb-true (length name) 8 e;
      entry = i;
      below = find_marker-below (directory_of wad) name (entry_count (head_of wad)) q;
      named = find_marker-named (directory_of wad) name (entry_count (head_of wad)) q;
    }
found-by wad name false e q = let z : ◌≡◌ {A = ℕ} 0 1 = cc in absurd (omega arith)

lacks_by : (wad name : List ℕ) (m : Result ℕ Refusal) → last_named wad name ≡ m → Lacks wad name → (r : Refusal) × (last_named wad name ≡ Err r)
lacks_by wad name (Ok i) e h = absurd (h (found-by wad name (eqb (length name) 8) refl e))
lacks_by wad name (Err r) e h = (r, e)

-- ---- the search of two valid files

valid_search : (base patch name : List ℕ) (asked : Check) → Valid base → Valid patch
    → search_pair base patch name asked ≡ after_check no_file asked (either_named base patch name)
valid_search base patch name asked b p =
    let named = after_check no_file asked (either_named base patch name) in
    ap (λ (k : Check). after_check patch_file k (after_check base_file (file_check base) named)) p
    ∙ ap (λ (k : Check). after_check base_file k named) b

in_patch : (base patch name : List ℕ) (asked : Check) {i : ℕ} → Valid base → Valid patch → last_named patch name ≡ Ok i
    → search_pair base patch name asked ≡ after_check no_file asked (record { file = patch_file; marker = Ok i })
in_patch base patch name asked b p h =
    valid_search base patch name asked b p
    ∙ ap (λ (m : Result ℕ Refusal). after_check no_file asked (or_else patch_file m (or_else base_file (last_named base name) missing))) h

not_in_patch : (base patch name : List ℕ) (asked : Check) → Valid base → Valid patch → Lacks patch name
    → search_pair base patch name asked ≡ after_check no_file asked (or_else base_file (last_named base name) missing)
not_in_patch base patch name asked b p h =
    valid_search base patch name asked b p
    ∙ ap (λ (m : Result ℕ Refusal). after_check no_file asked (or_else patch_file m (or_else base_file (last_named base name) missing)))
    (lacks_by patch name (last_named patch name) refl h).1

-- ---- what another base, or another patch, leaves as it is

module _ (base base' patch words : List ℕ) (i : ℕ) where
  abbrev patched : PairSearch
  patched = record { file = patch_file; marker = Ok i }

  same-verdict : (asked : Check)
      → verdict_of base patch words (after_check no_file asked patched) ≡ verdict_of base' patch words (after_check no_file asked patched)
  same-verdict (Ok _) = refl
  same-verdict (Err r) = refl

  same-words : (asked : Check)
      → words_after_search base patch words (after_check no_file asked patched) ≡ words_after_search base' patch words (after_check no_file asked patched)
  same-words (Ok _) = refl
  same-words (Err r) = refl

pub base_changed : BaseChanged
base_changed base base' patch name b p has b' =
    let i = (has_found patch name has).0 in
    let h = (has_found patch name has).1 in
    let lump = in_patch base patch name (Ok tt) b p h in
    let lump' = in_patch base' patch name (Ok tt) b' p h in
    let asked = unless (map_name_ok name) MapName in
    let map = in_patch base patch name asked b p h in
    let map' = in_patch base' patch name asked b' p h in
    record {
      entries = ap (entry_of base patch) lump ∙ sym (ap (entry_of base' patch) lump');
      lumps =
          ap (λ (s : PairSearch). part_by base patch (entry_of base patch s)) lump
          ∙ sym (ap (λ (s : PairSearch). part_by base' patch (entry_of base' patch s)) lump');
      verdicts = λ words.
          ap (verdict_of base patch words) map ∙ same-verdict base base' patch words i asked
          ∙ sym (ap (verdict_of base' patch words) map');
      leaves = λ words.
          ap (words_after_search base patch words) map ∙ same-words base base' patch words i asked
          ∙ sym (ap (words_after_search base' patch words) map');
    }

module _ (base patch patch' : List ℕ) where
  abbrev unpatched : Check → Result ℕ Refusal → PairSearch
  unpatched asked m = after_check no_file asked (or_else base_file m missing)

  same_entry' : (m : Result ℕ Refusal) → entry_of base patch (unpatched (Ok tt) m) ≡ entry_of base patch' (unpatched (Ok tt) m)
  same_entry' (Ok i) = refl
  same_entry' (Err r) = refl

  same_lump' : (m : Result ℕ Refusal)
      → part_by base patch (entry_of base patch (unpatched (Ok tt) m)) ≡ part_by base patch' (entry_of base patch' (unpatched (Ok tt) m))
  same_lump' (Ok i) = refl
  same_lump' (Err r) = refl

  same_verdict' : (words : List ℕ) (asked : Check) (m : Result ℕ Refusal)
      → verdict_of base patch words (unpatched asked m) ≡ verdict_of base patch' words (unpatched asked m)
  same_verdict' words (Ok _) (Ok i) = refl
  same_verdict' words (Ok _) (Err r) = refl
  same_verdict' words (Err r) m = refl

  same_words' : (words : List ℕ) (asked : Check) (m : Result ℕ Refusal)
      → words_after_search base patch words (unpatched asked m) ≡ words_after_search base patch' words (unpatched asked m)
  same_words' words (Ok _) (Ok i) = refl
  same_words' words (Ok _) (Err r) = refl
  same_words' words (Err r) m = refl

pub patch_changed : PatchChanged
patch_changed base patch patch' name b p h p' h' =
    let lump = not_in_patch base patch name (Ok tt) b p h in
    let lump' = not_in_patch base patch' name (Ok tt) b p' h' in
    let asked = unless (map_name_ok name) MapName in
    let map = not_in_patch base patch name asked b p h in
    let map' = not_in_patch base patch' name asked b p' h' in
    let m = last_named base name in
    record {
      entries = ap (entry_of base patch) lump ∙ same_entry' base patch patch' m ∙ sym (ap (entry_of base patch') lump');
      lumps =
          ap (λ (s : PairSearch). part_by base patch (entry_of base patch s)) lump
          ∙ same_lump' base patch patch' m
          ∙ sym (ap (λ (s : PairSearch). part_by base patch' (entry_of base patch' s)) lump');
      verdicts = λ words.
          ap (verdict_of base patch words) map ∙ same_verdict' base patch patch' words asked m
          ∙ sym (ap (verdict_of base patch' words) map');
      leaves = λ words.
          ap (words_after_search base patch words) map ∙ same_words' base patch patch' words asked m
          ∙ sym (ap (words_after_search base patch' words) map');
    }

-- ---- a lump that is not refused

-- where an entry lies, and its size
abbrev offset_in : Result Entry Refusal → ℕ
offset_in (Ok e) = e.offset
offset_in (Err r) = 0

abbrev size_in : Result Entry Refusal → ℕ
size_in (Ok e) = e.size
size_in (Err r) = 0

at_by : (wad : List ℕ) (m : Result ℕ Refusal) {offset size : ℕ} → entry_by wad m ≡ Ok (record { offset = offset; size = size })
    → (i : ℕ) × ((m ≡ Ok i) × ((entry_offset (directory_of wad) i ≡ offset) × (entry_size (directory_of wad) i ≡ size)))
at_by wad (Ok i) e = (i, (refl, (ap offset_in e, ap size_in e)))
at_by wad (Err r) e = let z : ◌≡◌ {A = ℕ} 0 1 = cc in absurd (omega arith)

pub picked_whole : PickedWhole
picked_whole base patch name offset size e =
    let search = lump_search base patch name in
    let wad = file_of base patch search.file in
    let a = at_by wad search.marker e in
    let k = known base patch name (Ok tt) a.1.0 in
    let there = entry-inside wad a.0 k.0 k.1 in
    let inside : offset + size ≤ length wad = omega (arith, there, a.1.1.0, a.1.1.1) in
    let whole = ap (part_of wad) e ∙ part_if-inside wad offset size inside in
    record { whole = whole; sized = ap length whole ∙ length_part wad offset size inside }
