-- What is known of an entry that a search of both files finds. Assumes nothing.
use Prim.Native.Nat.{ℕ, ◌<◌}
use mathlib.Core.Bool.{Bool, true, false, cond}
use mathlib.Core.List.{List}
use mathlib.Core.Path.{◌≡◌, refl, sym, ap, ◌∙◌, subst⁻¹}
use native.Mathlib.Omega.{arith}
use lib.Dec.{eqb}
use lib.ListN.{length}
use Rattle.refusal.specs.declared.Refusal.{Refusal}
use Rattle.refusal.specs.declared.Refusal.TheVariants.{EntryMissing}
use Rattle.refusal.specs.Checks.{Check}
use Rattle.std.specs.Prelude.{Result, Ok, Err}
use Rattle.wad.specs.Header.{head_of, entry_count}
use Rattle.wad.specs.Entries.{directory_of, file_check}
use Rattle.wad.specs.Map.{find_marker}
use Rattle.map_check.proofs.Answers.{find_marker-below}
use Rattle.std.specs.Prelude.{Option}
use Rattle.pair.specs.declared.search.File.{File}
use Rattle.pair.specs.declared.search.PairSearch.{PairSearch}
use Rattle.pair.specs.Search.{no_file, base_file, patch_file, file_of, last_named, after_check, or_else, either_named, search_pair}
use Rattle.pair.proofs.Searching.{missing}

after-by : (file : Option File) (k : Check) (next : PairSearch) {i : ℕ} → (after_check file k next).marker ≡ Ok i
    → (k ≡ Ok tt) × (after_check file k next ≡ next)
after-by file (Ok _) next e = (refl, refl)
after-by file (Err r) next e = let z : ◌≡◌ {A = ℕ} 0 1 = cc in absurd (omega arith)

last-by : (dir name : List ℕ) (n : ℕ) (b : Bool) {i : ℕ} → cond b (find_marker dir name n) (Err EntryMissing) ≡ Ok i → i < n
last-by dir name n true e = find_marker-below dir name n e
last-by dir name n false e = let z : ◌≡◌ {A = ℕ} 0 1 = cc in absurd (omega arith)

pub last-below : (wad name : List ℕ) {i : ℕ} → last_named wad name ≡ Ok i → i < entry_count (head_of wad)
last-below wad name e = last-by (directory_of wad) name (entry_count (head_of wad)) (eqb (length name) 8) e

module _ (base patch name : List ℕ) where
  -- entry `i` of the file that a search notes is there, and the file passes
  abbrev pub Known : PairSearch → ℕ → Type 0
  Known s i = (file_check (file_of base patch s.file) ≡ Ok tt) × (i < entry_count (head_of (file_of base patch s.file)))

  known_by : (m n : Result ℕ Refusal) → last_named patch name ≡ m → last_named base name ≡ n → file_check base ≡ Ok tt → file_check patch ≡ Ok tt
      → {i : ℕ} → (or_else patch_file m (or_else base_file n missing)).marker ≡ Ok i
      → Known (or_else patch_file m (or_else base_file n missing)) i
  known_by (Ok j) n e f b p {i} q = let same : j ≡ i = cc in (p, rw (← same) (last-below patch name e))
  known_by (Err r) (Ok j) e f b p {i} q = let same : j ≡ i = cc in (b, rw (← same) (last-below base name f))
  known_by (Err r) (Err s) e f b p q = let z : ◌≡◌ {A = ℕ} 0 1 = cc in absurd (omega arith)

  pub known : (asked : Check) {i : ℕ} → (search_pair base patch name asked).marker ≡ Ok i → Known (search_pair base patch name asked) i
  known asked {i} e =
      let either = either_named base patch name in
      let named = after_check no_file asked either in
      let based = after_check base_file (file_check base) named in
      let p = after-by patch_file (file_check patch) based e in
      let q = after-by base_file (file_check base) named (sym (ap (λ (s : PairSearch). s.marker) p.1) ∙ e) in
      let so = p.1 ∙ q.1 in
      let a = after-by no_file asked either (sym (ap (λ (s : PairSearch). s.marker) so) ∙ e) in
      let all = so ∙ a.1 in
      let k = known_by (last_named patch name) (last_named base name) refl refl q.0 p.0 (sym (ap (λ (s : PairSearch). s.marker) all) ∙ e) in
      rw all k

  -- the same of what a search answered and of the file that was taken by it
  pub known_in : (asked : Check) (s : PairSearch) (wad : List ℕ) {i : ℕ} → s ≡ search_pair base patch name asked → s.marker ≡ Ok i
      → wad ≡ file_of base patch s.file → (file_check wad ≡ Ok tt) × (i < entry_count (head_of wad))
  known_in asked s wad {i} e m q =
      let k = known asked (sym (ap (λ (s : PairSearch). s.marker) e) ∙ m) in
      let here = q ∙ ap (λ (s : PairSearch). file_of base patch s.file) e in
      subst⁻¹ (λ (w : List ℕ). (file_check w ≡ Ok tt) × (i < entry_count (head_of w))) here k
