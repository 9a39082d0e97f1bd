-- What is answered of an entry and of a marker, by the checks that led there, and that an entry which is not refused is
-- handed back whole. Assumes nothing.
use Prim.Native.Nat.{ℕ, ◌+◌, ◌≤◌, ◌<◌}
use mathlib.Core.Bool.{Bool, true, false, ◌&&◌, ◌||◌, cond}
use mathlib.Core.List.{List}
use mathlib.Core.Path.{◌≡◌, refl, sym, ap, ◌∙◌}
use native.Mathlib.Omega.{arith}
use borrow.Author.Tests.{le-ltb, lt-ltb, ltb-true, leb-true, eqb-true}
use lib.Dec.{ltb, leb, eqb}
use lib.IntN.{ℤ}
use lib.ListN.{length}
use Rattle.endian.specs.Signed.{between, natural}
use Rattle.refusal.specs.declared.Refusal.{Refusal}
use Rattle.refusal.specs.declared.Refusal.TheVariants.{EntryBounds, EntryNumber, MapName}
use Rattle.refusal.specs.Checks.{Check}
use Rattle.std.specs.Prelude.{Result, Ok, Err}
use Rattle.refusal.specs.Checks.{unless, ◌and_then◌, each}
use Rattle.refusal.proofs.Checks.{both, and_then_pass, unless_pass, each_pass}
use Rattle.wad.specs.declared.lumps.Entry.{Entry}
use Rattle.wad.specs.declared.map.MarkerSearch.{MarkerSearch}
use Rattle.name.specs.Names.{name_of, episode_name, low_name, high_name, map_name_ok}
use Rattle.wad.specs.Header.{head_of, entry_count, file_header_check}
use Rattle.wad.specs.Entries.{directory_of, offset_at, size_at, inside_ok, entry_check, file_check}
use Rattle.wad.specs.Lump.{entry_size, entry_offset, placed, entry_answer, part_of, HandedWhole}
use Rattle.wad.specs.Map.{find_marker, counted, found, marker_answer, searched, search_answer}
use Rattle.wad.proofs.Slices.{length_part, part_if-inside}
use Rattle.wad.proofs.Listing.{between-natural}

module _ (wad : List ℕ) (i : ℕ) where
  abbrev pub answered : Check → Result Entry Refusal
  answered k = placed k (entry_offset (directory_of wad) i) (entry_size (directory_of wad) i)

  abbrev pub numbered : Check
  numbered = unless (ltb i (entry_count (head_of wad))) EntryNumber

  pub entry-refused : {r : Refusal} → file_check wad ≡ Err r → Err r ≡ entry_answer wad i
  entry-refused e = sym (ap (λ (k : Check). answered (k and_then numbered)) e)

  pub entry_past : file_check wad ≡ Ok tt → entry_count (head_of wad) ≤ i → Err EntryNumber ≡ entry_answer wad i
  entry_past e h =
      sym (ap (λ (k : Check). answered (k and_then numbered)) e
      ∙ ap (λ (b : Bool). answered (unless b EntryNumber)) (le-ltb i (entry_count (head_of wad)) h))

  pub entry_at : file_check wad ≡ Ok tt → i < entry_count (head_of wad)
      → Ok (record { offset = entry_offset (directory_of wad) i; size = entry_size (directory_of wad) i }) ≡ entry_answer wad i
  entry_at e h =
      sym (ap (λ (k : Check). answered (k and_then numbered)) e
      ∙ ap (λ (b : Bool). answered (unless b EntryNumber)) (lt-ltb i (entry_count (head_of wad)) h))

module _ (wad name : List ℕ) where
  abbrev pub sought : Check → MarkerSearch
  sought k = searched k (counted (entry_count (head_of wad)) (find_marker (directory_of wad) name (entry_count (head_of wad))))

  abbrev pub named : Check
  named = unless (map_name_ok name) MapName

  pub search_refused : {r : Refusal} → file_check wad ≡ Err r → sought (Err r) ≡ search_answer wad name
  search_refused e = sym (ap (λ (k : Check). sought (k and_then named)) e)

  pub search_named : {b : Bool} → file_check wad ≡ Ok tt → b ≡ map_name_ok name
      → sought (unless b MapName) ≡ search_answer wad name
  search_named e q =
      ap (λ (b : Bool). sought (unless b MapName)) q ∙ sym (ap (λ (k : Check). sought (k and_then named)) e)

-- the count stands beside the marker and changes nothing of it
pub counted_marker : (count : ℕ) (m : Result ℕ Refusal) → (counted count m).marker ≡ m
counted_marker count (Ok i) = refl
counted_marker count (Err r) = refl

searched_marker : (k : Check) (count : ℕ) (m : Result ℕ Refusal) → (searched k (counted count m)).marker ≡ found k m
searched_marker (Ok _) count m = counted_marker count m
searched_marker (Err r) count m = refl

pub search_marker : (wad name : List ℕ) → (search_answer wad name).marker ≡ marker_answer wad name
search_marker wad name =
    searched_marker (file_check wad and_then named wad name) (entry_count (head_of wad))
    (find_marker (directory_of wad) name (entry_count (head_of wad)))

-- a map's name has eight bytes
pub map_name_ok-length : (name : List ℕ) → map_name_ok name ≡ true → length name ≡ 8
map_name_ok-length name e =
    let forms = episode_name (name_of name) || low_name (name_of name) || high_name (name_of name) in
    eqb-true (length name) 8 (both (eqb (length name) 8) forms e).0

-- ---- an entry that is not refused

no_further : (b : Bool) (n m len : ℕ) → n + m ≤ len → cond b 0 n + m ≤ len
no_further true n m len h = omega arith
no_further false n m len h = h

inside-by : (len : ℕ) (offset size : ℤ) (b : Bool) → between size 0 0 ≡ b → inside_ok len offset size ≡ true
    → cond (eqb (natural size) 0) 0 (natural offset) + natural size ≤ len
inside-by len offset size true e h =
    let none = between-natural size 0 0 e in
    let z : natural size ≡ 0 = omega arith in
    rw (z) (omega arith)
inside-by len offset size false e h =
    let rest = rw e at h in
    let sums = both (between size 1 len && between offset 12 len) (leb (natural offset + natural size) len) rest in
    no_further (eqb (natural size) 0) (natural offset) (natural size) len (leb-true (natural offset + natural size) len sums.1)

-- its part lies inside the file
pub entry-inside : (wad : List ℕ) (i : ℕ) → file_check wad ≡ Ok tt → i < entry_count (head_of wad)
    → entry_offset (directory_of wad) i + entry_size (directory_of wad) i ≤ length wad
entry-inside wad i e h =
    let dir = directory_of wad in
    let entries = (and_then_pass (file_header_check (length wad) (head_of wad)) (each (entry_check (length wad) dir) (entry_count (head_of wad))) e).1 in
    let this = each_pass (entry_check (length wad) dir) (entry_count (head_of wad)) entries i h in
    let bounds = inside_ok (length wad) (offset_at dir i) (size_at dir i) in
    let first = (and_then_pass (unless bounds (EntryBounds i)) _ this).0 in
    inside-by (length wad) (offset_at dir i) (size_at dir i) (between (size_at dir i) 0 0) refl (unless_pass bounds (EntryBounds i) first)

-- the parts of an answer
abbrev offset_in : Result Entry Refusal → ℕ
offset_in (Ok entry) = entry.offset
offset_in (Err r) = 0

abbrev size_in : Result Entry Refusal → ℕ
size_in (Ok entry) = entry.size
size_in (Err r) = 0

placed_at : (c : Check) (o s : ℕ) {offset size : ℕ} → placed c o s ≡ Ok (record { offset = offset; size = size }) → (c ≡ Ok tt) × ((o ≡ offset) × (s ≡ size))
placed_at (Ok _) o s e = (refl, (ap offset_in e, ap size_in e))
placed_at (Err r) o s e = let z : ◌≡◌ {A = ℕ} 0 1 = cc in absurd (omega arith)

pub handed-whole : HandedWhole
handed-whole wad i offset size e =
    let dir = directory_of wad in
    let p = placed_at (file_check wad and_then numbered wad i) (entry_offset dir i) (entry_size dir i) e in
    let checks = and_then_pass (file_check wad) (numbered wad i) p.0 in
    let below = ltb-true i (entry_count (head_of wad)) (unless_pass (ltb i (entry_count (head_of wad))) EntryNumber checks.1) in
    let inside : offset + size ≤ length wad = rw (← p.1.0, ← p.1.1) (entry-inside wad i checks.0 below) in
    let whole = ap (part_of wad) e ∙ part_if-inside wad offset size inside in
    record { whole = whole; sized = ap length whole ∙ length_part wad offset size inside }
