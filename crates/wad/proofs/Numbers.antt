-- Which numbers the search for a map's marker gives: none above 11. Assumes nothing.
use Prim.Native.Nat.{ℕ, zero, suc, ◌≤◌}
use mathlib.Core.Bool.{Bool, true, false}
use mathlib.Core.List.{List}
use mathlib.Core.Path.{◌≡◌, refl, ap, subst⁻¹}
use native.Mathlib.Omega.{arith}
use lib.ListN.{length}
use Rattle.refusal.specs.declared.Refusal.{Refusal}
use Rattle.refusal.specs.declared.Refusal.TheVariants.{FileLength, Mark, LumpCount, DirectoryBounds, EntryBounds, EntryName, MapName, EntryMissing}
use Rattle.refusal.specs.Checks.{Check}
use Rattle.std.specs.Prelude.{Result, Ok, Err}
use Rattle.refusal.specs.Table.{number_of}
use Rattle.refusal.proofs.Numbers.{AtMost, unless_at_most, and_then_at_most, each_at_most}
use Rattle.wad.specs.Header.{length_ok, mark_ok, entry_count_ok, bounds_ok, head_of, entry_count}
use Rattle.wad.specs.Entries.{offset_at, size_at, entry_name, inside_ok, entry_check, directory_of, directory_check}
use Rattle.name.specs.Names.{name_ok, same_name, map_name_ok}
use Rattle.wad.proofs.Search.{find_marker-found, find_marker_on, find_marker-none}
use Rattle.wad.specs.Map.{find_marker, found, marker_answer}

-- no refusal of the search has a larger number
abbrev MarkerAtMost : Result ℕ Refusal → Type 0
MarkerAtMost m = (r : Refusal) → m ≡ Err r → number_of r ≤ 11

abbrev number_in : Result ℕ Refusal → ℕ
number_in (Ok i) = 0
number_in (Err r) = number_of r

none_at_most : (s : Refusal) → number_of s ≤ 11 → MarkerAtMost (Err s)
none_at_most s h r e = rw (ap number_in e) at h

entry_at_most : (i : ℕ) → MarkerAtMost (Ok i)
entry_at_most i r e = let z : ◌≡◌ {A = ℕ} 0 1 = cc in absurd (omega arith)

module _ (dir name : List ℕ) where
  find-by : (n : ℕ) (b : Bool) → same_name (entry_name dir n) name ≡ b → MarkerAtMost (find_marker dir name n)
      → MarkerAtMost (find_marker dir name (suc n))
  find-by n true e h = subst⁻¹ MarkerAtMost (find_marker-found dir name n (suc n) refl refl e) (entry_at_most n)
  find-by n false e h = subst⁻¹ MarkerAtMost (find_marker_on dir name n (suc n) refl refl e) h

  find_at_most : (n : ℕ) → MarkerAtMost (find_marker dir name n)
  find_at_most zero = subst⁻¹ MarkerAtMost (find_marker-none dir name) (none_at_most EntryMissing (omega arith))
  find_at_most (suc n) = find-by n (same_name (entry_name dir n) name) refl (find_at_most n)

found_at_most : (c : Check) (m : Result ℕ Refusal) → AtMost 11 c → MarkerAtMost m → MarkerAtMost (found c m)
found_at_most (Ok _) m h k = k
found_at_most (Err s) m h k = none_at_most s (h s (λ i. Err s))

directory_at_most : (len : ℕ) (head dir : List ℕ) → AtMost 11 (directory_check len head dir)
directory_at_most len head dir =
    and_then_at_most _ _
    (and_then_at_most _ _ (unless_at_most (length_ok len) FileLength (omega arith))
    (and_then_at_most _ _ (unless_at_most (mark_ok head) Mark (omega arith))
    (and_then_at_most _ _ (unless_at_most (entry_count_ok head) LumpCount (omega arith))
    (unless_at_most (bounds_ok len head) DirectoryBounds (omega arith)))))
    (each_at_most (entry_check len dir) (λ i.
    and_then_at_most _ _ (unless_at_most (inside_ok len (offset_at dir i) (size_at dir i)) (EntryBounds i) (omega arith))
    (unless_at_most (name_ok (entry_name dir i)) (EntryName i) (omega arith))) (entry_count head))

-- 1 to 6, 10 and 11
pub marker_at_most : (wad name : List ℕ) (r : Refusal) → marker_answer wad name ≡ Err r → number_of r ≤ 11
marker_at_most wad name =
    found_at_most _ _
    (and_then_at_most _ _ (directory_at_most (length wad) (head_of wad) (directory_of wad)) (unless_at_most (map_name_ok name) MapName (omega arith)))
    (find_at_most (directory_of wad) name (entry_count (head_of wad)))
