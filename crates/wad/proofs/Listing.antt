-- What a header and a directory that pass are known to hold, and what an answer says of the check behind it.
-- Assumes nothing.
use Prim.Native.Nat.{ℕ, ◌+◌, ◌*◌, ◌≤◌}
use mathlib.Core.Bool.{true}
use mathlib.Core.List.{List}
use mathlib.Core.Path.{◌≡◌}
use native.Mathlib.Omega.{arith}
use borrow.Author.Tests.{leb-true}
use lib.Dec.{leb}
use lib.IntN.{ℤ, pos, negsuc}
use lib.ListN.{length}
use Rattle.endian.specs.Signed.{i32_at, between, natural}
use Rattle.refusal.specs.declared.Refusal.{Refusal}
use Rattle.refusal.specs.declared.Refusal.TheVariants.{FileLength, Mark, LumpCount, DirectoryBounds}
use Rattle.refusal.specs.Checks.{Check}
use Rattle.std.specs.Prelude.{Ok, Err}
use Rattle.refusal.specs.Checks.{unless, each}
use Rattle.refusal.proofs.Checks.{both, and_then_pass, unless_pass}
use Rattle.wad.specs.Header.{length_ok, mark_ok, entry_count_ok, bounds_ok, entry_count, start_of, head_of, fields_check, file_header_check}
use Rattle.wad.specs.Entries.{directory_of, entry_check, file_check, listed}

-- ---- tests that hold

pub between-natural : (z : ℤ) (least most : ℕ) → between z least most ≡ true → (least ≤ natural z) × (natural z ≤ most)
between-natural (pos n) least most e =
    let both = both (leb least n) (leb n most) e in
    (leb-true least n both.0, leb-true n most both.1)
between-natural (negsuc n) least most e = let z : ◌≡◌ {A = ℕ} 0 1 = cc in absurd (omega arith)

-- ---- a header that passes

pub record Sound (len : ℕ) (head : List ℕ) : Type 0 where
  pub low : 12 ≤ len
  pub high : len ≤ 16777216
  pub few : entry_count head ≤ 4096
  pub inside : start_of head + 16 * entry_count head ≤ len

pub sound : (len : ℕ) (head : List ℕ) → file_header_check len head ≡ Ok tt → Sound len head
sound len head e =
    let p1 = and_then_pass (unless (length_ok len) FileLength) (fields_check len head) e in
    let lengths = both (leb 12 len) (leb len 16777216) (unless_pass (length_ok len) FileLength p1.0) in
    let p2 = and_then_pass (unless (mark_ok head) Mark) _ p1.1 in
    let p3 = and_then_pass (unless (entry_count_ok head) LumpCount) (unless (bounds_ok len head) DirectoryBounds) p2.1 in
    let count = between-natural (i32_at head 4) 0 4096 (unless_pass (entry_count_ok head) LumpCount p3.0) in
    let bounds = both (between (i32_at head 8) 12 len) _ (unless_pass (bounds_ok len head) DirectoryBounds p3.1) in
    record {
      low = leb-true 12 len lengths.0;
      high = leb-true len 16777216 lengths.1;
      few = count.1;
      inside = leb-true _ len bounds.1;
    }

pub file_sound : (wad : List ℕ) → file_header_check (length wad) (head_of wad) ≡ Ok tt → Sound (length wad) (head_of wad)
file_sound wad = sound (length wad) (head_of wad)

-- ---- an answer and the check behind it

pub is-listed : {c : Check} {n s n' s' : ℕ} → c ≡ Ok tt → n ≡ n' → s ≡ s' → Ok (record { count = n; start = s }) ≡ listed c n' s'
is-listed e q t = rw (e, q, t)

pub not_listed : {c : Check} (n s : ℕ) {r : Refusal} → c ≡ Err r → Err r ≡ listed c n s
not_listed n s e = rw e

-- a file that passes has a header that passes
pub file-header : (wad : List ℕ) → file_check wad ≡ Ok tt → file_header_check (length wad) (head_of wad) ≡ Ok tt
file-header wad e =
    (and_then_pass (file_header_check (length wad) (head_of wad)) (each (entry_check (length wad) (directory_of wad)) (entry_count (head_of wad))) e).0
