-- What an index whose head passes is known to hold. Assumes nothing.
use Prim.Native.Nat.{ℕ, ◌≤◌}
use mathlib.Core.Bool.{true, ◌&&◌}
use mathlib.Core.List.{List}
use mathlib.Core.Path.{◌≡◌}
use borrow.Author.Tests.{leb-true, eqb-true}
use lib.Dec.{leb, eqb}
use lib.ListN.{length, take}
use Rattle.endian.specs.Unsigned.{u16_at, u32_at}
use Rattle.std.specs.Prelude.{Ok}
use Rattle.refusal.specs.declared.Refusal.TheVariants.{IndexHead, IndexVersion}
use Rattle.refusal.specs.Checks.{unless, ◌and_then◌}
use Rattle.refusal.proofs.Checks.{both, and_then_pass, unless_pass}
use Rattle.name.specs.Names.{same_bytes}
use Rattle.name.proofs.Bytes.{same_equal}
use Rattle.wad.specs.Header.{head_of, entry_count}
use Rattle.wad.specs.Entries.{file_check}
use Rattle.index.specs.Index.{index_mark, version_place, count_place, length_place, record_offset}
use Rattle.index_check.specs.Checking.{index_head_ok, version_ok, index_head_check, head_ok}

-- the four tests of 82
pub record Headed (count len : ℕ) (index : List ℕ) : Type 0 where
  pub long : record_offset count ≤ length index
  pub mark : take 3 index ≡ index_mark
  pub counts : u16_at index count_place ≡ count
  pub of : u32_at index length_place ≡ len

pub headed : (count len : ℕ) (index : List ℕ) → head_ok count len index ≡ true → Headed count len index
headed count len index e =
    let long = leb (record_offset count) (length index) in
    let mark = same_bytes (take 3 index) index_mark in
    let counts = eqb (u16_at index count_place) count in
    let of = eqb (u32_at index length_place) len in
    let three = both (long && mark && counts) of e in
    let two = both (long && mark) counts three.0 in
    let one = both long mark two.0 in
    record {
      long = leb-true (record_offset count) (length index) one.0;
      mark = same_equal (take 3 index) index_mark one.1;
      counts = eqb-true (u16_at index count_place) count two.1;
      of = eqb-true (u32_at index length_place) len three.1;
    }

-- 1 to 6, 82 and 83
pub record Passed (wad index : List ℕ) : Type 0 where
  pub file : file_check wad ≡ Ok tt
  pub head : Headed (entry_count (head_of wad)) (length wad) index
  pub version : u16_at index version_place ≡ 1

pub passed : (wad index : List ℕ) → index_head_check wad index ≡ Ok tt → Passed wad index
passed wad index e =
    let file = and_then_pass (file_check wad) (unless (index_head_ok wad index) IndexHead and_then unless (version_ok index) IndexVersion) e in
    let rest = and_then_pass (unless (index_head_ok wad index) IndexHead) (unless (version_ok index) IndexVersion) file.1 in
    record {
      file = file.0;
      head = headed (entry_count (head_of wad)) (length wad) index (unless_pass (index_head_ok wad index) IndexHead rest.0);
      version = eqb-true (u16_at index version_place) 1 (unless_pass (version_ok index) IndexVersion rest.1);
    }
