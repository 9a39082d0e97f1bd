-- What is known where a file is to be indexed and there is room. Assumes nothing.
use Prim.Native.Nat.{ℕ, ◌≤◌}
use mathlib.Core.Bool.{Bool, ◌&&◌}
use mathlib.Core.List.{List}
use mathlib.Core.Path.{◌≡◌}
use borrow.Author.Tests.{leb-true}
use lib.Dec.{leb}
use lib.ListN.{length}
use Rattle.std.specs.Prelude.{Ok}
use Rattle.refusal.specs.declared.Refusal.TheVariants.{IndexRoom}
use Rattle.refusal.specs.Checks.{unless}
use Rattle.refusal.proofs.Checks.{both, and_then_pass, unless_pass}
use Rattle.wad.specs.Header.{head_of, entry_count, file_header_check}
use Rattle.wad.specs.Entries.{file_check}
use Rattle.wad.proofs.Listing.{file-header, file_sound}
use Rattle.index.specs.Index.{record_offset}
use Rattle.index_build.specs.Building.{build_check}

pub record Passed (wad : List ℕ) (records room : ℕ) : Type 0 where
  pub file : file_check wad ≡ Ok tt
  pub header : file_header_check (length wad) (head_of wad) ≡ Ok tt
  pub few : entry_count (head_of wad) ≤ 4096
  pub enough : entry_count (head_of wad) ≤ records
  pub fits : record_offset (entry_count (head_of wad)) ≤ room

pub passed : (wad : List ℕ) (records room : ℕ) → build_check wad records room ≡ Ok tt → Passed wad records room
passed wad records room e =
    let count = entry_count (head_of wad) in
    let rooms : Bool = leb count records && leb (record_offset count) room in
    let checks = and_then_pass (file_check wad) (unless rooms IndexRoom) e in
    let header = file-header wad checks.0 in
    let tests = both (leb count records) (leb (record_offset count) room) (unless_pass rooms IndexRoom checks.1) in
    record {
      file = checks.0;
      header = header;
      few = (file_sound wad header).few;
      enough = leb-true count records tests.0;
      fits = leb-true (record_offset count) room tests.1;
    }
