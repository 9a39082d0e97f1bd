-- `pair::find` meets its contract: the search refuses, or the entry lies in the file that it notes. Assumes nothing.
use Prim.Native.Nat.{◌<◌}
use mathlib.Core.Path.{◌≡◌}
use native.Mathlib.Omega.{arith}
use Rattle.std.specs.Prelude.{Ok}
use Rattle.wad.specs.Header.{head_of, entry_count}
use Rattle.wad.specs.Entries.{file_check}
use Rattle.wad.proofs.Listing.{file-header}
use Rattle.pair.proofs.Entries.{known_in}
use Rattle.pair.proofs.find.Goals as goal
use Rattle.pair.proofs.find.Goals.{After-file_of}

-- the file passes, and has the entry
held : (c : After-file_of)
    → (file_check c.file_of.result.now ≡ Ok tt)
    × (c.in-Ok.i < entry_count (head_of c.file_of.result.now))
held c =
    let a = c.args in
    known_in a.base.now a.patch.now a.name.now (Ok tt) c.search_lump-search.result
    c.file_of.result.now c.search_lump-search.ensures c.in-Ok.is c.file_of.ensures

pub directory_of-dir-requires : goal.directory_of-dir-requires
directory_of-dir-requires c = file-header c.file_of.result.now (held (goal.at.directory_of-dir-requires c).After-file_of).0

pub entry_offset-requires : goal.entry_offset-requires
entry_offset-requires c = let h = (held (goal.at.entry_offset-requires c).After-file_of).1 in omega (arith, c.directory_of-dir.ensures.result_len)

pub entry_size-requires : goal.entry_size-requires
entry_size-requires c = let h = (held (goal.at.entry_size-requires c).After-file_of).1 in omega (arith, c.directory_of-dir.ensures.result_len)
