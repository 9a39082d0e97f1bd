-- Beside a good file the full check accepts the index of its directory, and no other. Assumes nothing.
use Prim.Native.Nat.{ℕ}
use mathlib.Core.List.{List}
use mathlib.Core.Path.{◌≡◌}
use native.Mathlib.Omega.{arith}
use borrow.Author.Tests.{le-leb, eq-eqb}
use lib.ListN.{length}
use Rattle.std.specs.Prelude.{Ok}
use Rattle.refusal.specs.declared.Refusal.TheVariants.{IndexEntries}
use Rattle.refusal.specs.Checks.{unless}
use Rattle.refusal.proofs.Checks.{and_then_pass, unless_pass}
use Rattle.name.specs.Names.{same_bytes}
use Rattle.name.proofs.Bytes.{same_equal, equal_same}
use Rattle.wad.specs.Header.{head_of, entry_count}
use Rattle.wad.specs.Entries.{file_check}
use Rattle.index.specs.Index.{record_offset, index_bytes}
use Rattle.index.proofs.Bytes.{index_size, index_count, index_of}
use Rattle.index_check.specs.Checking.{index_head_check, index_check}
use Rattle.index_check.specs.Promises.{AcceptsTheIndex}

module _ (wad : List ℕ) where
  pub head_passes : file_check wad ≡ Ok tt → index_head_check wad (index_bytes wad) ≡ Ok tt
  head_passes e =
      let size = index_size wad in
      let n = index_count wad in
      let of = index_of wad in
      rw
      (e, le-leb (record_offset (entry_count (head_of wad))) (length (index_bytes wad)) (omega arith), eq-eqb _ _ n, eq-eqb _ _ of)

pub accepts_the_index : AcceptsTheIndex
accepts_the_index wad index e = (
  λ (p : index_check wad index ≡ Ok tt).
      let rest = (and_then_pass (index_head_check wad index) (unless (same_bytes index (index_bytes wad)) IndexEntries) p).1 in
      same_equal index (index_bytes wad) (unless_pass (same_bytes index (index_bytes wad)) IndexEntries rest),
  λ (p : index ≡ index_bytes wad). rw (p, head_passes wad e, equal_same (index_bytes wad)),
)
