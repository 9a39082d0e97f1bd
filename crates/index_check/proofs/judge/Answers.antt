-- `index_check::judge` meets its contract: the records' answer, after the head's, is that of the whole index. Assumes nothing.
use Prim.Native.Nat.{ℕ}
use mathlib.Core.List.{List}
use mathlib.Core.Path.{sym, ap, ◌∙◌}
use native.Mathlib.Omega.{arith}
use Rattle.endian.specs.Unsigned.{Bytes}
use Rattle.refusal.proofs.Checks.{pass_then}
use Rattle.wad.specs.Entries.{directory_of}
use Rattle.wad.proofs.Listing.{file-header, file_sound}
use Rattle.index_check.specs.Inner.{records_check}
use Rattle.index_check.proofs.Heads.{passed}
use Rattle.index_check.proofs.Equal.{records_equal}
use Rattle.index_check.proofs.judge.Goals as goal

pub invariant_of-records : goal.invariant_of-records
invariant_of-records c =
    let wad = c.args.wad.now in
    let head = passed wad c.args.index.now (sym c.in_ok-judge_head.ensures) in
    let few = (file_sound wad (file-header wad head.file)).few in
    let count = c.entry_count.ensures in
    record {
      listed = omega (arith, c.directory_of.ensures.result_len, count);
      few = omega (arith, few, count);
      room = omega (arith, head.head.long, count);
    }

pub returns : goal.returns
returns c =
    let wad = c.args.wad.now in
    let index = c.args.index.now in
    let bytes : Bytes index = λ (i : ℕ). omega (arith, c.type_inv.index i) in
    let ok = sym c.in_ok-judge_head.ensures in
    let head = passed wad index ok in
    pass_then ok
    (c.judge_records.ensures
    ∙ ap (λ (d : List ℕ). records_check d c.entry_count.result index) c.directory_of.ensures.result_value
    ∙ ap (λ (n : ℕ). records_check (directory_of wad) n index) c.entry_count.ensures
    ∙ records_equal wad index bytes head.head head.version)
