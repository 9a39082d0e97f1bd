-- `index_find::find` meets its contract: the head's refusal, else what the index leads to. Assumes nothing.
use Prim.Native.Nat.{ℕ}
use mathlib.Core.List.{List}
use mathlib.Core.Path.{◌≡◌, sym, ap, ◌∙◌}
use native.Mathlib.Omega.{arith}
use borrow.Author.Tests.{eqb-true}
use lib.Dec.{eqb}
use lib.ListN.{length}
use Rattle.std.specs.Prelude.{Ok}
use Rattle.refusal.specs.declared.Refusal.TheVariants.{EntryMissing}
use Rattle.refusal.specs.Checks.{Check, unless}
use Rattle.refusal.proofs.Checks.{and_then_pass, unless_pass}
use Rattle.wad.specs.Header.{head_of, entry_count}
use Rattle.wad.specs.Entries.{directory_of}
use Rattle.wad.specs.Map.{searched}
use Rattle.wad.proofs.Listing.{file-header, file_sound}
use Rattle.index_check.specs.Checking.{index_head_check}
use Rattle.index_check.proofs.Heads.{passed}
use Rattle.index_find.specs.Finding.{lookup}
use Rattle.index_find.proofs.Turns.{nothing_compared}
use Rattle.index_find.proofs.find.Goals as goal
use Rattle.index_find.proofs.find.Goals.{In-Ok}

both : (c : In-Ok) → (index_head_check c.args.wad.now c.args.index.now ≡ Ok tt) × (unless (eqb (length c.args.name.now) 8) EntryMissing ≡ Ok tt)
both c = and_then_pass (index_head_check c.args.wad.now c.args.index.now) (unless (eqb (length c.args.name.now) 8) EntryMissing) (sym c.judge.ensures ∙ c.in-Ok.is)

pub invariant_of-at : goal.invariant_of-at
invariant_of-at c =
    let wad = c.args.wad.now in
    let head = passed wad c.args.index.now (both (goal.at.invariant_of-at c).In-Ok).0 in
    let few = (file_sound wad (file-header wad head.file)).few in
    let count = c.entry_count.ensures in
    record {
      listed = omega (arith, c.directory_of.ensures.result_len, count);
      few = omega (arith, few, count);
      room = omega (arith, head.head.long, count);
    }

pub look_up-requires : goal.look_up-requires
look_up-requires c =
    eqb-true (length c.args.name.now) 8 (unless_pass (eqb (length c.args.name.now) 8) EntryMissing (both (goal.at.look_up-requires c).In-Ok).1)

pub returns-in-Ok : goal.returns-in-Ok
returns-in-Ok c =
    let wad = c.args.wad.now in
    let index = c.args.index.now in
    let name = c.args.name.now in
    c.look_up.ensures ∙ ap (λ (d : List ℕ). lookup d c.entry_count.result index name) c.directory_of.ensures.result_value
    ∙ ap (λ (n : ℕ). lookup (directory_of wad) n index name) c.entry_count.ensures
    ∙ sym (ap (λ (k : Check). searched k (lookup (directory_of wad) (entry_count (head_of wad)) index name)) (both (goal.at.returns-in-Ok c).In-Ok).0)

pub returns-in-Err : goal.returns-in-Err
returns-in-Err c =
    nothing_compared (index_head_check c.args.wad.now c.args.index.now) (eqb (length c.args.name.now) 8) _ (sym c.judge.ensures ∙ c.in-Err.is)
