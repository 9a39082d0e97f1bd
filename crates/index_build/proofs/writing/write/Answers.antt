-- One more record is written. Assumes nothing.
use Prim.Native.Nat.{ℕ}
use mathlib.Core.List.{List}
use mathlib.Core.Path.{ap, ◌∙◌}
use lib.ListN.{get_or}
use Rattle.index.specs.Records.{no_record}
use Rattle.index_build.specs.Inner.{put_record}
use Rattle.index_build.proofs.Bytes.{written_none, written-more}
use Rattle.index_build.proofs.writing.write.Goals as goal

pub loop-i-init : goal.loop-i-init
loop-i-init c = written_none c.args.records.now c.args.out.now

pub loop-i-preserved : goal.loop-i-preserved
loop-i-preserved c =
    let rs = c.args.records.now in
    let i = c.loop-i.i in
    c.put_record.ensures
    ∙ ap (λ (l : List ℕ). put_record l i (get_or rs i no_record)) c.loop-i.invariant
    ∙ written-more rs i c.args.out.now
