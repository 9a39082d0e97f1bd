-- `index_build::build` meets its contract: the sorted entries stand in front of the records, and the output begins with the index. Assumes
-- nothing.
use mathlib.Core.Path.{◌≡◌, sym, ◌∙◌, subst}
use native.Mathlib.Omega.{arith}
use lib.ListN.{length, take}
use lib.Seq.{length-take-le}
use Rattle.wad.specs.Header.{head_of, entry_count}
use Rattle.wad.specs.Entries.{directory_of}
use Rattle.index_build.specs.Arranging.{Arranged}
use Rattle.index_build.specs.Inner.{records_of, written}
use Rattle.index_build.proofs.Rooms.{passed}
use Rattle.index_build.proofs.SortedOver.{arranged_long, arranged_sorted}
use Rattle.index_build.proofs.Whole.{build_accepted}
use Rattle.index_build.proofs.build.Goals as goal

pub returns : goal.returns
returns c =
    let wad = c.args.wad.now in
    let ys = c.args.records.now in
    let os = c.args.out.now in
    let zs = c.arrange.new.records in
    let dir = directory_of wad in
    let count = entry_count (head_of wad) in
    let n = c.entry_count-count.result in
    let is : n ≡ count = c.entry_count-count.ensures in
    let fits = passed wad (length ys) (length os) (sym c.in_ok-judge.ensures) in
    let long : length (take n ys) ≡ count = length-take-le n ys (omega (arith, is, fits.enough)) ∙ is in
    let arranged = subst (λ k. Arranged k (records_of dir k) zs) long c.arrange.ensures in
    let many = arranged_long dir count zs arranged in
    let head = c.put_head.ensures in
    rw is
    (build_accepted wad ys os c.in_ok-judge.ensures (arranged_sorted dir count zs arranged)
    (c.write.ensures ∙ (λ i. written zs (many i) (head i))))
