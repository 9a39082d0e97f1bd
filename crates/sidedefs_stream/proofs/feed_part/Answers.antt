-- `sidedefs_stream::feed_part` meets its contract: the scrap in one stroke, by what its callees tell. Assumes nothing.
use Prim.Native.Nat.{◌+◌}
use mathlib.Core.Bool.{◌||◌}
use mathlib.Core.Path.{refl, sym, ◌∙◌}
use lib.Dec.{ltb}
use lib.ListN.{length}
use Rattle.sidedefs_stream.proofs.Scraps.{fed_scrap}
use Rattle.sidedefs_stream.proofs.feed_part.Goals as goal

pub returns : goal.returns
returns c =
    let s = c.args.state in
    let scrap = c.args.scrap.now in
    let first = c.first_bad-place in (
      (λ i. record {
        sectors = s.sectors;
        bytes = s.bytes + length scrap;
        bad = c.pick.ensures i;
        low = c.low_after.ensures i;
        found = s.found || ltb (first.result + 1) (length scrap);
      })
          ∙ sym (fed_scrap s scrap first.result first.ensures c.requires.1 c.requires.0),
      refl,
    )
