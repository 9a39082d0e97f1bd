-- `picture::columns::Columns::judge_posts` meets its contract: at each turn the posts that are left decide the answer. The measure is what
-- is left of the lump. Assumes nothing.
use Prim.Native.Nat.{◌-◌}
use lib.ListN.{length}
use Rattle.picture.specs.Judging.{posts_check}
use Rattle.picture.proofs.Ends.{Judging}
use Rattle.picture.proofs.columns.Columns.judge_posts.Given as goal

abbrev pub invariant-loop-at : goal.invariant-loop-at
invariant-loop-at l =
    Judging l.lump l.height l.column (posts_check (length l.lump) l.lump l.height l.column l.from 0) l.initial.notes l.notes l.at l.row

abbrev pub decreases-loop-at : goal.decreases-loop-at
decreases-loop-at l =
    length l.lump - l.at
