-- `picture::columns::Columns::judge_noting` meets its contract: the columns passed so far are a scan that passes, and so the notes
-- hold. Assumes nothing.
use mathlib.Core.Path.{◌≡◌}
use lib.ListN.{length}
use Rattle.refusal.proofs.Scans.{Scanned}
use Rattle.picture.specs.Judging.{column_check}
use Rattle.picture.specs.Stepping.{Notes}
use Rattle.picture.specs.Inner.{Good}
use Rattle.picture.proofs.columns.Columns.judge_noting.Given as goal

abbrev pub invariant-loop-column : goal.invariant-loop-column
invariant-loop-column g l =
    Scanned (column_check l.self.lump.now l.self.width l.self.height) l.self.width l.self.width l.column
    × Notes (Good l.self.lump.now l.self.height) l.notes
    × (length l.notes ≡ g.row.SLOTS)
