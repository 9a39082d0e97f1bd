-- `picture::columns::Columns::judge_noting` meets its contract: the columns passed so far are a scan that passes, and so the notes
-- hold. Assumes nothing.
use mathlib.Core.Path.{sym}
use borrow.Author.Rules.{rules}
use lib.ListN.{length-replicate}
use Rattle.refusal.proofs.Scans.{scanned_none, scanned_passed, scanned_refused}
use Rattle.picture.specs.Inner.{Good}
use Rattle.picture.proofs.Slots.{notes-none}
use Rattle.picture.proofs.columns.Columns.judge_noting.Goals as goal

pub loop-column-init : goal.loop-column-init
loop-column-init g c =
    (scanned_none, notes-none (Good c.args.self.now.lump.now c.args.self.now.height) g.row.SLOTS, length-replicate g.row.SLOTS 0)

pub returns-in_err-judge_column : goal.returns-in_err-judge_column
returns-in_err-judge_column g c =
    search (rules, scanned_refused c.loop-column.invariant.0 (search rules) c.in_err-judge_column.ensures.value)

pub loop-column-preserved : goal.loop-column-preserved
loop-column-preserved g c =
    let l = c.loop-column in
    let e = c.in_ok-judge_column.ensures in (
      scanned_passed l.invariant.0 (search rules) e.value,
      e.notes_2 (sym e.value),
      search rules,
    )
