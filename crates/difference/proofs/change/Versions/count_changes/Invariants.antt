-- `difference::change::Versions::count_changes` meets its contract: so many records before record `i` are changed. Assumes nothing.
use Rattle.std.proofs.Common.{◌≡◌, ◌-◌, length, min}
use Rattle.difference.specs.Records.{changes_below}
use Rattle.difference.proofs.change.Versions.count_changes.Given as goal

abbrev pub invariant-loop-i : goal.invariant-loop-i
invariant-loop-i l =
    l.count ≡ length (changes_below l.self.size l.self.old.now l.self.new.now (min l.i l.all))

abbrev pub decreases-loop-i : goal.decreases-loop-i
decreases-loop-i l =
    l.all - l.i
