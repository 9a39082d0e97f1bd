-- `difference::change::Versions::write_changes` meets its contract: the numbers of the changed records before record `i` are stored. Assumes
-- nothing.
use Rattle.std.proofs.Common.{◌≡◌, ◌-◌, length, min}
use Rattle.difference.specs.Records.{changes_below}
use Rattle.difference.specs.Inner.Changes.{begun_with}
use Rattle.difference.proofs.change.Versions.write_changes.Given as goal

abbrev pub invariant-loop-i : goal.invariant-loop-i
invariant-loop-i l =
    let numbers = changes_below l.self.size l.self.old.now l.self.new.now (min l.i l.all) in
    (l.count ≡ length numbers) × (l.list ≡ begun_with numbers l.initial.list)

abbrev pub decreases-loop-i : goal.decreases-loop-i
decreases-loop-i l =
    l.all - l.i
