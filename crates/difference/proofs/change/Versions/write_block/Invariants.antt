-- `difference::change::Versions::write_block` meets its contract: the numbers of the changed records before record `j` are stored. Assumes
-- nothing.
use Rattle.std.proofs.Common.{◌≡◌, length}
use Rattle.difference.specs.Inner.Changes.{changes_from, begun_with}
use Rattle.difference.proofs.change.Versions.write_block.Given as goal

abbrev pub invariant-loop-j : goal.invariant-loop-j
invariant-loop-j l =
    let numbers = changes_from l.self.size l.self.old.now l.self.new.now l.i l.j in
    (l.count ≡ length numbers) × (l.list ≡ begun_with numbers l.initial.list)
