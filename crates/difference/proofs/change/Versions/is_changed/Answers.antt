-- `difference::change::Versions::is_changed` meets its contract: one byte at least is another, or the old lump ends before. Assumes nothing.
use Rattle.std.proofs.Common.{rules}
use Rattle.difference.proofs.Comparing.{there_too}
use Rattle.difference.proofs.change.Versions.is_changed.Goals as goal

pub returns-in-Some : goal.returns-in-Some
returns-in-Some c =
    let v = c.args.self.now in
    there_too v.size v.old.now v.new.now c.args.i v.has_size (search rules) (search rules) c.same_bytes.ensures
