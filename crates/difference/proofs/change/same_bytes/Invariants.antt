-- `difference::change::same_bytes` meets its contract: the bytes are the same where those from byte `i` on are. Assumes nothing.
use Rattle.std.proofs.Common.{◌≡◌, drop}
use Rattle.name.specs.Names.{same_bytes}
use Rattle.difference.proofs.change.same_bytes.Given as goal

abbrev pub invariant-loop-i : goal.invariant-loop-i
invariant-loop-i l =
    same_bytes l.old l.new ≡ same_bytes (drop l.i l.old) (drop l.i l.new)
