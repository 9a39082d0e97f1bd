-- `picture_write::given::cover_ok` meets its contract: so far all bytes are good or not, as the definition has it. Assumes nothing.
use mathlib.Core.Path.{◌≡◌}
use Rattle.picture_write.specs.Given.{cover_ok}
use Rattle.picture_write.proofs.given.cover_ok.Given as goal

abbrev pub invariant-loop-byte : goal.invariant-loop-byte
invariant-loop-byte l =
    l.ok ≡ cover_ok l.cover l.byte-index
