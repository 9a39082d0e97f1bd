-- `text_reader::read` meets its contract: what is left of the run answers, and the kind of the open block has room. The measure
-- is what is left of the text. Assumes nothing.
use mathlib.Core.Path.{◌≡◌}
use lib.ListN.{length}
use Rattle.text_reader.specs.Texts.{stand, goes, token_more}
use Rattle.text_reader.specs.Inner.{Rests}
use Rattle.text_reader.proofs.Leading.{place, RestOf, Room}
use Rattle.text_reader.proofs.Runs.{left}
use Rattle.text_reader.proofs.read.Given as goal

abbrev pub invariant-loop-asked : goal.invariant-loop-asked
invariant-loop-asked l =
    RestOf l.text l.asked l.from (stand l.s l.places l.kept) × Room (stand l.s l.places l.kept) × Rests l.s.wanted × (length l.places ≡ 34)

abbrev pub decreases-loop-asked : goal.decreases-loop-asked
decreases-loop-asked l =
    left goes (token_more l.text l.asked) place (length l.text) (stand l.s l.places l.kept)
