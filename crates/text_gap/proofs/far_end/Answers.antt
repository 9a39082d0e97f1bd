-- `text_gap::far_end` meets its contract: the first byte of the value in the rest of the text, or none. Assumes nothing.
use Rattle.memchr.specs.Find.{is_byte}
use Rattle.text_gap.proofs.Found.{found, missed}
use Rattle.text_gap.proofs.far_end.Goals as goal

pub returns-in-Some : goal.returns-in-Some
returns-in-Some c = found (is_byte c.args.b) c.args.text.now c.args.from c.requires c.in-Some.ensures.0 c.in-Some.ensures.1

pub returns-in-None : goal.returns-in-None
returns-in-None c = missed (is_byte c.args.b) c.args.text.now c.args.from c.requires c.in-None.ensures
