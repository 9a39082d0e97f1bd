-- `picture_write::pixels::Pixels::write_post` meets its contract: after i turns the first i pixels stand behind the three bytes. Assumes
-- nothing.
use Prim.Native.Nat.{◌+◌}
use mathlib.Core.Path.{◌≡◌}
use lib.ListN.{length}
use lib.Seq.{sets}
use Rattle.picture_paint.specs.Pixels.{list_of}
use Rattle.picture_write.specs.Pixels.{pixel_at}
use Rattle.picture_write.proofs.pixels.Pixels.write_post.Given as goal

abbrev pub invariant-loop-i : goal.invariant-loop-i
invariant-loop-i l =
    (l.out ≡ sets l.initial.out (l.at + 3) (list_of (pixel_at l.self.colour.now l.self.cover.width l.column) l.row l.i)) × (length l.out ≡ length l.initial.out)
