-- `hazard::lists::note_long` meets its contract: the offsets from `at` on are noted, and `named` is how many linedefs are named from
-- there on. Assumes nothing.
use Prim.Native.Nat.{◌≤◌}
use mathlib.Core.Path.{◌≡◌}
use Rattle.map_blockmap.specs.Blockmap.{word_count}
use Rattle.hazard.specs.Inner.{LongNoted}
use Rattle.hazard.proofs.ListLengths.{named_from}
use Rattle.hazard.proofs.lists.note_long.Given as goal

abbrev pub invariant-loop-at : goal.invariant-loop-at
invariant-loop-at l =
    (l.at ≤ word_count l.lump) × ((l.named ≡ named_from l.lump l.at) × LongNoted l.lump l.linedefs l.at l.notes)
