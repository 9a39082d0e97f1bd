-- `map_blockmap::Lists::ends_from` meets its contract: `well` says whether the words from `at` on end a list well.
-- Assumes nothing.
use Prim.Native.Nat.{◌-◌, ◌≤◌}
use mathlib.Core.Path.{◌≡◌}
use Rattle.map_blockmap.specs.Blockmap.{word_count}
use Rattle.map_blockmap.specs.Notes.{ends_well}
use Rattle.map_blockmap.proofs.Lists.ends_from.Given as goal

abbrev pub invariant-loop-at : goal.invariant-loop-at
invariant-loop-at l =
    (l.first ≤ l.at) × ((l.at ≤ word_count l.self.lump.now) × (l.well ≡ ends_well l.self.lump.now l.self.linedefs (word_count l.self.lump.now - l.at)))
