-- `map_blockmap::Lists::note_below` meets its contract: the places from `at` to `top` are noted. Assumes nothing.
use Prim.Native.Nat.{◌-◌, ◌≤◌}
use mathlib.Core.Path.{◌≡◌}
use lib.ListN.{length}
use Rattle.map_blockmap.specs.Blockmap.{word_count}
use Rattle.map_blockmap.specs.Notes.{ends_well, NotedFrom}
use Rattle.map_blockmap.proofs.Lists.note_below.Given as goal

abbrev pub invariant-loop-at : goal.invariant-loop-at
invariant-loop-at l =
    (l.at ≤ l.top) × ((length l.notes ≡ length l.initial.notes)
    × ((l.ends ≡ ends_well l.self.lump.now l.self.linedefs (word_count l.self.lump.now - l.at)) × NotedFrom l.self.lump.now l.self.linedefs l.at l.top l.notes))
