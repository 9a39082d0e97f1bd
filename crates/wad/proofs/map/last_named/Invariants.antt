-- `wad::map::last_named` meets its contract: no entry from `i` on has the name. Assumes nothing.
use mathlib.Core.Path.{◌≡◌}
use Rattle.wad.specs.Map.{find_marker}
use Rattle.wad.proofs.map.last_named.Given as goal

abbrev pub invariant-loop-i : goal.invariant-loop-i
invariant-loop-i l =
    find_marker l.dir l.name l.count ≡ find_marker l.dir l.name l.i
