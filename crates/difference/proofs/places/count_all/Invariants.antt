-- `difference::places::count_all` meets its contract: the counts of the places before `i` are stored. Assumes nothing.
use Rattle.std.proofs.Common.{◌≡◌, ◌+◌, length, replicate}
use Rattle.std.proofs.Math.Seq.{sets}
use Rattle.difference.specs.Differences.{game_in, lumps_in, changes_at}
use Rattle.difference.proofs.Lumps.{row}
use Rattle.difference.proofs.places.count_all.Given as goal

abbrev pub invariant-loop-i : goal.invariant-loop-i
invariant-loop-i l =
    l.counts ≡ sets (replicate 8 0) 0 (row (λ k. length (changes_at (game_in l.old.wad.now l.old.marker) (lumps_in l.old.wad.now l.old.marker) (lumps_in l.new.wad.now l.new.marker) (k + 1))) l.i)
