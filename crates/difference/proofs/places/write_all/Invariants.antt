-- `difference::places::write_all` meets its contract: the numbers of the places before `i` are stored. Assumes nothing.
use Rattle.std.proofs.Common.{◌≡◌, ◌+◌, length}
use Rattle.layout.specs.Rows.{laid_out}
use Rattle.difference.specs.Differences.{game_in, lumps_in, changes_at}
use Rattle.difference.specs.Inner.Changes.{begun_with}
use Rattle.difference.proofs.places.write_all.Given as goal

abbrev pub invariant-loop-i : goal.invariant-loop-i
invariant-loop-i l =
    let numbers = laid_out (λ k. changes_at (game_in l.old.wad.now l.old.marker) (lumps_in l.old.wad.now l.old.marker) (lumps_in l.new.wad.now l.new.marker) (k + 1)) l.i in
    (l.count ≡ length numbers) × (l.list ≡ begun_with numbers l.initial.list)
