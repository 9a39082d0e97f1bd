-- `index_build::writing::write` meets its contract: the records so far are written. Assumes nothing.
use mathlib.Core.Path.{◌≡◌}
use Rattle.index_build.specs.Inner.{written}
use Rattle.index_build.proofs.writing.write.Given as goal

abbrev pub invariant-loop-i : goal.invariant-loop-i
invariant-loop-i l = l.out ≡ written l.records l.i l.initial.out
