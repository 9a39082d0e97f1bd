-- `name::name_ok` meets its contract. The loop's invariant: the first `i` bytes are good characters. Assumes nothing.
use Rattle.name.proofs.Rows.{GoodTo}
use Rattle.name.proofs.name_ok.Given as goal

abbrev pub invariant-loop-i : goal.invariant-loop-i
invariant-loop-i l =
    GoodTo l.name l.i
