-- `name::same_name` meets its contract. The loop's invariant: the names are the same where what is left of them is, and as much is
-- left of both. Assumes nothing.
use mathlib.Core.Path.{◌≡◌}
use lib.ListN.{length}
use Rattle.name.specs.Names.{same_name}
use Rattle.name.proofs.same_name.Given as goal

abbrev pub invariant-loop-x : goal.invariant-loop-x
invariant-loop-x l =
    let a = l.x-iterator.a.rest.now in
    let b = l.x-iterator.b.rest.now in
    (same_name l.a l.b ≡ same_name a b) × (length a ≡ length b)
