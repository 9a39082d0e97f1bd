-- `vector_script::lending::Store::repeat` meets its contract: the memory keeps its length. Assumes nothing.
use Rattle.vector_script.specs.Script.{Kept}
use Rattle.vector_script.proofs.lending.Store.repeat.Given as goal

abbrev pub invariant-loop-place : goal.invariant-loop-place
invariant-loop-place g l = Kept l.fn.self l.self
