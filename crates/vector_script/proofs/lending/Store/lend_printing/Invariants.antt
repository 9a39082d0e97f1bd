-- `vector_script::lending::Store::lend_printing` meets its contract: the memory keeps its length. Assumes nothing.
use Rattle.vector_script.specs.Script.{Kept}
use Rattle.vector_script.proofs.lending.Store.lend_printing.Given as goal

abbrev pub invariant-loop-token : goal.invariant-loop-token
invariant-loop-token g l = Kept l.fn.self l.self
