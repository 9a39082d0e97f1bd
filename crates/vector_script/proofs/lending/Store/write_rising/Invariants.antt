-- `vector_script::lending::Store::write_rising` meets its contract: the memory keeps its length. Assumes nothing.
use Rattle.vector_script.specs.Script.{Kept}
use Rattle.vector_script.proofs.lending.Store.write_rising.Given as goal

abbrev pub invariant-loop-word : goal.invariant-loop-word
invariant-loop-word g l = Kept l.fn.self l.self
