-- `vector_script::lending::Store::write_all` meets its contract: the memory keeps its length. Assumes nothing.
use Prim.Native.Nat.{◌+◌, ◌≤◌}
use mathlib.Core.Path.{◌≡◌}
use lib.ListN.{length}
use Rattle.vector_script.specs.Script.{Kept}
use Rattle.vector_script.proofs.lending.Store.write_all.Given as goal

abbrev pub invariant-loop-b : goal.invariant-loop-b
invariant-loop-b g l =
    Kept l.fn.self l.self × (l.fn.self.at + length l.bytes ≤ length l.fn.self.memory.now → l.self.at ≡ l.fn.self.at + l.b-index)
