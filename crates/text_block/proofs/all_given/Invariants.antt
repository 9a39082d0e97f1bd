-- `text_block::all_given` meets its contract: the fields passed are given. Assumes nothing.
use mathlib.Core.Bool.{true}
use mathlib.Core.Path.{◌≡◌}
use Rattle.text_table.specs.Names.{every}
use Rattle.text_table.specs.Table.{fields_of, is_required}
use Rattle.text_block.specs.Blocks.{is_given}
use Rattle.text_block.proofs.all_given.Given as goal

abbrev pub invariant-loop-k : goal.invariant-loop-k
invariant-loop-k l = true ≡ every (is_given (is_required (fields_of l.fn.kind)) l.places) l.k
