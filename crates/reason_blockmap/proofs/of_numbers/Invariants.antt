-- `reason_blockmap::of_numbers` meets its contract: the words before `at` are in their ranges. Assumes nothing.
use Prim.Native.Nat.{◌-◌, ◌≤◌}
use mathlib.Core.Path.{◌≡◌}
use Rattle.map_blockmap.specs.Blockmap.{word_count}
use Rattle.reason_range.specs.Fields.{fields_check}
use Rattle.reason_blockmap.specs.Fields.{number_fields}
use Rattle.reason_blockmap.proofs.of_numbers.Given as goal

abbrev pub invariant-loop-at : goal.invariant-loop-at
invariant-loop-at l =
    (l.at-end ≡ word_count l.lump) × ((l.at ≤ word_count l.lump)
    × (fields_check (number_fields l.lump l.linedefs (word_count l.lump - l.at)) ≡ fields_check (number_fields l.lump l.linedefs (word_count l.lump - l.first))))
