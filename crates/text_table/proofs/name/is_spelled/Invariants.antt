-- `text_table::name::is_spelled` meets its contract: the letters passed are the name's. Assumes nothing.
use mathlib.Core.Path.{◌≡◌}
use lib.Dec.{eqb}
use lib.ListN.{length, get_or}
use Rattle.text_table.specs.Names.{every, letter_at}
use Rattle.text_table.proofs.name.is_spelled.Given as goal

abbrev pub invariant-loop-k : goal.invariant-loop-k
invariant-loop-k l =
    every (λ k. eqb (letter_at l.word l.exact k) (get_or l.name k 0)) l.k ≡ every (λ k. eqb (letter_at l.word l.exact k) (get_or l.name k 0)) (length l.word)
