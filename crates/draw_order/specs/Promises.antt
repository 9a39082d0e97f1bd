-- What is promised of the draw order: the answer, and the words afterwards. Assumes nothing.
use Rattle.std.specs.Prelude.{ℕ, ◌+◌, List, ◌++◌, ◌≡◌, ℤ, length, drop, Result, Ok, Err}
use Rattle.refusal.specs.declared.Refusal.{Refusal}
use Rattle.refusal.specs.Checks.{Check}
use Rattle.node.specs.Nodes.{nodes_of}
use Rattle.node_graph.specs.Judging.{cleared}
use Rattle.draw_order.specs.Lists.{Listing, listed, stopped, root_order, order_check, draw_order}

-- how many are listed, or the refusal
abbrev pub order_answer : Listing → Result ℕ Refusal
order_answer (listed xs) = Ok (length xs)
order_answer (stopped r) = Err r

-- the words after the walk: the list, and the others as found; after a refusal the first nodes + 1 are zero
abbrev pub words_after_listing : List ℕ → Listing → List ℕ → List ℕ
words_after_listing nodes (listed xs) words = xs ++ drop (length xs) words
words_after_listing nodes (stopped r) words = cleared words (nodes_of nodes + 1)

-- and where 40, 41 or 45 is met before the walk, as found
abbrev pub words_after_check : Check → List ℕ → Listing → List ℕ → List ℕ
words_after_check (Ok _) nodes listing words = words_after_listing nodes listing words
words_after_check (Err r) nodes listing words = words

-- what the lent words hold afterwards
abbrev pub words_drawn : List ℕ → ℕ → ℤ → ℤ → List ℕ → List ℕ
words_drawn nodes subsectors x y words =
    words_after_check (order_check nodes subsectors (length words)) nodes (root_order nodes subsectors x y) words

-- the answer, and the words afterwards
pub record Drawn (nodes : List ℕ) (subsectors : ℕ) (x y : ℤ) (before : List ℕ) (answer : Result ℕ Refusal) (after : List ℕ) : Type 0 where
  pub answers : answer ≡ order_answer (draw_order nodes subsectors x y (length before))
  pub leaves : after ≡ words_drawn nodes subsectors x y before
