-- Not for the reader of promises: what only contracts of inner functions cite. Assumes nothing.
use Rattle.std.specs.Prelude.{ℕ, ◌+◌, ◌≤◌, List, ◌≡◌, length, Result, Ok, Err}
use Rattle.std.proofs.lemmas.List.Edits.{sets}
use Rattle.refusal.specs.declared.Refusal.{Refusal}
use Rattle.draw_order.specs.Lists.{Listing, listed, stopped}

-- what a walk that begins at place `at` answers and leaves in the words: the place behind the list, and the list; it
-- promises nothing of the words after a refusal
abbrev pub Walked : Listing → ℕ → List ℕ → Result ℕ Refusal → List ℕ → Type 0
Walked (listed xs) at before answer after =
    (answer ≡ Ok (at + length xs)) × (after ≡ sets before at xs) × (at + length xs ≤ length before)
Walked (stopped r) at before answer after = answer ≡ Err r
