-- The answer to a list of old numbers, as plain numbers. Assumes nothing.
use Rattle.std.specs.Prelude.{ℕ, ◌*◌, List, ◌≡◌, length}
use Rattle.layout.specs.Buffers.{buffer_after}
use Rattle.record.specs.Nodes.{node_size}
use Rattle.map_check.specs.Verdict.{verdict, words_after}
use Rattle.renumber.specs.Renumbering.{check_by, lump_by, renumbering_of}
use Rattle.refusal.specs.declared.status.LengthAnswer.{LengthAnswer}
use Rattle.refusal.specs.Status.{length_of}

-- the answer, the words and the output afterwards
pub record RenumberingGiven (wad name words order out : List ℕ) (answer : LengthAnswer) (wordsThen outThen : List ℕ) : Type 0 where
  pub answers : answer ≡ length_of (renumbering_of (check_by (verdict wad name words) wad order (length out)) (node_size * length order))
  pub leaves : wordsThen ≡ words_after wad name words
  pub writes : outThen ≡ buffer_after (check_by (verdict wad name words) wad order (length out)) (lump_by (verdict wad name words) wad order) out
