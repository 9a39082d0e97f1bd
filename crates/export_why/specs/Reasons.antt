-- A map's verdict with the length of its reason, as plain numbers. Assumes nothing.
use Rattle.std.specs.Prelude.{List, ◌≡◌, ℕ, length, Ok, Err}
use Rattle.wad.specs.Map.{marker_answer}
use Rattle.map_check.specs.Verdict.{Verdict, verdict, words_after}
use Rattle.reason.specs.declared.Reason.{Reason}
use Rattle.reason.specs.Printing.{printed_length, printed_out, answer_by}
use Rattle.export_why.specs.declared.ReasonAnswer.{ReasonAnswer}
use Rattle.refusal.specs.Status.{accepted, refused}

-- depth and marker of an accepted map, and the length of what is printed
abbrev pub reason_out : Verdict → ℕ → ReasonAnswer
reason_out (Ok map) length = record { status = accepted; depth = map.depth; marker = map.marker; length = length }
reason_out (Err r) length = record { status = refused r; depth = 0; marker = 0; length = length }

-- of an answer, 85 too
abbrev pub answer_out : Reason → ReasonAnswer
answer_out a = reason_out a.verdict a.length

-- the answer, the words and the output afterwards
pub record ReasonGiven (wad name words out : List ℕ) (answer : ReasonAnswer) (wordsThen outThen : List ℕ) : Type 0 where
  pub answers : answer ≡ answer_out (answer_by (verdict wad name words) (printed_length wad words (marker_answer wad name)) (length out))
  pub leaves : wordsThen ≡ words_after wad name words
  pub prints : outThen ≡ printed_out wad words out (marker_answer wad name)
