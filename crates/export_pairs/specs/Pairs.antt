-- Answers on a pair of files, a patch over a base (W-207): the file is noted in every answer, 1 the base, 2 the patch, and 0 with
-- 10 and 11. Assumes nothing.
use Rattle.std.specs.Prelude.{ℕ, List, ◌≡◌, Option, Some, None, Result, Ok, Err}
use Rattle.refusal.specs.declared.Refusal.{Refusal}
use Rattle.wad.specs.declared.lumps.Entry.{Entry}
use Rattle.map_check.specs.Verdict.{Verdict}
use Rattle.pair.specs.declared.search.File.{File}
use Rattle.pair.specs.declared.search.File.TheVariants.{Base, Patch}
use Rattle.pair.specs.declared.PairEntry.{PairEntry}
use Rattle.pair.specs.declared.PairVerdict.{PairVerdict}
use Rattle.pair.specs.Answers.{pair_verdict, pair_words}
use Rattle.export_pairs.specs.declared.PairEntryAnswer.{PairEntryAnswer}
use Rattle.export_pairs.specs.declared.PairMapAnswer.{PairMapAnswer}
use Rattle.refusal.specs.Status.{accepted, refused}

-- the number by which an answer notes the file
abbrev pub file_number : Option File → ℕ
file_number None = 0
file_number (Some Base) = 1
file_number (Some Patch) = 2

-- where a lump's part of its file lies, and its size
abbrev pub pair_entry_with : ℕ → Result Entry Refusal → PairEntryAnswer
pair_entry_with file (Ok e) = record { status = accepted; file = file; offset = e.offset; size = e.size }
pair_entry_with file (Err r) = record { status = refused r; file = file; offset = 0; size = 0 }

abbrev pub pair_entry_out : PairEntry → PairEntryAnswer
pair_entry_out found = pair_entry_with (file_number found.file) found.entry

-- depth and marker of an accepted map
abbrev pub pair_map_with : ℕ → Verdict → PairMapAnswer
pair_map_with file (Ok a) = record { status = accepted; file = file; depth = a.depth; marker = a.marker }
pair_map_with file (Err r) = record { status = refused r; file = file; depth = 0; marker = 0 }

abbrev pub pair_map_out : PairVerdict → PairMapAnswer
pair_map_out judged = pair_map_with (file_number judged.file) judged.verdict

-- the answer of the pair's map check, and the words afterwards
pub record PairMapJudged (base patch name words : List ℕ) (answer : PairMapAnswer) (after : List ℕ) : Type 0 where
  pub answers : answer ≡ pair_map_out (pair_verdict base patch name words)
  pub leaves : after ≡ pair_words base patch name words
