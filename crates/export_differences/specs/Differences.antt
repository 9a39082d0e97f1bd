-- What changed between two maps, as plain numbers (W-213): the file is noted with a refusal of a map, 1 the old one, 2 the new one.
-- Assumes nothing.
use Rattle.std.specs.Prelude.{ℕ, List, ◌≡◌, length, replicate, Result, Ok, Err}
use Rattle.refusal.specs.declared.Refusal.{Refusal}
use Rattle.map_check.specs.Verdict.{verdict, words_after}
use Rattle.difference.specs.declared.CompareError.{CompareError}
use Rattle.difference.specs.declared.CompareError.TheVariants.{Old, New, Both}
use Rattle.difference.specs.Differences.{differences_by, words_then_by, list_by}
use Rattle.export_differences.specs.declared.DifferencesAnswer.{DifferencesAnswer}
use Rattle.refusal.specs.Status.{accepted, refused}

-- the files by number; 0 is neither
abbrev pub neither : ℕ
neither = 0

abbrev pub old_file : ℕ
old_file = 1

abbrev pub new_file : ℕ
new_file = 2

-- a refusal with its file
abbrev pub refused_in : ℕ → Refusal → DifferencesAnswer
refused_in file r = record { status = refused r; file = file; counts = replicate 8 0 }

-- how many records of each lump are listed, or what is refused, and of which file
abbrev pub differences_out : Result (List ℕ) CompareError → DifferencesAnswer
differences_out (Ok counts) = record { status = accepted; file = neither; counts = counts }
differences_out (Err (Old r)) = refused_in old_file r
differences_out (Err (New r)) = refused_in new_file r
differences_out (Err (Both r)) = refused_in neither r

-- the answer, the words and the list afterwards
pub record DifferencesGiven (oldWad oldName newWad newName words list : List ℕ) (answer : DifferencesAnswer)
    (wordsThen listThen : List ℕ) : Type 0 where
  pub answers : answer
      ≡ differences_out (differences_by (verdict oldWad oldName words)
      (verdict newWad newName (words_after oldWad oldName words)) oldWad newWad (length list))
  pub leaves : wordsThen ≡ words_then_by (verdict oldWad oldName words) newWad newName (words_after oldWad oldName words)
  pub lists : listThen
      ≡ list_by (verdict oldWad oldName words) (verdict newWad newName (words_after oldWad oldName words)) oldWad newWad list
