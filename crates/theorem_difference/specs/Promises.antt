-- What holds of the listed numbers (02, W-213): said once, over the size of a record, and then of the answer and the
-- list that a caller is handed for two maps. Assumes nothing.
use Rattle.std.specs.Prelude.{ℕ, ◌-◌, ◌≤◌, ◌<◌, true, cond, List, [], ◌∷◌, ◌++◌, ◌⊎◌, ◌≡◌, eqb, length, get_or, take, drop}
use Rattle.layout.specs.Rows.{sum_of, laid_out}
use Rattle.record_field.specs.Records.{record_bytes}
use Rattle.node_route.specs.Heights.{member}
use Rattle.record_table.specs.Lumps.{record_size}
use Rattle.map_lumps.specs.Lumps.{map_lump}
use Rattle.map_check.specs.Verdict.{accepted, verdict, words_after}
use Rattle.difference.specs.Records.{count_in}
use Rattle.difference.specs.Differences.{game_in, lumps_in, same_game}
use Rattle.export_differences.specs.declared.DifferencesAnswer.{DifferencesAnswer}
use Rattle.export_differences.specs.Differences.{DifferencesGiven}

-- ---- one lump

-- a buffer with the records of a list copied into it from the new lump, and cut to the new lump's length
abbrev pub copied : ℕ → List ℕ → List ℕ → List ℕ → List ℕ
copied size buffer new list =
    laid_out (λ i. cond (member i list) (record_bytes new size i) (record_bytes buffer size i)) (count_in size new)

-- a list without the number `i`
abbrev pub without : ℕ → List ℕ → List ℕ
without i [] = []
without i (x ∷ xs) = cond (eqb x i) (without i xs) (x ∷ without i xs)

-- a lump has no record `i`
abbrev pub Missing : ℕ → List ℕ → ℕ → Type 0
Missing size lump i = count_in size lump ≤ i

-- record `i` of a lump is different from the new lump's
abbrev pub Different : ℕ → List ℕ → List ℕ → ℕ → Type 0
Different size lump new i = record_bytes lump size i ≡ record_bytes new size i → ⊥

-- the numbers of `list`, for the old lump with any bytes behind it that make it as long as the new one
pub record Copies (size : ℕ) (old new list : List ℕ) : Type 0 where
  -- copying the listed records, and taking the new length, turns the old lump into the new one
  pub whole : (behind : List ℕ) → length new ≤ length (old ++ behind) → copied size (old ++ behind) new list ≡ new
  -- each number is that of a record of the new lump
  pub inside : (i : ℕ) → member i list ≡ true → i < count_in size new
  -- leave out any one number, and that record is different or missing
  pub needed : (i : ℕ) → member i list ≡ true → (behind : List ℕ) → length new ≤ length (old ++ behind)
      → Different size (copied size (old ++ behind) new (without i list)) new i ⊎ Missing size old i
  -- ascending, so that none is listed twice
  pub ascending : (i j : ℕ) → i < j → j < length list → get_or list i 0 < get_or list j 0

-- ---- two maps

-- the start of a lump's numbers in the list, for place 1 to 8: they follow those of the lumps before it
abbrev pub list_start : List ℕ → ℕ → ℕ
list_start counts place = sum_of (λ i. get_or counts i 0) (place - 1)

-- the words of the list that belong to the lump at a place, found by the eight counts
abbrev pub listed_at : List ℕ → List ℕ → ℕ → List ℕ
listed_at counts list place = take (get_or counts (place - 1) 0) (drop (list_start counts place) list)

-- the maps are accepted, one after the other over the same words, and are of one game; each lump's words of the list
-- are its numbers
pub record Handed (oldWad oldName newWad newName words counts list : List ℕ) : Type 0 where
  pub old_depth : ℕ
  pub old : ℕ
  pub new_depth : ℕ
  pub new : ℕ
  pub old_accepted : verdict oldWad oldName words ≡ accepted old_depth old
  pub new_accepted : verdict newWad newName (words_after oldWad oldName words) ≡ accepted new_depth new
  pub one_game : same_game (game_in oldWad old) (game_in newWad new) ≡ true
  pub copies : (place : ℕ) → 1 ≤ place → place ≤ 8
      → Copies (record_size (game_in oldWad old) place) (map_lump (lumps_in oldWad old) place) (map_lump (lumps_in newWad new) place)
      (listed_at counts list place)

-- this holds for the answer of `meshpigeon_differences` and the lent list afterwards, whenever the status is 0
abbrev pub DifferencesHold : Type 0
DifferencesHold =
    (oldWad oldName newWad newName words list : List ℕ) (answer : DifferencesAnswer) (wordsThen listThen : List ℕ)
    → DifferencesGiven oldWad oldName newWad newName words list answer wordsThen listThen → answer.status.number ≡ 0
    → Handed oldWad oldName newWad newName words answer.counts listThen
