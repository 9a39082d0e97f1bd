-- The theorem on differences: what a caller is handed for every two accepted maps of one game. Assumes nothing.
use Prim.Native.Nat.{ℕ, ◌+◌, ◌-◌, ◌≤◌}
use mathlib.Core.Bool.{Bool, true}
use mathlib.Core.List.{List, ◌++◌}
use mathlib.Core.Path.{◌≡◌, refl, sym, ap, ◌∙◌, subst}
use native.Mathlib.Nat.{div-add-mod}
use native.Mathlib.Omega.{arith}
use lib.Dec.{leb}
use lib.ListN.{length, drop}
use Rattle.refusal.specs.declared.Refusal.{Refusal}
use Rattle.refusal.specs.declared.Refusal.TheVariants.{DifferenceRoom, DifferenceGames}
use Rattle.refusal.specs.Checks.{Check}
use Rattle.std.specs.Prelude.{Ok, Err}
use Rattle.refusal.specs.Checks.{unless}
use Rattle.refusal.specs.Table.{number_of}
use Rattle.refusal.proofs.Checks.{and_then_pass, unless_pass}
use Rattle.layout.specs.Buffers.{buffer_after}
use Rattle.wad.specs.Header.{head_of, entry_count}
use Rattle.wad.specs.Entries.{directory_of}
use Rattle.record_table.specs.Lumps.{record_size}
use Rattle.map_lumps.specs.Lumps.{map_lump}
use Rattle.map_lumps.specs.Run.{run_check}
use Rattle.map_check.specs.Lumps.{lumps_check}
use Rattle.map_check.proofs.CountsPassing.{count-whole}
use Rattle.map_check.specs.Verdict.{Verdict, accepted, verdict, words_after}
use Rattle.map_check.proofs.Passing.{counts}
use Rattle.theorem_map.proofs.Demands.{known}
use Rattle.difference.specs.Differences.{changes_at, changes_in, game_in, lumps_in, same_game, change_list, change_counts, pair_check, pair_answer, differences_by, list_by}
use Rattle.difference.proofs.Answering.{same-game}
use Rattle.export_differences.specs.declared.DifferencesAnswer.{DifferencesAnswer}
use Rattle.export_differences.specs.Differences.{differences_out}
use Rattle.theorem_difference.specs.Promises.{Copies, listed_at, Handed, DifferencesHold}
use Rattle.theorem_difference.proofs.Copies.{copies}
use Rattle.theorem_difference.proofs.Listed.{row-found}
use Rattle.refusal.proofs.Table.{number-some}

refused-not : {X : Type 0} (r : Refusal) → number_of r ≡ 0 → X
refused-not r e = let some = number-some r in absurd (omega (arith, some, e))

-- ---- two accepted maps

module _ (oldWad newWad newName words : List ℕ) (depth old new : ℕ) (e : verdict newWad newName words ≡ accepted depth new) where
  -- the changed records at a place are those that must be copied
  changes_copy : same_game (game_in oldWad old) (game_in newWad new) ≡ true → (place : ℕ) → 1 ≤ place → place ≤ 8
      → Copies (record_size (game_in oldWad old) place) (map_lump (lumps_in oldWad old) place) (map_lump (lumps_in newWad new) place)
      (changes_at (game_in oldWad old) (lumps_in oldWad old) (lumps_in newWad new) place)
  changes_copy game place low high =
      let k = known newWad newName words depth new e in
      let hexen = game_in newWad new in
      let lumps = lumps_in newWad new in
      let checked = (and_then_pass (run_check (directory_of newWad) (entry_count (head_of newWad)) new) (lumps_check hexen lumps (length words)) k.below.passes).1 in
      let whole = count-whole hexen lumps (counts hexen lumps (length words) checked) place low high refl in
      let sum = div-add-mod (length (map_lump lumps place)) (record_size hexen place) in
      subst
      (λ (h : Bool).
      Copies (record_size h place) (map_lump (lumps_in oldWad old) place) (map_lump lumps place) (changes_at h (lumps_in oldWad old) lumps place))
      (sym (same-game (game_in oldWad old) hexen game))
      (copies (record_size hexen place) (map_lump (lumps_in oldWad old) place) (map_lump lumps place) (omega (arith, sum, whole)))

-- the words that belong to a place are its changed records
listed : (hexen : Bool) (old new : List (List ℕ)) (rest : List ℕ) (place : ℕ) → 1 ≤ place → place ≤ 8
    → listed_at (change_counts hexen old new) (changes_in hexen old new ++ rest) place ≡ changes_at hexen old new place
listed hexen old new rest place low high =
    let here : place - 1 + 1 ≡ place = omega (arith, low) in
    row-found (λ i. changes_at hexen old new (i + 1)) 8 (place - 1) rest (omega (arith, low, high)) ∙ ap (changes_at hexen old new) here

-- ---- what a caller is handed

module _ (oldWad oldName newWad newName words list : List ℕ) (answer : DifferencesAnswer) (listThen : List ℕ) (zero : answer.status.number ≡ 0) where
  abbrev middle : List ℕ
  middle = words_after oldWad oldName words

  by_pair : (d old e new : ℕ) → verdict oldWad oldName words ≡ accepted d old → verdict newWad newName middle ≡ accepted e new
      → (c : Check) → pair_check oldWad old newWad new (length list) ≡ c
      → answer ≡ differences_out (pair_answer c (change_counts (game_in oldWad old) (lumps_in oldWad old) (lumps_in newWad new)))
      → listThen ≡ buffer_after c (change_list oldWad old newWad new) list → Handed oldWad oldName newWad newName words answer.counts listThen
  by_pair d old e new v w (Err r) p a l = refused-not r (sym (ap (λ (x : DifferencesAnswer). x.status.number) a) ∙ zero)
  by_pair d old e new v w (Ok _) p a l =
      let hexen = game_in oldWad old in
      let room = unless (leb (length (change_list oldWad old newWad new)) (length list)) DifferenceRoom in
      let game =
      unless_pass (same_game hexen (game_in newWad new)) DifferenceGames
      (and_then_pass (unless (same_game hexen (game_in newWad new)) DifferenceGames) room p).0 in
      let rest = drop (length (change_list oldWad old newWad new)) list in
      record {
        old_depth = d;
        old = old;
        new_depth = e;
        new = new;
        old_accepted = v;
        new_accepted = w;
        one_game = game;
        copies = λ place low high.
            subst (Copies (record_size hexen place) (map_lump (lumps_in oldWad old) place) (map_lump (lumps_in newWad new) place))
            (sym (listed hexen (lumps_in oldWad old) (lumps_in newWad new) rest place low high)
            ∙ (λ i. listed_at (sym (ap (λ (x : DifferencesAnswer). x.counts) a) i) (sym l i) place))
            (changes_copy oldWad newWad newName middle e old new w game place low high);
      }

  by-verdicts : (v w : Verdict) → verdict oldWad oldName words ≡ v → verdict newWad newName middle ≡ w
      → answer ≡ differences_out (differences_by v w oldWad newWad (length list)) → listThen ≡ list_by v w oldWad newWad list
      → Handed oldWad oldName newWad newName words answer.counts listThen
  by-verdicts (Err r) w p q a l = refused-not r (sym (ap (λ (x : DifferencesAnswer). x.status.number) a) ∙ zero)
  by-verdicts (Ok old) (Err r) p q a l = refused-not r (sym (ap (λ (x : DifferencesAnswer). x.status.number) a) ∙ zero)
  by-verdicts (Ok old) (Ok new) p q a l =
      by_pair old.depth old.marker new.depth new.marker p q (pair_check oldWad old.marker newWad new.marker (length list)) refl a l

pub differences_hold : DifferencesHold
differences_hold oldWad oldName newWad newName words list answer wordsThen listThen given zero =
    by-verdicts oldWad oldName newWad newName words list answer listThen zero (verdict oldWad oldName words)
    (verdict newWad newName (words_after oldWad oldName words)) refl refl given.answers given.lists
