-- What is answered of two accepted maps, by the two tests. Assumes nothing.
use Rattle.std.proofs.Common.{ℕ, ◌+◌, ◌≤◌, Bool, true, false, List, ◌≡◌, refl, leb, sym, ap, ◌∙◌, length, arith}
use Rattle.std.specs.Prelude.{sum, Result, Ok, Err}
use Rattle.refusal.specs.declared.Refusal.{Refusal}
use Rattle.refusal.specs.Checks.{Check}
use Rattle.layout.specs.Buffers.{buffer_after}
use mathlib.Core.Bool.{beq}
use borrow.Author.Tests.{not-true, leb-true}
use Rattle.refusal.proofs.Checks.{unless_pass}
use Rattle.refusal.specs.Checks.{unless, ◌and_then◌}
use Rattle.refusal.specs.declared.Refusal.TheVariants.{DifferenceRoom, DifferenceGames}
use Rattle.difference.specs.Inner.Changes.{begun_with}
use Rattle.std.proofs.Math.Nat.{le_trans}
use Rattle.difference.specs.Differences.{changes_at, changes_in, change_counts, change_list, game_in, lumps_in, same_game, pair_check, pair_answer, differences_by, list_by, words_then_by, Differ}
use Rattle.map_check.specs.Verdict.{accepted, verdict, words_after}
use Rattle.difference.specs.declared.CompareError.{CompareError}
use Rattle.difference.specs.declared.CompareError.TheVariants.{Both}
use Rattle.difference.specs.Inner.Lumps.{Numbered, counted_if, Compared}
use Rattle.difference.proofs.Lumps.{sum_eight, eight-most, length_eight}
use Rattle.difference.proofs.Laying.{laid_few}
use Rattle.difference.proofs.Comparing.{number-few}
use Rattle.record_table.specs.Lumps.{record_size}
use Rattle.map_lumps.specs.Lumps.{map_lump}

pub same-game : (a b : Bool) → same_game a b ≡ true → a ≡ b
same-game true b e = sym e
same-game false b e = sym (not-true b e)

beq_same : (a b : Bool) → beq a b ≡ same_game a b
beq_same true true = refl
beq_same true false = refl
beq_same false true = refl
beq_same false false = refl

-- the counts' sum is the list's length
pub counted-sum : (hexen : Bool) (old new : List (List ℕ)) → sum (change_counts hexen old new) ≡ length (changes_in hexen old new)
counted-sum hexen old new =
    sum_eight (λ i. length (changes_at hexen old new (i + 1))) ∙ sym (length_eight (λ i. changes_at hexen old new (i + 1)))

-- and no large number
pub counted-few : (hexen : Bool) (old new : List (List ℕ)) → Numbered hexen new → sum (change_counts hexen old new) ≤ 524280
counted-few hexen old new h =
    omega (
      arith,
      sum_eight (λ i. length (changes_at hexen old new (i + 1))),
      eight-most (λ i. length (changes_at hexen old new (i + 1))) 65535
          (λ i l. le_trans (laid_few _ _ (number-few (record_size hexen (i + 1)) (map_lump old (i + 1)) (map_lump new (i + 1)))) (h (i + 1) (omega arith) (omega arith))),
    )

module _ (oldWad : List ℕ) (old : ℕ) (newWad : List ℕ) (new : ℕ) (list : List ℕ) where
  -- what is answered by the check of both
  pub compared : {answer : Result (List ℕ) Refusal} {listThen : List ℕ} (check : Check) → pair_check oldWad old newWad new (length list) ≡ check
      → answer ≡ counted_if check (change_counts (game_in oldWad old) (lumps_in oldWad old) (lumps_in newWad new))
      → listThen ≡ buffer_after check (change_list oldWad old newWad new) list → Compared oldWad old newWad new list answer listThen
  compared check e a l =
      let counts = change_counts (game_in oldWad old) (lumps_in oldWad old) (lumps_in newWad new) in
      record {
        answers = a ∙ ap (λ (c : Check). counted_if c counts) (sym e);
        lists = l ∙ ap (λ (c : Check). buffer_after c (change_list oldWad old newWad new) list) (sym e);
      }

  -- the counts of all
  abbrev pub counts : List ℕ
  counts = change_counts (game_in oldWad old) (lumps_in oldWad old) (lumps_in newWad new)

  abbrev games : Bool
  games = same_game (game_in oldWad old) (game_in newWad new)

  abbrev room : Bool
  room = leb (length (change_list oldWad old newWad new)) (length list)

  module _ {a b : Bool} (p : a ≡ game_in oldWad old) (q : b ≡ game_in newWad new) where
    tested : beq a b ≡ games
    tested = (λ i. beq (p i) (q i)) ∙ beq_same (game_in oldWad old) (game_in newWad new)

    -- 76
    pub refused-games : {answer : Result (List ℕ) Refusal} {r : Refusal} → ◌≡◌ {A = Check} (Err r) (unless (beq a b) DifferenceGames) → answer ≡ Err r
        → Compared oldWad old newWad new list answer list
    refused-games {r = r} e w =
        let first : unless games DifferenceGames ≡ Err r = ap (λ (t : Bool). unless t DifferenceGames) (sym tested) ∙ sym e in
        compared (Err r) (ap (λ (c : Check). c and_then unless room DifferenceRoom) first) w refl

    module _ (e : ◌≡◌ {A = Check} (Ok tt) (unless (beq a b) DifferenceGames)) where
      alike : games ≡ true
      alike = sym tested ∙ unless_pass (beq a b) DifferenceGames (sym e)

      pub one-game : game_in oldWad old ≡ game_in newWad new
      one-game = same-game (game_in oldWad old) (game_in newWad new) alike

      module _ {t : ℕ} (s : t ≡ sum counts) where
        total-is : leb t (length list) ≡ room
        total-is = ap (λ (n : ℕ). leb n (length list)) (s ∙ counted-sum (game_in oldWad old) (lumps_in oldWad old) (lumps_in newWad new))

        -- 75
        pub refused-room : {answer : Result (List ℕ) Refusal} {r : Refusal} → ◌≡◌ {A = Check} (Err r) (unless (leb t (length list)) DifferenceRoom) → answer ≡ Err r
            → Compared oldWad old newWad new list answer list
        refused-room {r = r} f w =
            compared (Err r) (ap (λ (g : Bool). unless g DifferenceGames and_then unless room DifferenceRoom) alike ∙ ap (λ (g : Bool). unless g DifferenceRoom) (sym total-is) ∙ sym f) w refl

        module _ (f : ◌≡◌ {A = Check} (Ok tt) (unless (leb t (length list)) DifferenceRoom)) where
          pub fits : length (change_list oldWad old newWad new) ≤ length list
          fits = leb-true _ _ (sym total-is ∙ unless_pass (leb t (length list)) DifferenceRoom (sym f))

          pub all-listed : {answer : Result (List ℕ) Refusal} {listThen : List ℕ} → answer ≡ Ok counts → listThen ≡ begun_with (change_list oldWad old newWad new) list
              → Compared oldWad old newWad new list answer listThen
          all-listed w l =
              compared (Ok tt) (ap (λ (g : Bool). unless g DifferenceGames and_then unless room DifferenceRoom) alike ∙ ap (λ (g : Bool). unless g DifferenceRoom) (sym total-is) ∙ sym f) w l

-- ---- the answer to both files

unfoldable pub lifted : Result (List ℕ) Refusal → Result (List ℕ) CompareError
lifted (Ok all) = Ok all
lifted (Err r) = Err (Both r)

pub lifted-ok : {x : Result (List ℕ) Refusal} {all : List ℕ} → x ≡ Ok all → ◌≡◌ {A = Result (List ℕ) CompareError} (Ok all) (lifted x)
unfolding lifted
lifted-ok e = ap lifted (sym e)

pub lifted-err : {x : Result (List ℕ) Refusal} {r : Refusal} → x ≡ Err r → ◌≡◌ {A = Result (List ℕ) CompareError} (Err (Both r)) (lifted x)
unfolding lifted
lifted-err e = ap lifted (sym e)

lifted-counted : (check : Check) (all : List ℕ) → lifted (counted_if check all) ≡ pair_answer check all
unfolding lifted
lifted-counted (Ok _) all = refl
lifted-counted (Err r) all = refl

pub differ : (oldWad oldName newWad newName words list : List ℕ) {d old e new : ℕ} {middle : List ℕ} → middle ≡ words_after oldWad oldName words
    → verdict oldWad oldName words ≡ accepted d old → verdict newWad newName middle ≡ accepted e new
    → {x : Result (List ℕ) Refusal} {answer : Result (List ℕ) CompareError} {wordsThen listThen : List ℕ} → Compared oldWad old newWad new list x listThen
    → answer ≡ lifted x → wordsThen ≡ words_after newWad newName middle
    → Differ oldWad oldName newWad newName words list answer wordsThen listThen
differ oldWad oldName newWad newName words list {d} {old} {e} {new} {middle} m p q t a w =
    let r : verdict newWad newName (words_after oldWad oldName words) ≡ accepted e new = ap (verdict newWad newName) (sym m) ∙ q in
    let all = change_counts (game_in oldWad old) (lumps_in oldWad old) (lumps_in newWad new) in
    record {
      answers = a ∙ ap lifted t.answers ∙ lifted-counted (pair_check oldWad old newWad new (length list)) all
          ∙ (λ i. differences_by (sym p i) (sym r i) oldWad newWad (length list));
      leaves = w ∙ ap (words_after newWad newName) m ∙ (λ i. words_then_by (sym p i) newWad newName (words_after oldWad oldName words));
      lists = t.lists ∙ (λ i. list_by (sym p i) (sym r i) oldWad newWad list);
    }
