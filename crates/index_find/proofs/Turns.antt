-- The rule of halves as a loop turns: its fuel does not matter where it is enough, and one comparison leaves a
-- smaller search. Assumes nothing.
use Prim.Native.Nat.{ℕ, zero, suc, ◌+◌, ◌-◌, ◌/◌, ◌≤◌, ◌<◌}
use mathlib.Core.Bool.{Bool, true, false, cond}
use mathlib.Core.Path.{◌≡◌, refl, sym, ap, ◌∙◌}
use native.Mathlib.Omega.{arith}
use borrow.Author.Tests.{ne_eqb}
use lib.Dec.{eqb}
use Rattle.std.specs.Bool.{then_some}
use Rattle.std.specs.Prelude.{List, Ok, Err, ⊤, MatchOption}
use Rattle.refusal.specs.declared.Refusal.{Refusal}
use Rattle.refusal.specs.declared.Refusal.TheVariants.{EntryMissing}
use Rattle.refusal.specs.Checks.{Check, unless, ◌and_then◌}
use Rattle.refusal.proofs.Checks.{refused-same}
use Rattle.wad.specs.declared.map.MarkerSearch.{MarkerSearch}
use Rattle.wad.specs.Map.{searched}
use Rattle.index_find.specs.Finding.{is_equal, number_in, believed, last_past, past_by, compared_by}
use Rattle.index_find.specs.Inner.{last_if, entry_of}
use Rattle.index_find.proofs.Halving.{past-none, past-step, compared_none, compared_step}

module _ (low : ℕ → Bool) where
  -- ---- nothing is left

  pub past-empty : (fuel past : ℕ) → past_by low fuel past 0 ≡ past
  past-empty zero past = past-none low past 0
  past-empty (suc fuel) past = past-step low fuel past 0

  pub compared_empty : (fuel past : ℕ) → compared_by low fuel past 0 ≡ 0
  compared_empty zero past = compared_none low past 0
  compared_empty (suc fuel) past = compared_step low fuel past 0

  -- ---- enough fuel

  past_fuel : (f g past left : ℕ) → left ≤ f → left ≤ g → past_by low f past left ≡ past_by low g past left
  past_fuel zero g past left h k =
      let none : left ≡ 0 = omega arith in rw none (past-empty zero past ∙ sym (past-empty g past))
  past_fuel (suc f) zero past left h k =
      let none : left ≡ 0 = omega arith in rw none (past-empty (suc f) past ∙ sym (past-empty zero past))
  past_fuel (suc f) (suc g) past left h k =
      let after = past_fuel f g (past + left / 2 + 1) (left - left / 2 - 1) (omega arith) (omega arith) in
      let before = past_fuel f g past (left / 2) (omega arith) (omega arith) in
      past-step low f past left ∙ (λ i. cond (eqb left 0) past (cond (low (past + left / 2)) (after i) (before i)))
      ∙ sym (past-step low g past left)

  compared_fuel : (f g past left : ℕ) → left ≤ f → left ≤ g → compared_by low f past left ≡ compared_by low g past left
  compared_fuel zero g past left h k =
      let none : left ≡ 0 = omega arith in rw none (compared_empty zero past ∙ sym (compared_empty g past))
  compared_fuel (suc f) zero past left h k =
      let none : left ≡ 0 = omega arith in rw none (compared_empty (suc f) past ∙ sym (compared_empty zero past))
  compared_fuel (suc f) (suc g) past left h k =
      let after = compared_fuel f g (past + left / 2 + 1) (left - left / 2 - 1) (omega arith) (omega arith) in
      let before = compared_fuel f g past (left / 2) (omega arith) (omega arith) in
      compared_step low f past left ∙ (λ i. cond (eqb left 0) 0 (suc (cond (low (past + left / 2)) (after i) (before i))))
      ∙ sym (compared_step low g past left)

  -- ---- a search of `left` records from `past` on, after `compared` comparisons, is that of `count`

  pub record Searching (count past left compared : ℕ) : Type 0 where
    pub room : past + left ≤ count
    pub few : compared + left ≤ count
    pub goes : past_by low count 0 count ≡ past_by low left past left
    pub counts : compared_by low count 0 count ≡ compared + compared_by low left past left

  module _ {count past left compared : ℕ} (s : Searching count past left compared) (some : 0 < left) where
    is_some : eqb left 0 ≡ false
    is_some = ne_eqb left 0 (λ e. absurd (omega arith))

    -- the record behind half of them is not above: the search goes on after it
    pub searching_after : low (past + left / 2) ≡ true → Searching count (past + left / 2 + 1) (left - left / 2 - 1) (compared + 1)
    searching_after e =
        let room = s.room in
        let few = s.few in
        let rest = past_fuel (left - 1) (left - left / 2 - 1) (past + left / 2 + 1) (left - left / 2 - 1) (omega arith) (omega arith) in
        let more = compared_fuel (left - 1) (left - left / 2 - 1) (past + left / 2 + 1) (left - left / 2 - 1) (omega arith) (omega arith) in
        let step : compared_by low left past left ≡ suc (compared_by low (left - left / 2 - 1) (past + left / 2 + 1) (left - left / 2 - 1)) =
        compared_fuel left (suc (left - 1)) past left (omega arith) (omega arith) ∙ compared_step low (left - 1) past left ∙ rw (is_some, e) (ap suc more) in
        record {
          room = omega arith;
          few = omega arith;
          goes =
              s.goes ∙ past_fuel left (suc (left - 1)) past left (omega arith) (omega arith) ∙ past-step low (left - 1) past left
              ∙ rw (is_some, e) rest;
          counts = omega (arith, s.counts, step);
        }

    -- it is above: before it
    pub searching_before : low (past + left / 2) ≡ false → Searching count past (left / 2) (compared + 1)
    searching_before e =
        let room = s.room in
        let few = s.few in
        let rest = past_fuel (left - 1) (left / 2) past (left / 2) (omega arith) (omega arith) in
        let more = compared_fuel (left - 1) (left / 2) past (left / 2) (omega arith) (omega arith) in
        let step : compared_by low left past left ≡ suc (compared_by low (left / 2) past (left / 2)) =
        compared_fuel left (suc (left - 1)) past left (omega arith) (omega arith) ∙ compared_step low (left - 1) past left ∙ rw (is_some, e) (ap suc more) in
        record {
          room = omega arith;
          few = omega arith;
          goes =
              s.goes ∙ past_fuel left (suc (left - 1)) past left (omega arith) (omega arith) ∙ past-step low (left - 1) past left
              ∙ rw (is_some, e) rest;
          counts = omega (arith, s.counts, step);
        }

  -- none is left
  pub searching_done : {count past left compared : ℕ} → Searching count past left compared → left ≡ 0
      → (past ≡ past_by low count 0 count) × (compared ≡ compared_by low count 0 count)
  searching_done {count} {past} {left} {compared} s e =
      let none : compared_by low left past left ≡ 0 = rw e (compared_empty 0 past) in
      (sym (s.goes ∙ rw e (past-empty 0 past)), omega (arith, s.counts, none))

-- ---- the last record gone past

pub last_more : (test : ℕ → Bool) (i : ℕ) → then_some (test i) i ≡ last_if test (i + 1)
last_more test i = let e : suc i ≡ i + 1 = omega arith in ap (last_if test) e

-- it is one of those gone past
pub last_within : (test : ℕ → Bool) (past count : ℕ) → past ≤ count → MatchOption (last_if test past) ⊤ (λ i. i < count)
last_within test zero count h = tt
last_within test (suc i) count h = by (test i)
  where
    by : (b : Bool) → MatchOption (then_some b i) ⊤ (λ i. i < count)
    by true = h
    by false = tt

-- ---- what is answered

-- the entry that the last one leads to
pub entry_last : (dir : List ℕ) (count : ℕ) (index name : List ℕ) (past : ℕ)
    → entry_of dir count index name (last_if (is_equal index name) past) ≡ last_past dir count index name past
entry_last dir count index name zero = refl
entry_last dir count index name (suc i) = by (is_equal index name i)
  where
    by : (b : Bool) → entry_of dir count index name (then_some b i) ≡ cond b (believed dir count name (number_in index i)) (Err EntryMissing)
    by true = refl
    by false = refl

-- a refusal before any name is compared
pub nothing_compared : (h : Check) (b : Bool) (search : MarkerSearch) {r : Refusal} → h and_then unless b EntryMissing ≡ Err r
    → ◌≡◌ {A = MarkerSearch} (record { marker = Err r; compared = 0 }) (searched h (cond b search (record { marker = Err EntryMissing; compared = 0 })))
nothing_compared (Ok _) true s e = let z : ◌≡◌ {A = ℕ} 0 1 = cc in absurd (omega arith)
nothing_compared (Ok _) false s e = sym (ap (λ (r : Refusal). record { marker = Err r; compared = 0 }) (refused-same e))
nothing_compared (Err _) b s e = sym (ap (λ (r : Refusal). record { marker = Err r; compared = 0 }) (refused-same e))
