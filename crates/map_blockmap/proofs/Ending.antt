-- Laws of BLOCKMAP's lists: one word more from the end, and what the pass over them notes. Assumes nothing.
use Prim.Native.Nat.{ℕ, zero, suc, ◌+◌, ◌-◌, ◌%◌, ◌≤◌, ◌<◌}
use mathlib.Core.Bool.{Bool, true, false, ◌&&◌, ◌||◌, cond, and-false, and-eq-true_iff}
use mathlib.Core.List.{List, [], ◌∷◌}
use mathlib.Core.Logic.{⊎_elim}
use mathlib.Core.Path.{◌≡◌, refl, sym, ap, ◌∙◌}
use native.Mathlib.Nat.{eq-or-lt_of_le}
use native.Mathlib.Omega.{arith}
use borrow.Author.Tests.{le-leb, lt-leb, lt-ltb, le-ltb, leb-true}
use lib.Dec.{leb, ltb, eqb}
use lib.ListN.{length, get_or, set}
use lib.Seq.{get_or-set_same, get_or-set_other}
use Rattle.map_blockmap.specs.Blockmap.{word_count, word_at, cells_of, side_ok, header_ok, list_end, list_ends, numbers_from, all_under, list_ok}
use Rattle.map_blockmap.specs.Notes.{ends_well, NotedFrom}

module _ (lump : List ℕ) (linedefs : ℕ) where
  -- a list at word `w` ends well if the mark is there, or a linedef before a place that ends well
  abbrev pub ends : ℕ → Bool → Bool
  ends w after = cond (eqb w 65535) true (ltb w linedefs && after)

  nothing : ends_well lump linedefs 0 ≡ false
  unfolding ends_well
  nothing = refl

  pub ends_well-none : (n : ℕ) → word_count lump ≤ n → ends_well lump linedefs (word_count lump - n) ≡ false
  ends_well-none n h = let z : word_count lump - n ≡ 0 = omega arith in ap (ends_well lump linedefs) z ∙ nothing

  step : (left : ℕ)
      → ends_well lump linedefs (suc left) ≡ ends (word_at lump (word_count lump - suc left)) (ends_well lump linedefs left)
  unfolding ends_well
  step left = refl

  -- from the place after `at` to `at` itself
  pub ends_well-more : (at : ℕ) {w : ℕ} {after r : Bool} → at < word_count lump → w ≡ word_at lump at
      → after ≡ ends_well lump linedefs (word_count lump - suc at) → r ≡ ends w after → r ≡ ends_well lump linedefs (word_count lump - at)
  ends_well-more at h e q t =
      let left : word_count lump - at ≡ suc (word_count lump - suc at) = omega arith in
      let place : word_count lump - suc (word_count lump - suc at) ≡ at = omega arith in
      t ∙ (λ i. ends (e i) (q i))
      ∙ ap (λ (n : ℕ). ends (word_at lump n) (ends_well lump linedefs (word_count lump - suc at))) (sym place)
      ∙ sym (step (word_count lump - suc at)) ∙ sym (ap (ends_well lump linedefs) left)

  -- the pass tells whether the mark comes, and every number before it is below `linedefs`
  both_by : (b : Bool) (w : ℕ) (end all : Bool) (rest : List ℕ) → all ≡ all_under linedefs rest
      → cond b true (ltb w linedefs && (end && all)) ≡ ((b || end) && all_under linedefs (cond b [] (w ∷ rest)))
  both_by true w end all rest e = refl
  both_by false w end all rest e = swap (ltb w linedefs) end ∙ ap (λ (a : Bool). end && (ltb w linedefs && a)) e
    where
      swap : (a b : Bool) → (a && (b && all)) ≡ (b && (a && all))
      swap true b = refl
      swap false true = refl
      swap false false = refl

  pub ends_well-list : (left : ℕ) → ends_well lump linedefs left ≡ (list_ends lump left && all_under linedefs (numbers_from lump left))
  unfolding ends_well list_ends numbers_from
  ends_well-list zero = refl
  ends_well-list (suc left) =
      let w = word_at lump (word_count lump - suc left) in
      ap (λ (b : Bool). cond (eqb w list_end) true (ltb w linedefs && b)) (ends_well-list left)
      ∙ both_by (eqb w list_end) w (list_ends lump left) (all_under linedefs (numbers_from lump left)) (numbers_from lump left) refl

  -- a place noted before those that are noted already
  pub noted_more : (at top : ℕ) (notes : List Bool) {b : Bool} → at < length notes
      → b ≡ ends_well lump linedefs (word_count lump - at)
      → NotedFrom lump linedefs (suc at) top notes → NotedFrom lump linedefs at top (set notes at b)
  noted_more at top notes {b} h q rest i low high =
      ⊎_elim
      (λ (same : at ≡ i).
      ap (λ (k : ℕ). get_or (set notes at b) k false) (sym same) ∙ get_or-set_same notes at b false h ∙ q
      ∙ ap (λ (k : ℕ). ends_well lump linedefs (word_count lump - k)) same)
      (λ (later : at < i).
      get_or-set_other notes at i b false (λ (same : i ≡ at). omega arith) ∙ rest i later high)
      (eq-or-lt_of_le low)

-- ---- a cell's list, by where its offset lies

module _ (lump : List ℕ) (linedefs offset : ℕ) where
  pub list_ok-low : offset < 4 + cells_of lump → list_ok lump linedefs offset ≡ false
  list_ok-low h = rw (lt-leb (4 + cells_of lump) offset h)

  pub list_ok-past : word_count lump ≤ offset → list_ok lump linedefs offset ≡ false
  list_ok-past h = rw (le-ltb offset (word_count lump) h, and-false (leb (4 + cells_of lump) offset))

  -- where the notes say whether the words after the leading 0 end well
  pub list_ok-noted : {w : ℕ} {v : Bool} → 4 + cells_of lump ≤ offset → offset < word_count lump → w ≡ word_at lump offset
      → v ≡ ends_well lump linedefs (word_count lump - (offset + 1)) → (eqb w 0 && v) ≡ list_ok lump linedefs offset
  list_ok-noted low high e q =
      (λ i. eqb (e i) 0 && q i)
      ∙ rw (ends_well-list lump linedefs (word_count lump - (offset + 1)), le-leb (4 + cells_of lump) offset low, lt-ltb offset (word_count lump) high)

-- ---- a good header

pub header-long : (lump : List ℕ) → header_ok lump ≡ true → 8 ≤ length lump
header-long lump e =
    let long = leb 8 (length lump) in
    let even = eqb (length lump % 2) 0 in
    let p = ((and-eq-true_iff (long && even && side_ok (word_at lump 2) && side_ok (word_at lump 3)) (leb (4 + cells_of lump) (word_count lump))).0 e).0 in
    let q = ((and-eq-true_iff (long && even && side_ok (word_at lump 2)) (side_ok (word_at lump 3))).0 p).0 in
    let r = ((and-eq-true_iff (long && even) (side_ok (word_at lump 2))).0 q).0 in
    leb-true 8 (length lump) ((and-eq-true_iff long even).0 r).0

pub header-inside : (lump : List ℕ) → header_ok lump ≡ true → 4 + cells_of lump ≤ word_count lump
header-inside lump e =
    leb-true (4 + cells_of lump) (word_count lump)
    ((and-eq-true_iff (leb 8 (length lump) && eqb (length lump % 2) 0 && side_ok (word_at lump 2) && side_ok (word_at lump 3)) (leb (4 + cells_of lump) (word_count lump))).0 e).1
