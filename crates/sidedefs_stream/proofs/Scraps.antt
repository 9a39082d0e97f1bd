-- Laws of feeding: two scraps are one, a full state stays, and a scrap that does not begin inside a sector in one stroke, by
-- the first sector that is not there. Assumes nothing.
use Prim.Native.Nat.{ℕ, zero, suc, ◌+◌, ◌-◌, ◌*◌, ◌/◌, ◌%◌, ◌≤◌, ◌<◌}
use mathlib.Core.Bool.{Bool, true, false, not, ◌&&◌, ◌||◌, cond, or-false}
use mathlib.Core.List.{List, [], ◌∷◌, ◌++◌}
use mathlib.Core.Logic.{⊎_elim}
use mathlib.Core.Path.{◌≡◌, refl, sym, ap, subst, ◌∙◌}
use native.Mathlib.Nat.{eq-or-lt_of_le}
use native.Mathlib.Numerals.{add-one}
use native.Mathlib.Omega.{arith}
use borrow.Author.Tests.{lt-ltb, le-ltb, le-leb, lt-leb, eq-eqb, ne_eqb, eqb-true, ltb-true, ltb-false}
use lib.Dec.{leb, ltb, eqb}
use lib.ListN.{length, get_or, take, drop, take-append-drop}
use lib.Seq.{take_all, take-length, drop-length, drop-cons}
use Rattle.endian.specs.Unsigned.{u16_at}
use Rattle.sidedefs_stream.specs.declared.Stream.{Stream}
use Rattle.wad.specs.Header.{most_bytes}
use Rattle.sidedefs_stream.specs.Scraps.{bad_at, byte_counted, noted, step_of, fed}
use Rattle.sidedefs_stream.specs.Inner.{Low, FirstBad, low_after}

-- ---- any state

pub fed-none : (s : Stream) → fed s [] ≡ s
unfolding fed
fed-none s = refl

pub fed_cons : (s : Stream) (byte : ℕ) (scrap : List ℕ) → fed s (byte ∷ scrap) ≡ fed (step_of s byte) scrap
unfolding fed
fed_cons s byte scrap = refl

-- two scraps are one
pub fed_append : (s : Stream) (xs ys : List ℕ) → fed s (xs ++ ys) ≡ fed (fed s xs) ys
unfolding fed
fed_append s [] ys = refl
fed_append s (x ∷ xs) ys = fed_append (step_of s x) xs ys

pub step-full : (s : Stream) (byte : ℕ) → most_bytes < s.bytes → step_of s byte ≡ s
step-full s byte h = rw (lt-ltb most_bytes s.bytes h)

-- past the most bytes a state stays as it is
pub fed-full : (s : Stream) (scrap : List ℕ) → most_bytes < s.bytes → fed s scrap ≡ s
fed-full s [] h = fed-none s
fed-full s (x ∷ xs) h = rw (fed_cons s x xs, step-full s x h) (fed-full s xs h)

-- so that no more of a scrap matters than fills it
pub fed-cut : (s : Stream) (scrap : List ℕ) (n : ℕ) → (n < length scrap → most_bytes < (fed s (take n scrap)).bytes)
    → fed s (take n scrap) ≡ fed s scrap
fed-cut s scrap n h = by (ltb n (length scrap)) refl
  where
    by : (b : Bool) → ltb n (length scrap) ≡ b → fed s (take n scrap) ≡ fed s scrap
    by true e =
        sym
        (ap (fed s) (sym (take-append-drop n scrap))
        ∙ fed_append s (take n scrap) (drop n scrap)
        ∙ fed-full (fed s (take n scrap)) (drop n scrap) (h (ltb-true n (length scrap) e)))
    by false e = ap (fed s) (take_all n scrap (ltb-false n (length scrap) e))

-- a byte while there is room
pub step_room : (s : Stream) (byte : ℕ) → s.bytes ≤ most_bytes → step_of s byte ≡ byte_counted (noted s (bad_at s byte)) byte
step_room s byte h = rw (le-ltb most_bytes s.bytes h)

-- the high byte of a sector
abbrev pub completed : Stream → Bool → Stream
completed s bad =
    record {
      sectors = s.sectors;
      bytes = s.bytes + 1;
      bad = cond (bad && not s.found) (s.bytes / 30) s.bad;
      low = 0;
      found = s.found || bad;
    }

pub step-high : (s : Stream) (byte : ℕ) → s.bytes ≤ most_bytes → s.bytes % 30 ≡ 29
    → step_of s byte ≡ completed s (leb s.sectors (s.low + 256 * byte))
step-high s byte room high =
    step_room s byte room ∙ rw (eq-eqb (s.bytes % 30) 29 high, ne_eqb (s.bytes % 30) 28 (λ e. absurd (omega (arith, e, high))))

-- a scrap of no bytes, and one by its first
pub fed-empty : (s : Stream) (scrap : List ℕ) → length scrap ≡ 0 → s ≡ fed s scrap
fed-empty s [] h = sym (fed-none s)
fed-empty s (x ∷ xs) h = absurd (omega (arith, h))

pub fed-first : (s : Stream) (scrap : List ℕ) → 0 < length scrap
    → fed (step_of s (get_or scrap 0 0)) (take (length scrap - 1) (drop 1 scrap)) ≡ fed s scrap
fed-first s [] h = absurd (omega (arith, h))
fed-first s (x ∷ xs) h =
    let e : suc (length xs) - 1 ≡ length xs = omega arith in
    rw e (ap (fed (step_of s x)) (take-length xs) ∙ sym (fed_cons s x xs))

-- ---- a scrap in one stroke

-- from one sector to the next
pub good_more : (sectors bytes : ℕ) (scrap : List ℕ) (place : ℕ) → Low bytes place
    → ((k : ℕ) → Low bytes k → k < place → u16_at scrap k < sectors) → u16_at scrap place < sectors
    → (k : ℕ) → Low bytes k → k < place + 30 → u16_at scrap k < sectors
good_more sectors bytes scrap place low before here k lowK h = by (ltb k place) refl
  where
    by : (b : Bool) → ltb k place ≡ b → u16_at scrap k < sectors
    by true e = before k lowK (ltb-true k place e)
    by false e =
        let past = ltb-false k place e in
        let same : place ≡ k = omega (arith, past, low, lowK, h) in
        subst (λ (j : ℕ). u16_at scrap j < sectors) same here

pub low-last : (low bytes : ℕ) (scrap : List ℕ) (n : ℕ) → 0 < n
    → low_after low bytes scrap n ≡ cond (eqb ((bytes + (n - 1)) % 30) 28) (get_or scrap (n - 1) 0) 0
low-last low bytes scrap zero h = absurd (omega arith)
low-last low bytes scrap (suc k) h = let e : suc k - 1 ≡ k = omega arith in rw e

-- the record noted and the finding, after a byte (`bad`) behind others (`before`), against those of all (`after`)
record Noted (found bad before after : Bool) (here there old : ℕ) : Type 0 where
  finds : ((found || before) || bad) ≡ (found || after)
  notes : cond (bad && not (found || before)) here (cond (before && not found) there old) ≡ cond (after && not found) there old

noted-found : (bad before after : Bool) (here there old : ℕ) → Noted true bad before after here there old
noted-found bad before after here there old = by bad before after
  where
    by : (bad before after : Bool) → Noted true bad before after here there old
    by true true true = record { finds = refl; notes = refl }
    by true true false = record { finds = refl; notes = refl }
    by true false true = record { finds = refl; notes = refl }
    by true false false = record { finds = refl; notes = refl }
    by false true true = record { finds = refl; notes = refl }
    by false true false = record { finds = refl; notes = refl }
    by false false true = record { finds = refl; notes = refl }
    by false false false = record { finds = refl; notes = refl }

noted-later : (bad : Bool) (here there old : ℕ) → Noted false bad true true here there old
noted-later true here there old = record { finds = refl; notes = refl }
noted-later false here there old = record { finds = refl; notes = refl }

module _ (s : Stream) (scrap : List ℕ) (place : ℕ) where
  -- the state behind the first `k` bytes
  abbrev pub state_at : ℕ → Stream
  state_at k =
      record {
        sectors = s.sectors;
        bytes = s.bytes + k;
        bad = cond (ltb (place + 1) k && not s.found) ((s.bytes + place) / 30) s.bad;
        low = low_after s.low s.bytes scrap k;
        found = s.found || ltb (place + 1) k;
      }

  module _ (first : FirstBad s.found s.sectors s.bytes scrap place) (outside : s.bytes % 30 < 29) where
    -- before the first bad sector no byte completes a bad one
    good_at : (k : ℕ) → s.found ≡ false → k < place + 1 → bad_at (state_at k) (get_or scrap k 0) ≡ false
    good_at zero f h = let n : s.bytes + 0 ≡ s.bytes = omega arith in rw (ne_eqb ((s.bytes + 0) % 30) 29 (λ e. absurd (omega (arith, e, n, outside))))
    good_at (suc k) f h = by (eqb ((s.bytes + suc k) % 30) 29) refl
      where
        by : (b : Bool) → eqb ((s.bytes + suc k) % 30) 29 ≡ b
            → (b && leb s.sectors (low_after s.low s.bytes scrap (suc k) + 256 * get_or scrap (suc k) 0)) ≡ false
        by false e = refl
        by true e =
            let high = eqb-true ((s.bytes + suc k) % 30) 29 e in
            let low : (s.bytes + k) % 30 ≡ 28 = omega (arith, high) in
            let g = rw (add-one k) at (first.good f k low (omega arith)) in
            rw (eq-eqb ((s.bytes + k) % 30) 28 low) (lt-leb s.sectors (get_or scrap k 0 + 256 * get_or scrap (suc k) 0) (omega (arith, g)))

    -- the byte behind it does
    bad_at_lem : place + 1 < length scrap → bad_at (state_at (suc place)) (get_or scrap (suc place) 0) ≡ true
    bad_at_lem h =
        let b = first.bad h in
        let high : (s.bytes + suc place) % 30 ≡ 29 = omega (arith, b.0) in
        let g = (rw (add-one place) at b).1 in
        rw (eq-eqb ((s.bytes + suc place) % 30) 29 high, eq-eqb ((s.bytes + place) % 30) 28 b.0)
        (le-leb s.sectors (get_or scrap place 0 + 256 * get_or scrap (suc place) 0) g)

    -- so that the finding and the note of one byte more are those of `state_at`
    note_at : (k : ℕ) → k < length scrap
        → Noted s.found (bad_at (state_at k) (get_or scrap k 0)) (ltb (place + 1) k) (ltb (place + 1) (suc k)) ((s.bytes + k) / 30) ((s.bytes + place) / 30) s.bad
    note_at k inside = by s.found refl
      where
        At : Bool → Bool → Bool → Bool → Type 0
        At found bad before after = Noted found bad before after ((s.bytes + k) / 30) ((s.bytes + place) / 30) s.bad

        later : (f : s.found ≡ false) (b : Bool) → ltb (place + 1) k ≡ b → At false (bad_at (state_at k) (get_or scrap k 0)) b (ltb (place + 1) (suc k))
        later f true e =
            let h = ltb-true (place + 1) k e in
            rw (lt-ltb (place + 1) (suc k) (omega (arith, h))) (noted-later (bad_at (state_at k) (get_or scrap k 0)) ((s.bytes + k) / 30) ((s.bytes + place) / 30) s.bad)
        later f false e =
            let h = ltb-false (place + 1) k e in
            ⊎_elim
            (λ (q : k ≡ place + 1).
            let z : k ≡ suc place = omega (arith, q) in
            let b = first.bad (omega (arith, q, inside)) in
            let same : (s.bytes + k) / 30 ≡ (s.bytes + place) / 30 = omega (arith, q, b.0) in
            rw (
              ap (λ (j : ℕ). bad_at (state_at j) (get_or scrap j 0)) z ∙ bad_at_lem (omega (arith, q, inside)),
              lt-ltb (place + 1) (suc k) (omega (arith, q)),
            )
            (record { finds = refl; notes = same }))
            (λ (l : k < place + 1).
            rw (good_at k f l, le-ltb (place + 1) (suc k) (omega (arith, l))) (record { finds = refl; notes = refl }))
            (eq-or-lt_of_le h)

        by : (b : Bool) → s.found ≡ b → At b (bad_at (state_at k) (get_or scrap k 0)) (ltb (place + 1) k) (ltb (place + 1) (suc k))
        by true f = noted-found (bad_at (state_at k) (get_or scrap k 0)) (ltb (place + 1) k) (ltb (place + 1) (suc k)) ((s.bytes + k) / 30) ((s.bytes + place) / 30) s.bad
        by false f = later f (ltb (place + 1) k) refl

    step_at : (k : ℕ) → k < length scrap → s.bytes + k ≤ most_bytes → step_of (state_at k) (get_or scrap k 0) ≡ state_at (suc k)
    step_at k inside room =
        let n = note_at k inside in
        let more : s.bytes + k + 1 ≡ s.bytes + suc k = omega arith in
        step_room (state_at k) (get_or scrap k 0) room
        ∙ (λ i. record {
          sectors = s.sectors;
          bytes = more i;
          bad = n.notes i;
          low = low_after s.low s.bytes scrap (suc k);
          found = n.finds i;
        })

    from_at : (left k : ℕ) → k + left ≡ length scrap → s.bytes + length scrap ≤ most_bytes + 1
        → fed (state_at k) (drop k scrap) ≡ state_at (length scrap)
    from_at zero k h room =
        let e : k ≡ length scrap = omega (arith, h) in
        rw e (ap (fed (state_at (length scrap))) (drop-length scrap) ∙ fed-none (state_at (length scrap)))
    from_at (suc left) k h room =
        ap (fed (state_at k)) (drop-cons scrap k 0 (omega (arith, h)))
        ∙ fed_cons (state_at k) (get_or scrap k 0) (drop (suc k) scrap)
        ∙ ap (λ (t : Stream). fed t (drop (suc k) scrap)) (step_at k (omega (arith, h)) (omega (arith, h, room)))
        ∙ from_at left (suc k) (omega (arith, h)) room

    -- all of the scrap
    pub fed_scrap : s.bytes + length scrap ≤ most_bytes + 1 → fed s scrap ≡ state_at (length scrap)
    fed_scrap room =
        let none : ltb (place + 1) 0 ≡ false = le-ltb (place + 1) 0 (omega arith) in
        let here : s.bytes ≡ s.bytes + 0 = omega arith in
        let noBad : s.bad ≡ (state_at 0).bad = rw none in
        let start : s ≡ state_at 0 =
        λ i. record {
          sectors = s.sectors;
          bytes = here i;
          bad = noBad i;
          low = s.low;
          found = (sym (ap (λ (b : Bool). s.found || b) none ∙ or-false s.found)) i;
        } in
        ap (λ (t : Stream). fed t scrap) start ∙ from_at (length scrap) 0 (omega arith) room
