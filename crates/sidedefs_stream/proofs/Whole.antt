-- The theorems of specs/Whole: cuts leave the same state, and from the start's own state the verdict is the whole lump's. The
-- invariant goes byte by byte over the whole lump. Assumes nothing.
use Prim.Native.Nat.{ℕ, zero, suc, ◌+◌, ◌-◌, ◌*◌, ◌/◌, ◌%◌, ◌≤◌, ◌<◌}
use mathlib.Core.Bool.{Bool, true, false, not, ◌&&◌, ◌||◌, cond, and-true, or-false}
use mathlib.Core.List.{List, [], ◌∷◌, flatten}
use mathlib.Core.Path.{◌≡◌, refl, sym, ap, subst, ◌∙◌}
use native.Mathlib.Omega.{arith}
use borrow.Author.Tests.{lt-ltb, le-ltb, lt-leb, eq-eqb, eqb-true, eqb-false, ltb-true, ltb-false, leb-true, leb-false}
use lib.Dec.{leb, ltb, eqb}
use lib.ListN.{length, get_or, drop}
use lib.Seq.{drop-length, drop-cons}
use Rattle.refusal.specs.Checks.{Check}
use Rattle.refusal.specs.declared.Refusal.TheVariants.{RecordSize, RecordCount, SidedefReference}
use Rattle.refusal.specs.Checks.{unless, ◌and_then◌, each}
use Rattle.refusal.proofs.Checks.{each_none}
use Rattle.endian.specs.Unsigned.{u16_at}
use Rattle.record_field.proofs.Records.{u16_at-record_bytes}
use Rattle.map_reference.specs.References.{sidedef_check}
use Rattle.map_lumps.specs.Sizes.{size_check}
use Rattle.sidedefs_stream.specs.declared.Stream.{Stream}
use Rattle.wad.specs.Header.{most_bytes}
use Rattle.sidedefs_stream.specs.Scraps.{started, bad_at, byte_counted, noted, step_of, fed, records_check, total_check, sectors_check, stream_verdict}
use Rattle.sidedefs_stream.specs.Whole.{lumps_with, lump_check, fed_all, VerdictWhole, CutsAlike, TotalStops}
use Rattle.sidedefs_stream.proofs.Scraps.{fed-none, fed_cons, fed_append}

-- ---- cuts

-- scraps are fed as their bytes in a row are
pub fed_all-flatten : (s : Stream) (scraps : List (List ℕ)) → fed_all s scraps ≡ fed s (flatten scraps)
unfolding flatten
fed_all-flatten s [] = sym (fed-none s)
fed_all-flatten s (scrap ∷ scraps) = fed_all-flatten (fed s scrap) scraps ∙ sym (fed_append s scrap (flatten scraps))

pub cuts_alike : CutsAlike
cuts_alike s these those e = fed_all-flatten s these ∙ ap (fed s) e ∙ sym (fed_all-flatten s those)

-- ---- the total

step-stops : (s : Stream) (byte : ℕ) → s.bytes ≤ most_bytes + 1 → (step_of s byte).bytes ≤ most_bytes + 1
step-stops s byte h = by (ltb most_bytes s.bytes) refl
  where
    by : (b : Bool) → ltb most_bytes s.bytes ≡ b → (cond b s (byte_counted (noted s (bad_at s byte)) byte)).bytes ≤ most_bytes + 1
    by true e = h
    by false e = omega (arith, ltb-false most_bytes s.bytes e)

fed-stops : (s : Stream) (scrap : List ℕ) → s.bytes ≤ most_bytes + 1 → (fed s scrap).bytes ≤ most_bytes + 1
fed-stops s [] h = rw (fed-none s) h
fed-stops s (x ∷ xs) h = rw (fed_cons s x xs) (fed-stops (step_of s x) xs (step-stops s x h))

pub total_stops : TotalStops
total_stops sectors scraps =
    rw (fed_all-flatten (started sectors) scraps) (fed-stops (started sectors) (flatten scraps) (omega arith))

-- ---- the whole lump

-- a scan, and a check more
each_next : (f : ℕ → Check) (n : ℕ) → each f (suc n) ≡ each f n and_then f n
unfolding each
each_next f n = refl

-- the first refusal of two, as a state notes it
note_next : (found bad : Bool) (old here : ℕ)
    → unless (not found) (SidedefReference old) and_then unless (not bad) (SidedefReference here)
    ≡ unless (not (found || bad)) (SidedefReference (cond (bad && not found) here old))
note_next true true old here = refl
note_next true false old here = refl
note_next false true old here = refl
note_next false false old here = refl

not-leb : (a b : ℕ) → ltb b a ≡ not (leb a b)
not-leb a b = by (leb a b) refl
  where
    by : (t : Bool) → leb a b ≡ t → ltb b a ≡ not t
    by true e = le-ltb b a (leb-true a b e)
    by false e = lt-ltb b a (leb-false a b e)

module _ (sectors : ℕ) (lump : List ℕ) where
  -- what a state tells of the first `k` bytes: all of it while they are not too many
  record Told (k : ℕ) (s : Stream) : Type 0 where
    total : s.bytes ≡ k
    half : k % 30 ≡ 29 → s.low ≡ get_or lump (k - 1) 0
    judged : each (sidedef_check lump sectors) (k / 30) ≡ unless (not s.found) (SidedefReference s.bad)

  record Arrived (k : ℕ) (s : Stream) : Type 0 where
    kept : s.sectors ≡ sectors
    tells : k ≤ most_bytes → Told k s
    over : most_bytes < k → most_bytes < s.bytes

  arrived_none : Arrived 0 (started sectors)
  arrived_none =
      record {
        kept = refl;
        tells = λ h. record { total = refl; half = λ e. absurd (omega (arith, e)); judged = each_none (sidedef_check lump sectors) };
        over = λ h. absurd (omega (arith, h));
      }

  -- the check of a sidedef, by the two bytes of its sector
  check-is : (k : ℕ) → k % 30 ≡ 29
      → sidedef_check lump sectors (k / 30)
      ≡ unless (not (leb sectors (get_or lump (k - 1) 0 + 256 * get_or lump k 0))) (SidedefReference (k / 30))
  check-is k high =
      let at : 30 * (k / 30) + 28 ≡ k - 1 = omega (arith, high) in
      let next : k - 1 + 1 ≡ k = omega (arith, high) in
      let field : u16_at lump (30 * (k / 30) + 28) ≡ get_or lump (k - 1) 0 + 256 * get_or lump k 0 =
      ap (u16_at lump) at ∙ ap (λ (j : ℕ). get_or lump (k - 1) 0 + 256 * get_or lump j 0) next in
      ap (λ (v : ℕ). unless (ltb v sectors) (SidedefReference (k / 30))) (u16_at-record_bytes lump 30 (k / 30) 28 (omega arith) ∙ field)
      ∙ ap (λ (t : Bool). unless t (SidedefReference (k / 30))) (not-leb sectors (get_or lump (k - 1) 0 + 256 * get_or lump k 0))

  module _ (k : ℕ) (s : Stream) (a : Arrived k s) where
    told-step : Told k s → Told (suc k) (byte_counted (noted s (bad_at s (get_or lump k 0))) (get_or lump k 0))
    told-step t =
        let bytes = t.total in
        record {
          total = omega (arith, bytes);
          half = λ e.
              let low : s.bytes % 30 ≡ 28 = omega (arith, bytes, e) in
              let last : k ≡ suc k - 1 = omega arith in
              rw (eq-eqb (s.bytes % 30) 28 low) (ap (λ (j : ℕ). get_or lump j 0) last);
          judged = by (eqb (s.bytes % 30) 29) refl;
        }
      where
        by : (b : Bool) → eqb (s.bytes % 30) 29 ≡ b
            → each (sidedef_check lump sectors) (suc k / 30)
            ≡ unless (not (s.found || (b && leb s.sectors (s.low + 256 * get_or lump k 0))))
            (SidedefReference (cond ((b && leb s.sectors (s.low + 256 * get_or lump k 0)) && not s.found) (s.bytes / 30) s.bad))
        by true e =
            let bytes = t.total in
            let high : k % 30 ≡ 29 = omega (arith, bytes, eqb-true (s.bytes % 30) 29 e) in
            let next : suc k / 30 ≡ suc (k / 30) = omega (arith, high) in
            let sectors' = sym a.kept in
            let low = sym (t.half high) in
            let index = ap (λ (n : ℕ). n / 30) (sym bytes) in
            ap (each (sidedef_check lump sectors)) next
            ∙ each_next (sidedef_check lump sectors) (k / 30)
            ∙ (λ i. t.judged i and_then check-is k high i)
            ∙ note_next s.found (leb sectors (get_or lump (k - 1) 0 + 256 * get_or lump k 0)) s.bad (k / 30)
            ∙ (λ i. unless (not (s.found || leb (sectors' i) (low i + 256 * get_or lump k 0)))
            (SidedefReference (cond (leb (sectors' i) (low i + 256 * get_or lump k 0) && not s.found) (index i) s.bad)))
        by false e =
            let same : suc k / 30 ≡ k / 30 = omega (arith, t.total, eqb-false (s.bytes % 30) 29 e) in
            ap (each (sidedef_check lump sectors)) same
            ∙ t.judged
            ∙ ap (λ (b : Bool). unless (not b) (SidedefReference s.bad)) (sym (or-false s.found))

    over_step : s.bytes ≤ most_bytes → most_bytes < suc k → most_bytes < s.bytes + 1
    over_step room h = by (ltb most_bytes k) refl
      where
        by : (b : Bool) → ltb most_bytes k ≡ b → most_bytes < s.bytes + 1
        by true e = absurd (omega (arith, room, a.over (ltb-true most_bytes k e)))
        by false e = omega (arith, h, (a.tells (ltb-false most_bytes k e)).total)

    arrived_step : Arrived (suc k) (step_of s (get_or lump k 0))
    arrived_step = by (ltb most_bytes s.bytes) refl
      where
        by : (b : Bool) → ltb most_bytes s.bytes ≡ b
            → Arrived (suc k) (cond b s (byte_counted (noted s (bad_at s (get_or lump k 0))) (get_or lump k 0)))
        by true e =
            let full = ltb-true most_bytes s.bytes e in
            record {
              kept = a.kept;
              tells = λ h. absurd (omega (arith, h, full, (a.tells (omega (arith, h))).total));
              over = λ h. full;
            }
        by false e =
            let room = ltb-false most_bytes s.bytes e in
            record {
              kept = a.kept;
              tells = λ h. told-step (a.tells (omega (arith, h)));
              over = λ h. over_step room h;
            }

  arrived_from : (left k : ℕ) (s : Stream) → k + left ≡ length lump → Arrived k s → Arrived (length lump) (fed s (drop k lump))
  arrived_from zero k s h a =
      let e : k ≡ length lump = omega (arith, h) in
      let done : s ≡ fed s (drop k lump) = sym (ap (λ (j : ℕ). fed s (drop j lump)) e ∙ ap (fed s) (drop-length lump) ∙ fed-none s) in
      subst (λ (t : Stream). Arrived (length lump) t) done (subst (λ (j : ℕ). Arrived j s) e a)
  arrived_from (suc left) k s h a =
      let more : fed (step_of s (get_or lump k 0)) (drop (suc k) lump) ≡ fed s (drop k lump) =
      sym (ap (fed s) (drop-cons lump k 0 (omega (arith, h))) ∙ fed_cons s (get_or lump k 0) (drop (suc k) lump)) in
      subst (λ (t : Stream). Arrived (length lump) t) more
      (arrived_from left (suc k) (step_of s (get_or lump k 0)) (omega (arith, h)) (arrived_step k s a))

  records_size : records_check (length lump) ≡ size_check false (lumps_with lump) 3
  records_size =
      ap (λ (t : Bool). unless (eqb (length lump % 30) 0) (RecordSize 3) and_then unless t (RecordCount 3))
      (sym (and-true (leb 1 (length lump / 30) && leb (length lump / 30) 65535)))

  verdict-told : (s : Stream) → s.sectors ≡ sectors → Told (length lump) s → stream_verdict s ≡ lump_check sectors lump
  verdict-told s kept t =
      (λ i. sectors_check (kept i)
      and_then total_check (t.total i)
      and_then records_check (t.total i)
      and_then sym t.judged i)
      ∙ (λ i. sectors_check sectors
      and_then total_check (length lump)
      and_then records_size i
      and_then each (sidedef_check lump sectors) (length lump / 30))

  verdict_over : (s : Stream) → s.sectors ≡ sectors → most_bytes < s.bytes → most_bytes < length lump → stream_verdict s ≡ lump_check sectors lump
  verdict_over s kept h k = rw (kept, lt-leb s.bytes most_bytes h, lt-leb (length lump) most_bytes k)

  verdict_arrived : (s : Stream) → Arrived (length lump) s → stream_verdict s ≡ lump_check sectors lump
  verdict_arrived s a = by (ltb most_bytes (length lump)) refl
    where
      by : (b : Bool) → ltb most_bytes (length lump) ≡ b → stream_verdict s ≡ lump_check sectors lump
      by true e =
          let h = ltb-true most_bytes (length lump) e in
          verdict_over s a.kept (a.over h) h
      by false e = verdict-told s a.kept (a.tells (ltb-false most_bytes (length lump) e))

  verdict-lump : stream_verdict (fed (started sectors) lump) ≡ lump_check sectors lump
  verdict-lump =
      verdict_arrived (fed (started sectors) lump) (arrived_from (length lump) 0 (started sectors) (omega arith) arrived_none)

pub verdict-whole : VerdictWhole
verdict-whole sectors scraps = ap stream_verdict (fed_all-flatten (started sectors) scraps) ∙ verdict-lump sectors (flatten scraps)
