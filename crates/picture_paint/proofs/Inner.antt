-- Laws of strokes: none, one after the other, and one pixel more of a post. Assumes nothing.
use Prim.Native.Nat.{ℕ, ◌+◌, ◌-◌, ◌*◌, ◌/◌, ◌%◌, ◌≤◌, ◌<◌}
use mathlib.Core.Bool.{Bool, true, false, ◌&&◌, cond}
use mathlib.Core.List.{List}
use mathlib.Core.Logic.{◌⊎◌, inl, inr}
use mathlib.Core.Path.{◌≡◌, refl, sym, ap, ◌∙◌}
use native.Mathlib.Nat.{not-suc-le-zero, le_of_suc-le-suc, eq-or-lt_of_le}
use native.Mathlib.Numerals.{add-one}
use native.Mathlib.Omega.{arith}
use borrow.Author.Tests.{eqb-true, eqb-false, leb-true, ltb-true, ltb-false, le-leb, lt-ltb, le-ltb}
use lib.Arith.{digits_lt, digits_div, digits_mod, lt_of_le-ne}
use lib.Dec.{leb, ltb, eqb}
use lib.ListN.{length, get_or, set, length-set}
use lib.Seq.{get_or-set_same, get_or-set_other, drop-set-lt}
use Rattle.picture_header.specs.Layout.{start_at}
use Rattle.picture_paint.specs.Pixels.{by_colour, by_cover, byte_of}
use Rattle.picture_paint.specs.Inner.{Stroke, Strokes, Both}

-- ---- both planes

-- what is said of a plane before and after
abbrev Said : Type 1
Said = (ℕ → ℕ) → List ℕ → List ℕ → Type 0

pub both_none : {P : Said} (colour cover : List ℕ) → ((by : ℕ → ℕ) (plane : List ℕ) → P by plane plane)
    → Both P colour cover colour cover
both_none colour cover f = record { on_colour = f by_colour colour; on_cover = f by_cover cover }

pub both_as : {P Q : Said} {a b c d : List ℕ} → Both P a b c d
    → ((by : ℕ → ℕ) (x y : List ℕ) → P by x y → Q by x y) → Both Q a b c d
both_as s f = record { on_colour = f by_colour _ _ s.on_colour; on_cover = f by_cover _ _ s.on_cover }

pub both_then : {P Q R : Said} {a b c d e f : List ℕ} → Both P a b c d → Both Q c d e f
    → ((by : ℕ → ℕ) (x y z : List ℕ) → P by x y → Q by y z → R by x z) → Both R a b e f
both_then s t f =
    record { on_colour = f by_colour _ _ _ s.on_colour t.on_colour; on_cover = f by_cover _ _ _ s.on_cover t.on_cover }

-- ---- one column

module _ {area width column : ℕ} where
  pub stroke_none : {f : ℕ → ℕ → ℕ} (plane : List ℕ) → ((row v : ℕ) → v ≡ f row v) → Stroke area width column f plane plane
  stroke_none plane e =
      record { same = refl; beyond = refl; here = λ row. e row _; elsewhere = λ other row h n. refl }

  pub stroke_then : {f g k : ℕ → ℕ → ℕ} {a b c : List ℕ}
      → Stroke area width column f a b → Stroke area width column g b c
      → ((row v : ℕ) → g row (f row v) ≡ k row v) → Stroke area width column k a c
  stroke_then {f} {g} {k} s t e =
      record {
        same = t.same ∙ s.same;
        beyond = t.beyond ∙ s.beyond;
        here = λ row. t.here row ∙ ap (g row) (s.here row) ∙ e row _;
        elsewhere = λ other row h n. t.elsewhere other row h n ∙ s.elsewhere other row h n;
      }

-- a post's first `count` pixels
abbrev pub over_first : (ℕ → ℕ) → List ℕ → ℕ → ℕ → ℕ → ℕ → ℕ
over_first by lump at count row under =
    cond (leb (start_at lump at) row && ltb row (start_at lump at + count)) (by (byte_of lump at row)) under

module _ (by : ℕ → ℕ) (lump : List ℕ) (at : ℕ) where
  pub first-none : (row v : ℕ) → v ≡ over_first by lump at 0 row v
  first-none row v = none (leb (start_at lump at) row) refl
    where
      none : (b : Bool) → leb (start_at lump at) row ≡ b
          → v ≡ cond (b && ltb row (start_at lump at + 0)) (by (byte_of lump at row)) v
      none true e = let h = leb-true (start_at lump at) row e in simp (le-ltb row (start_at lump at + 0) (omega arith))
      none false e = refl

  -- the row that comes next
  first-new : (count row v : ℕ) → row ≡ start_at lump at + count
      → by (get_or lump (at + 3 + count) 0) ≡ over_first by lump at (count + 1) row v
  first-new count row v e =
      let q : count ≡ row - start_at lump at = omega arith in
      simp (le-leb (start_at lump at) row (omega arith), lt-ltb row (start_at lump at + (count + 1)) (omega arith))
      (ap (λ (n : ℕ). by (get_or lump (at + 3 + n) 0)) q)

  -- any other row
  first-old : (count row v : ℕ) → (row ≡ start_at lump at + count → ⊥)
      → over_first by lump at count row v ≡ over_first by lump at (count + 1) row v
  first-old count row v n =
      ap (λ (b : Bool). cond (leb (start_at lump at) row && b) (by (byte_of lump at row)) v)
      (sym (old (ltb row (start_at lump at + count)) refl))
    where
      old : (b : Bool) → ltb row (start_at lump at + count) ≡ b → ltb row (start_at lump at + (count + 1)) ≡ b
      old true e = let h = ltb-true row (start_at lump at + count) e in lt-ltb row (start_at lump at + (count + 1)) (omega arith)
      old false e =
          let h = lt_of_le-ne (ltb-false row (start_at lump at + count) e) (λ q. n (sym q)) in
          le-ltb row (start_at lump at + (count + 1)) (omega arith)

  -- one pixel more
  module _ (height width column count : ℕ) {old now : List ℕ} (inside : column < width)
      (row_ok : start_at lump at + count < height) (room : height * width ≤ length old)
      (s : Stroke (height * width) width column (over_first by lump at count) old now) where
    pub pixel_fits : (start_at lump at + count) * width + column < length now
    pixel_fits = let h = digits_lt row_ok inside in omega (arith, s.same)

    abbrev more : List ℕ
    more = set now ((start_at lump at + count) * width + column) (by (get_or lump (at + 3 + count) 0))

    more-here : (row : ℕ) (b : Bool) → eqb row (start_at lump at + count) ≡ b
        → get_or more (row * width + column) 0 ≡ over_first by lump at (count + 1) row (get_or old (row * width + column) 0)
    more-here row true e =
        let q = eqb-true row (start_at lump at + count) e in
        rw (ap (λ (r : ℕ). r * width + column) q) (get_or-set_same now _ _ 0 pixel_fits) ∙ first-new count row _ q
    more-here row false e =
        let n = eqb-false row (start_at lump at + count) e in
        get_or-set_other now _ _ _ 0
        (λ q. n (sym (digits_div row inside) ∙ ap (λ (i : ℕ). i / width) q ∙ digits_div (start_at lump at + count) inside))
        ∙ s.here row
        ∙ first-old count row _ n

    pub stroke_pixel : Stroke (height * width) width column (over_first by lump at (count + 1)) old more
    stroke_pixel =
        record {
          same = length-set now _ _ ∙ s.same;
          beyond = drop-set-lt (height * width) now _ _ (digits_lt row_ok inside) ∙ s.beyond;
          here = λ row. more-here row (eqb row (start_at lump at + count)) refl;
          elsewhere = λ other row h n.
              get_or-set_other now _ _ _ 0
              (λ q. n (sym (digits_mod row h) ∙ ap (λ (i : ℕ). i % width) q ∙ digits_mod (start_at lump at + count) inside))
              ∙ s.elsewhere other row h n;
        }

-- ---- columns

module _ {area width : ℕ} {f : ℕ → ℕ → ℕ → ℕ} where
  pub strokes_none : (plane : List ℕ) → Strokes area width 0 f plane plane
  strokes_none plane =
      record { same = refl; beyond = refl; done = λ column row h. absurd (not-suc-le-zero h); left = λ column row h k. refl }

  -- one column more
  pub strokes_more : (count : ℕ) {a b c : List ℕ} → count < width → Strokes area width count f a b
      → Stroke area width count (f count) b c → Strokes area width (count + 1) f a c
  strokes_more count {a} {b} {c} inside s t =
      record {
        same = t.same ∙ s.same;
        beyond = t.beyond ∙ s.beyond;
        done = λ column row h. done column row (eq-or-lt_of_le (le_of_suc-le-suc (rw add-one at h)));
        left = λ column row h k. t.elsewhere column row h (λ e. omega arith) ∙ s.left column row h (omega arith);
      }
    where
      done : (column row : ℕ) → (column ≡ count) ⊎ (column < count)
          → get_or c (row * width + column) 0 ≡ f column row (get_or a (row * width + column) 0)
      done column row (inl e) = rw e (t.here row ∙ ap (f count row) (s.left count row inside (omega arith)))
      done column row (inr h) = t.elsewhere column row (omega arith) (λ e. omega arith) ∙ s.done column row h
