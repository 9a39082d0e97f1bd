-- Laws of the empty posts that are stepped over: what a loop over them has to show, and what stays true past them.
-- Assumes nothing.
use Prim.Native.Nat.{ℕ, zero, suc, ◌+◌, ◌≤◌}
use mathlib.Core.Bool.{Bool, true, false, ◌&&◌, cond}
use mathlib.Core.List.{List}
use mathlib.Core.Path.{◌≡◌, refl, sym, ap, ◌∙◌, subst}
use native.Mathlib.Omega.{arith}
use borrow.Author.Tests.{eq-eqb, eqb-true, le-leb, leb-true}
use lib.Dec.{leb, eqb}
use lib.ListN.{length}
use Rattle.refusal.proofs.Checks.{both}
use Rattle.picture_header.specs.Layout.{start_at, length_at, post_end}
use Rattle.picture.specs.Stepping.{empty_at, past_empty, Stepped, NoPixels, Over, here, past}

module _ (lump : List ℕ) (row : ℕ) where
  -- a post of length 0 at `row`
  pub record Empty (at : ℕ) : Type 0 where
    pub inside : at + 4 ≤ length lump
    pub start : start_at lump at ≡ row
    pub none : length_at lump at ≡ 0

  empty_of : (at : ℕ) → empty_at lump row at ≡ true → Empty at
  empty_of at e =
      let last = both (leb (post_end lump at) (length lump) && eqb (start_at lump at) row) _ e in
      let first = both (leb (post_end lump at) (length lump)) _ last.0 in
      let inside : post_end lump at ≤ length lump = leb-true _ _ first.0 in
      record { inside = omega arith; start = eqb-true _ _ first.1; none = eqb-true _ _ last.1 }

  -- ---- a loop over them

  pub past-none : (at : ℕ) → past_empty 0 lump row at ≡ at
  unfolding past_empty
  past-none at = refl

  pub past_more : (most at : ℕ) → Empty at → past_empty (suc most) lump row at ≡ past_empty most lump row (at + 4)
  unfolding past_empty
  past_more most at e =
      let p : post_end lump at ≡ at + 4 = omega (arith, e.none) in
      let inside : post_end lump at ≤ length lump = omega (arith, e.inside) in
      simp (le-leb _ _ inside, eq-eqb _ _ e.start, eq-eqb _ _ e.none) (ap (past_empty most lump row) p)

  done : (most at : ℕ) (b : Bool) → empty_at lump row at ≡ b → (Empty at → ⊥) → past_empty most lump row at ≡ at
  unfolding past_empty
  done zero at b e n = refl
  done (suc most) at true e n = absurd (n (empty_of at e))
  done (suc most) at false e n = simp e

  pub past-done : (most at : ℕ) → (Empty at → ⊥) → past_empty most lump row at ≡ at
  past-done most at = done most at (empty_at lump row at) refl

  -- ---- what stays true

  by_test : (P : ℕ → Type 0) (x y : ℕ) (b : Bool) → (b ≡ true → P x) → P y → P (cond b x y)
  by_test P x y true f p = f refl
  by_test P x y false f p = p

  holds : (P : ℕ → Type 0) → ((at : ℕ) → Empty at → P at → P (post_end lump at)) → (most at : ℕ) → P at
      → P (past_empty most lump row at)
  unfolding past_empty
  holds P step zero at p = p
  holds P step (suc most) at p =
      by_test P _ at (empty_at lump row at) (λ e. holds P step most (post_end lump at) (step at (empty_of at e) p)) p

  pub past-holds : (P : ℕ → Type 0) → ((at : ℕ) → Empty at → P at → P (post_end lump at)) → (most from to : ℕ)
      → to ≡ past_empty most lump row from → P from → P to
  past-holds P step most from to e p = subst P (sym e) (holds P step most from p)

  pub past_on : (most from to : ℕ) → to ≡ past_empty most lump row from → from ≤ to
  past_on most from to e = past-holds (λ x. from ≤ x) (λ at post h. omega arith) most from to e (omega arith)

  pub stepped_none : (at : ℕ) → Stepped lump row at at
  stepped_none at = record { most = 0; same = sym (past-none at) }

  -- ---- posts of length 0 at any row

  -- those at `row` are such posts, as `row` is no end byte
  pub over_past : (most from to : ℕ) → (row ≡ 255 → ⊥) → to ≡ past_empty most lump row from → Over lump from to
  over_past most from to n e =
      past-holds (Over lump from)
      (λ at post o.
      let p : post_end lump at ≡ at + 4 = omega (arith, post.none) in
      rw p (past at o record { inside = post.inside; starts = λ k. n (sym post.start ∙ k); none = post.none }))
      most from to e here

module _ (lump : List ℕ) where
  pub over_holds : (P : ℕ → Type 0) → ((at : ℕ) → NoPixels lump at → P at → P (at + 4)) → {from to : ℕ}
      → Over lump from to → P from → P to
  over_holds P step here p = p
  over_holds P step (past at o e) p = step at e (over_holds P step o p)

  pub over_then : {from at to : ℕ} → Over lump from at → Over lump at to → Over lump from to
  over_then {from} o = λ next. over_holds (Over lump from) (λ at e o. past at o e) next o

  pub over_on : {from to : ℕ} → Over lump from to → from ≤ to
  over_on {from} o = over_holds (λ x. from ≤ x) (λ at e h. omega arith) o (omega arith)

  pub over_inside : {from to : ℕ} → from ≤ length lump → Over lump from to → to ≤ length lump
  over_inside h o = over_holds (λ x. x ≤ length lump) (λ at e k. e.inside) o h
