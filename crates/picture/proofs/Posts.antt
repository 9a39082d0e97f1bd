-- Laws of a column's posts: what a loop over them has to show at the end byte, at a refusal and at the next post.
-- Assumes nothing.
use Prim.Native.Nat.{ℕ, zero, suc, ◌+◌, ◌-◌, ◌≤◌, ◌<◌}
use mathlib.Core.Bool.{Bool, true, false}
use mathlib.Core.List.{List}
use mathlib.Core.Path.{◌≡◌, refl, sym, ap, ◌∙◌, subst}
use native.Mathlib.Omega.{arith}
use borrow.Author.Tests.{eq-eqb, ne_eqb, le-leb, lt-leb, ltb-true, ltb-false}
use lib.Dec.{ltb}
use lib.ListN.{length, get_or-eq_default}
use Rattle.refusal.specs.declared.Refusal.TheVariants.{PostBounds, PostRows}
use Rattle.refusal.specs.Checks.{Check}
use Rattle.std.specs.Prelude.{Ok, Err}
use Rattle.picture_header.specs.Layout.{start_at, end_row, post_end}
use Rattle.picture.specs.Judging.{posts_check, rows_ok}
use Rattle.picture.specs.Stepping.{past_empty}
use Rattle.picture.proofs.Inner.{Empty, past-holds}

module _ (lump : List ℕ) (height column : ℕ) where
  -- the posts from `at` on, below row `row`, decide the answer
  pub record Rest (at row : ℕ) (answer : Check) : Type 0 where
    pub most : ℕ
    pub enough : length lump ≤ at + most
    pub same : posts_check (suc most) lump height column at row ≡ answer

  pub rest-first : (at : ℕ) → 0 < length lump → 0 < at → Rest at 0 (posts_check (length lump) lump height column at 0)
  rest-first at h k =
      let e : suc (length lump - 1) ≡ length lump = omega arith in
      record { most = length lump - 1; enough = omega arith; same = ap (λ (n : ℕ). posts_check n lump height column at 0) e }

  module _ {at row : ℕ} {answer : Check} (r : Rest at row answer) where
    pub rest_ended : start_at lump at ≡ 255 → Ok tt ≡ answer
    unfolding posts_check
    rest_ended e = simp (eq-eqb _ _ e) at r.same

    module _ (post : start_at lump at ≡ 255 → ⊥) where
      pub rest-cut : length lump < post_end lump at → Err (PostBounds column) ≡ answer
      unfolding posts_check
      rest-cut h = simp (ne_eqb _ _ post, lt-leb _ _ h) at r.same

      module _ (inside : post_end lump at ≤ length lump) where
        pub rest-rows : rows_ok lump height at row ≡ false → Err (PostRows column) ≡ answer
        unfolding posts_check
        rest-rows e = simp (ne_eqb _ _ post, le-leb _ _ inside, e) at r.same

        more : (n : ℕ) → length lump ≤ at + n → posts_check (suc n) lump height column at row ≡ answer
            → rows_ok lump height at row ≡ true → Rest (post_end lump at) (end_row lump at) answer
        unfolding posts_check
        more zero h s e = absurd (omega arith)
        more (suc n) h s e = record { most = n; enough = omega arith; same = simp (ne_eqb _ _ post, le-leb _ _ inside, e) at s }

        pub rest_more : rows_ok lump height at row ≡ true → Rest (post_end lump at) (end_row lump at) answer
        rest_more = more r.most r.enough r.same

    -- off the end there is no end byte
    pub rest_off : length lump ≤ at → Err (PostBounds column) ≡ answer
    rest_off h = rest-cut (λ e. let z = sym (get_or-eq_default lump 0 h) ∙ e in omega arith) (omega arith)

  -- ---- posts that pass

  pub pass_inside : (most at row : ℕ) → posts_check most lump height column at row ≡ Ok tt → at < length lump
  unfolding posts_check
  pass_inside zero at row e = let z : ◌≡◌ {A = ℕ} 0 1 = cc in absurd (omega arith)
  pass_inside (suc most) at row e = inside (ltb at (length lump)) refl
    where
      inside : (b : Bool) → ltb at (length lump) ≡ b → at < length lump
      inside true t = ltb-true at (length lump) t
      inside false t =
          let h = ltb-false at (length lump) t in
          let q = rest_off (record { most = most; enough = omega arith; same = e }) h in
          let z : ◌≡◌ {A = ℕ} 0 1 = cc in absurd (omega arith)

  -- ---- posts of length 0

  pub rest-past : (most : ℕ) {row from to : ℕ} {answer : Check} → row < 255 → row ≤ height → Rest from row answer
      → to ≡ past_empty most lump row from → Rest to row answer
  rest-past most {row} {from} {to} {answer} low fits r e = past-holds lump row (λ x. Rest x row answer) step most from to e r
    where
      step : (at : ℕ) → Empty lump row at → Rest at row answer → Rest (post_end lump at) row answer
      step at post r =
          let q : end_row lump at ≡ row = omega arith in
          let top = le-leb row (start_at lump at) (omega arith) in
          let end = le-leb (end_row lump at) height (omega arith) in
          let rows : rows_ok lump height at row ≡ true = simp (top, end) in
          subst (λ (x : ℕ). Rest (post_end lump at) x answer) q (rest_more r (λ k. omega arith) (omega arith) rows)
