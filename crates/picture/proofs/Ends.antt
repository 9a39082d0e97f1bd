-- Laws of posts that are good down to the end byte: what is noted of a place on a column's way, and what a note saves the
-- columns that come after. Assumes nothing.
use Prim.Native.Nat.{ℕ, zero, suc, ◌≤◌}
use mathlib.Core.Bool.{Bool, true, false}
use mathlib.Core.List.{List}
use mathlib.Core.Path.{◌≡◌, refl, sym, ◌∙◌, subst}
use native.Mathlib.Omega.{arith}
use borrow.Author.Tests.{eqb-true, eqb-false, le-leb, leb-true}
use lib.Dec.{leb}
use lib.ListN.{length}
use Rattle.refusal.specs.declared.Refusal.TheVariants.{PostBounds, PostRows}
use Rattle.refusal.specs.Checks.{Check}
use Rattle.std.specs.Prelude.{Ok}
use Rattle.refusal.specs.Checks.{unless}
use Rattle.refusal.proofs.Checks.{both, unless_pass, and_then_pass}
use Rattle.picture_header.specs.Layout.{start_at, end_at, end_row, post_end}
use Rattle.picture.specs.Judging.{posts_check, post_check, rows_ok}
use Rattle.picture.specs.Stepping.{is_noted, noted, Notes}
use Rattle.picture.specs.Inner.{Ends, ended, post, Good}
use Rattle.picture.proofs.Posts.{Rest, rest_ended, rest_more}
use Rattle.picture.proofs.Slots.{notes-here, notes-more, length-noted}

module _ (lump : List ℕ) (height : ℕ) where
  -- the row above matters to the first post alone
  ends-row : (at row high : ℕ) → high ≤ start_at lump at → Ends lump height at row → Ends lump height at high
  ends-row at row high h (ended _ _ e) = ended at high e
  ends-row at row high h (post _ _ n inside rows rest) =
      post at high n inside (simp (le-leb high (start_at lump at) h, (both (leb row (start_at lump at)) _ rows).1)) rest

  module _ (column : ℕ) where
    ends_pass : (at row : ℕ) {answer : Check} → Ends lump height at row → Rest lump height column at row answer → Ok tt ≡ answer
    ends_pass at row (ended _ _ e) r = rest_ended _ _ _ r e
    ends_pass at row (post _ _ n inside rows rest) r =
        ends_pass (post_end lump at) (end_row lump at) rest (rest_more _ _ _ r n inside rows)

    ends_of : (most at row : ℕ) → posts_check most lump height column at row ≡ Ok tt → Ends lump height at row
    unfolding posts_check
    ends_of zero at row e = let z : ◌≡◌ {A = ℕ} 0 1 = cc in absurd (omega arith)
    ends_of (suc most) at row e =
        by_end (ends_of most (post_end lump at) (end_row lump at)) (end_at lump at) refl e
      where
        by_end : (posts_check most lump height column (post_end lump at) (end_row lump at) ≡ Ok tt → Ends lump height (post_end lump at) (end_row lump at))
            → (b : Bool) → end_at lump at ≡ b → posts_check (suc most) lump height column at row ≡ Ok tt → Ends lump height at row
        by_end below true t e = ended at row (eqb-true _ _ t)
        by_end below false t e =
            let rest = posts_check most lump height column (post_end lump at) (end_row lump at) in
            let first = and_then_pass (post_check lump height column at row) rest (simp t at e) in
            let inside-part = unless (leb (post_end lump at) (length lump)) (PostBounds column) in
            let parts = and_then_pass inside-part (unless (rows_ok lump height at row) (PostRows column)) first.0 in
            post at row (eqb-false _ _ t) (leb-true _ _ (unless_pass _ (PostBounds column) parts.0))
            (unless_pass _ (PostRows column) parts.1) (below first.1)

    -- what is known of a noted place `q` while a column, which will be answered with `answer`, has come to `at`
    pub record Known (answer : Check) (at q : ℕ) : Type 0 where
      pub once : answer ≡ Ok tt → Good lump height q
      pub ahead : at ≤ q → Good lump height q

    -- a column on its way: the posts that are left decide the answer, and the notes are good once it passes
    pub record Judging (answer : Check) (notes₀ notes : List ℕ) (at row : ℕ) : Type 0 where
      pub rest : Rest lump height column at row answer
      pub known : Notes (Known answer at) notes
      pub same : length notes ≡ length notes₀

    pub judging_first : {answer : Check} {at row : ℕ} (notes : List ℕ) → Rest lump height column at row answer
        → Notes (Good lump height) notes → Judging answer notes notes at row
    judging_first notes r good =
        record { rest = r; known = λ slot e. record { once = λ q. good slot e; ahead = λ h. good slot e }; same = refl }

    module _ {answer : Check} {notes₀ notes : List ℕ} {at row : ℕ} (j : Judging answer notes₀ notes at row) where
      module _ (rows : rows_ok lump height at row ≡ true) where
        above : row ≤ start_at lump at
        above = leb-true _ _ (both (leb row (start_at lump at)) _ rows).0

        -- a column that comes to a noted place is done
        pub judging_met : is_noted notes at ≡ true → Ok tt ≡ answer
        judging_met e =
            let k = notes-here (Known answer at) notes at j.known e in
            ends_pass at row (ends-row at (start_at lump at) row above (k.ahead (omega arith))) j.rest

        -- and one that goes on may note the place
        pub judging_more : {to low : ℕ} {newer : List ℕ} → newer ≡ noted notes at → suc at ≤ to
            → Rest lump height column to low answer → Judging answer notes₀ newer to low
        judging_more {to} {low} {newer} e h r =
            let behind : Known answer to at =
            record {
              once = λ p. ends-row at row (start_at lump at) (omega arith) (ends_of (suc j.rest.most) at row (j.rest.same ∙ p));
              ahead = λ k. absurd (omega arith);
            } in
            let others : Notes (Known answer to) notes = λ slot m. record { once = (j.known slot m).once; ahead = λ k. (j.known slot m).ahead (omega arith) } in
            subst (λ (n : List ℕ). Judging answer notes₀ n to low) (sym e)
            record {
              rest = r;
              known = notes-more (Known answer to) notes at others behind;
              same = length-noted notes at ∙ j.same;
            }
