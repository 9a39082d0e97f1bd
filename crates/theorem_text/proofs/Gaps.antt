-- Laws of gaps: one is passed over wherever it stands, and what is one. Assumes nothing.
use Prim.Native.Nat.{ℕ, zero, suc, ◌+◌, ◌<◌}
use mathlib.Core.Bool.{Bool, true, false, ◌&&◌, cond, true≢false}
use mathlib.Core.List.{List, [], ◌∷◌, ◌++◌}
use mathlib.Core.Path.{◌≡◌, refl, sym, ap, ◌∙◌, subst}
use native.Mathlib.Omega.{arith}
use lib.Dec.{eqb}
use lib.ListN.{get_or, length, length-append, get_or-append}
use lib.Seq.{get_or-append-add}
use Rattle.text_gap.specs.declared.Mode.{Mode}
use Rattle.text_gap.specs.declared.Mode.TheVariants.{Between, Line, Opening, Comment, Star, Stop}
use Rattle.text_gap.specs.declared.Gap.{Gap}
use Rattle.text_byte.specs.Bytes.{newline, star, slash, is_blank, opens_line, opens_comment}
use Rattle.text_gap.specs.Gaps.{between, mode_after, is_stop, gap, gap_from}
use Rattle.theorem_text.specs.Gaps.{IsGap, GapsAre, GapsAreNot}
use Rattle.theorem_text.proofs.Moved.{gap-moved}

abbrev is_between : Mode → Bool
is_between Between = true
is_between Line = false
is_between Opening = false
is_between Comment = false
is_between Star = false
is_between Stop = false

-- behind a byte that leads between tokens no byte matters
last_byte : (m : Mode) (b c d : ℕ) → mode_after m b c ≡ Between → mode_after m b d ≡ Between
last_byte Between b c d e = by (is_blank b) (opens_line b c) (opens_comment b c) (ap is_between e)
  where
    by : (x y z : Bool) → is_between (cond x Between (cond y Line (cond z Opening Stop))) ≡ true
        → cond x Between (cond (opens_line b d) Line (cond (opens_comment b d) Opening Stop)) ≡ Between
    by true y z q = refl
    by false true z q = absurd (true≢false (sym q))
    by false false true q = absurd (true≢false (sym q))
    by false false false q = absurd (true≢false (sym q))
last_byte Line b c d e = e
last_byte Opening b c d e = e
last_byte Comment b c d e = e
last_byte Star b c d e = e
last_byte Stop b c d e = e

-- a reading that ends between tokens does not stop on the way
goes_on_lem : (after : Mode) (at end : ℕ) (g : Gap) → cond (is_stop after) (gap after at) g ≡ gap Between end
    → (is_stop after ≡ false) × (g ≡ gap Between end)
goes_on_lem after at end g e = by (is_stop after) refl e
  where
    by : (x : Bool) → is_stop after ≡ x → cond x (gap after at) g ≡ gap Between end → (x ≡ false) × (g ≡ gap Between end)
    by true q f = absurd (true≢false (sym q ∙ ap (λ (h : Gap). is_stop h.mode) f))
    by false q f = (refl, f)

module _ (front w rest : List ℕ) where
  abbrev text : List ℕ
  text = front ++ (w ++ rest)

  abbrev c : ℕ
  c = length front

  byte : (j : ℕ) → j < length w → get_or text (c + j) 0 ≡ get_or w j 0
  byte j h = get_or-append-add front (w ++ rest) j 0 ∙ get_or-append w rest 0 j h

  -- the same mode behind each byte of the gap
  mode_within : (m : Mode) (j n : ℕ) → j + suc n ≡ length w
      → gap_from w (mode_after m (get_or w j 0) (get_or w (j + 1) 0)) (j + 1) n ≡ gap Between (length w)
      → mode_after m (get_or text (c + j) 0) (get_or text (c + j + 1) 0) ≡ mode_after m (get_or w j 0) (get_or w (j + 1) 0)
  unfolding gap_from
  mode_within m j zero e f =
      let ends = ap (λ (g : Gap). g.mode) f in
      ap (λ (b : ℕ). mode_after m b (get_or text (c + j + 1) 0)) (byte j (omega (arith, e)))
      ∙ last_byte m (get_or w j 0) (get_or w (j + 1) 0) (get_or text (c + j + 1) 0) ends ∙ sym ends
  mode_within m j (suc n) e f =
      let later : c + j + 1 ≡ c + (j + 1) = omega arith in
      λ i. mode_after m (byte j (omega (arith, e)) i) ((ap (λ (k : ℕ). get_or text k 0) later ∙ byte (j + 1) (omega (arith, e))) i)

  through : (n j : ℕ) (m : Mode) (l : ℕ) → j + n ≡ length w → gap_from w m j n ≡ gap Between (length w)
      → gap_from text m (c + j) (n + l) ≡ gap_from text Between (c + length w) l
  unfolding gap_from
  through zero j m l e f =
      let q : 0 + l ≡ l = omega arith in
      ap (gap_from text m (c + j)) q ∙ ap (λ (g : Gap). gap_from text g.mode (c + g.at) l) f
  through (suc n) j m l e f =
      let q : suc n + l ≡ suc (n + l) = omega arith in
      let later : c + j + 1 ≡ c + (j + 1) = omega arith in
      let after = mode_after m (get_or w j 0) (get_or w (j + 1) 0) in
      let g = goes_on_lem after j (length w) (gap_from w after (j + 1) n) f in
      ap (gap_from text m (c + j)) q
      ∙ ap (λ (x : Mode). cond (is_stop x) (gap x (c + j)) (gap_from text x (c + j + 1) (n + l))) (mode_within m j n e g.1)
      ∙ ap (λ (x : Bool). cond x (gap after (c + j)) (gap_from text after (c + j + 1) (n + l))) g.0
      ∙ ap (λ (k : ℕ). gap_from text after k (n + l)) later ∙ through n (j + 1) after l (omega (arith, e)) g.1

  -- a gap is passed over
  pub gap_through : (l : ℕ) → IsGap w → gap_from text Between c (length w + l) ≡ gap_from text Between (c + length w) l
  gap_through l h =
      let q : c ≡ c + 0 = omega arith in
      ap (λ (k : ℕ). gap_from text Between k (length w + l)) q ∙ through (length w) 0 Between l (omega arith) h

-- its first byte begins no token, whatever stands around it
module _ (front : List ℕ) (b : ℕ) (w rest : List ℕ) (h : IsGap (b ∷ w)) where
  first_on : (is_stop (between b (get_or w 0 0)) ≡ false) × (gap_from (b ∷ w) (between b (get_or w 0 0)) 1 (length w) ≡ gap Between (suc (length w)))
  unfolding gap_from
  first_on = goes_on_lem (between b (get_or w 0 0)) 0 (suc (length w)) (gap_from (b ∷ w) (between b (get_or w 0 0)) 1 (length w)) h

  pub first_alone : is_stop (between b (get_or w 0 0)) ≡ false
  first_alone = first_on.0

  pub first_there : let text = front ++ (b ∷ w ++ rest) in is_stop (between (get_or text (length front) 0) (get_or text (length front + 1) 0)) ≡ false
  first_there =
      let text = front ++ (b ∷ w ++ rest) in
      let q : length front + 0 ≡ length front = omega arith in
      subst (λ (k : ℕ). is_stop (between (get_or text k 0) (get_or text (k + 1) 0)) ≡ false) q
      (ap is_stop (mode_within front (b ∷ w) rest Between 0 (length w) (omega arith) first_on.1) ∙ first_on.0)

-- bytes that are passed over from a mode on, up to a place between tokens
abbrev Passed : Mode → List ℕ → Type 0
Passed m w = gap_from w m 0 (length w) ≡ gap Between (length w)

-- one byte more in front
passed_more : (m : Mode) {n : Mode} (b : ℕ) (w : List ℕ) → mode_after m b (get_or w 0 0) ≡ n → is_stop n ≡ false → Passed n w → Passed m (b ∷ w)
unfolding gap_from
passed_more m {n} b w e f h =
    let q : 1 + length w ≡ suc (length w) = omega arith in
    ap (λ (x : Mode). cond (is_stop x) (gap x 0) (gap_from (b ∷ w) x 1 (length w))) e
    ∙ ap (λ (x : Bool). cond x (gap n 0) (gap_from (b ∷ w) n 1 (length w))) f
    ∙ gap-moved (b ∷ []) w n 0 (length w) ∙ ap (λ (g : Gap). gap g.mode (1 + g.at)) h ∙ ap (gap Between) q

-- inside a comment, behind a star or not
in_comment : Bool → Mode
in_comment x = cond x Star Comment

comment_passed : (x : Bool) (inner : List ℕ) → (x && eqb (get_or inner 0 0) slash) ≡ false
    → ((k : ℕ) → (eqb (get_or inner k 0) star && eqb (get_or inner (k + 1) 0) slash) ≡ false) → Passed (in_comment x) (inner ++ (star ∷ slash ∷ []))
unfolding gap_from in_comment
comment_passed true [] e h = refl
comment_passed false [] e h = refl
comment_passed x (b ∷ inner) e h =
    passed_more (in_comment x) b (inner ++ (star ∷ slash ∷ [])) (by x e) (moves (eqb b star))
    (comment_passed (eqb b star) inner (h 0) (λ k. let q : suc k + 1 ≡ suc (k + 1) = omega arith in
    subst (λ (j : ℕ). (eqb (get_or inner k 0) star && eqb (get_or (b ∷ inner) j 0) slash) ≡ false) q (h (suc k))))
  where
    by : (x : Bool) → (x && eqb b slash) ≡ false
        → mode_after (cond x Star Comment) b (get_or (inner ++ (star ∷ slash ∷ [])) 0 0) ≡ cond (eqb b star) Star Comment
    by true q = ap (λ (y : Bool). cond y Between (cond (eqb b star) Star Comment)) q
    by false q = refl

    moves : (y : Bool) → is_stop (cond y Star Comment) ≡ false
    moves true = refl
    moves false = refl

line_passed : (inner : List ℕ) → ((k : ℕ) → eqb (get_or inner k 0) newline ≡ false) → Passed Line (inner ++ (newline ∷ []))
unfolding gap_from
line_passed [] h = refl
line_passed (b ∷ inner) h =
    passed_more Line b (inner ++ (newline ∷ [])) (ap (λ (x : Bool). cond x Between Line) (h 0)) refl (line_passed inner (λ k. h (suc k)))

joined_gaps : (v w : List ℕ) → IsGap v → IsGap w → IsGap (v ++ w)
joined_gaps v w g h =
    let first : 0 + length v ≡ length v + 0 = omega arith in
    ap (gap_from (v ++ w) Between 0) (length-append v w) ∙ gap_through [] v w (length w) g
    ∙ ap (λ (k : ℕ). gap_from (v ++ w) Between k (length w)) first ∙ gap-moved v w Between 0 (length w)
    ∙ ap (λ (x : Gap). gap x.mode (length v + x.at)) h ∙ ap (gap Between) (sym (length-append v w))

pub gaps_are : GapsAre
unfolding gap_from in_comment
gaps_are = record {
  none = refl;
  blank = λ b e. passed_more Between b []
      (ap (λ (x : Bool). cond x Between (cond (opens_line b 0) Line (cond (opens_comment b 0) Opening Stop))) e) refl refl;
  comment = λ inner h. let end = inner ++ (star ∷ slash ∷ []) in
      passed_more Between slash (star ∷ end) refl refl (passed_more Opening star end refl refl (comment_passed false inner refl h));
  line = λ inner h. let end = inner ++ (newline ∷ []) in
      passed_more Between slash (slash ∷ end) refl refl (passed_more Line slash end refl refl (line_passed inner h));
  joined = joined_gaps;
  mixed = refl;
}

pub gaps_are_not : GapsAreNot
unfolding gap_from
gaps_are_not = record {
  word = λ e. true≢false (sym (ap ends e));
  slash_alone = λ e. true≢false (sym (ap ends e));
  half = λ e. true≢false (sym (ap ends e));
  unclosed = λ e. true≢false (sym (ap ends e));
  endless = λ e. true≢false (sym (ap ends e));
  nested = λ e. true≢false (sym (ap ends e));
}
  where
    ends : Gap → Bool
    ends g = is_between g.mode
