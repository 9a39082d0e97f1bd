-- Where a token ends: its last byte opens no comment with the byte behind it, and a gap behind it ends it. Assumes nothing.
use Prim.Native.Nat.{ℕ, zero, suc, ◌+◌, ◌-◌, ◌≤◌, ◌<◌}
use mathlib.Core.Bool.{Bool, true, false, not, ◌&&◌, ◌||◌, cond, or-true, and-eq-true_iff, true≢false}
use mathlib.Core.List.{List, ◌++◌}
use mathlib.Core.Path.{◌≡◌, refl, sym, ap, ◌∙◌, subst}
use native.Mathlib.Omega.{arith}
use borrow.Author.Tests.{ltb-true, ltb-false, eqb-true, not-true}
use lib.Dec.{eqb, ltb}
use lib.ListN.{get_or, length, length-append, get_or-append}
use Rattle.text_token.specs.declared.Token.{Token}
use Rattle.text_gap.specs.declared.Mode.TheVariants.{Between, Line, Opening, Stop}
use Rattle.text_byte.specs.Bytes.{double_quote, backslash, is_blank, is_mark, opens_line, opens_comment, ends_word}
use Rattle.text_gap.specs.Gaps.{between, is_stop, is_open, gap_from}
use Rattle.text_token.specs.Tokens.{form_of, word_form, in_word, quote_end, token_here, token_at}
use Rattle.text_byte.specs.Spans.{span_end}
use Rattle.text_byte.proofs.Spans.{cond_on, span_reach}
use Rattle.text_gap.proofs.Scans.{gap_reach}
use Rattle.theorem_text.proofs.Readings.{Stops, gap-stops}
use Rattle.theorem_text.proofs.Front.{SameFront}

-- a byte `b`, with `c` behind it, opens a comment
abbrev pub opens : ℕ → ℕ → Bool
opens b c = opens_line b c || opens_comment b c

or_second : (x y : Bool) → (x || y) ≡ false → y ≡ false
or_second true y e = absurd (true≢false e)
or_second false y e = e

stop_quiet : (b c : ℕ) → is_stop (between b c) ≡ true → opens b c ≡ false
stop_quiet b c = by (is_blank b) (opens_line b c) (opens_comment b c)
  where
    by : (x y z : Bool) → is_stop (cond x Between (cond y Line (cond z Opening Stop))) ≡ true → (y || z) ≡ false
    by true y z e = absurd (true≢false (sym e))
    by false true z e = absurd (true≢false (sym e))
    by false false true e = absurd (true≢false (sym e))
    by false false false e = refl

-- what does not begin a token ends a word
pub passed_ends : (b c : ℕ) → is_stop (between b c) ≡ false → ends_word b c ≡ true
passed_ends b c = by (is_blank b) (opens_line b c) (opens_comment b c)
  where
    by : (x y z : Bool) → is_stop (cond x Between (cond y Line (cond z Opening Stop))) ≡ false
        → (x || is_mark b || eqb b double_quote || (y || z)) ≡ true
    by true y z e = refl
    by false true z e = or-true (is_mark b || eqb b double_quote)
    by false false true e = or-true (is_mark b || eqb b double_quote)
    by false false false e = absurd (true≢false e)

quiet_between : (b c : ℕ) → opens b c ≡ false → between b c ≡ cond (is_blank b) Between Stop
quiet_between b c = by (opens_line b c) (opens_comment b c)
  where
    by : (y z : Bool) → (y || z) ≡ false → cond (is_blank b) Between (cond y Line (cond z Opening Stop)) ≡ cond (is_blank b) Between Stop
    by true z e = absurd (true≢false e)
    by false true e = absurd (true≢false e)
    by false false e = refl

here_or_later : {P : Type 0} (at k : ℕ) → at ≤ k → (at ≡ k → P) → (at < k → P) → P
here_or_later {P} at k h f g = by (ltb at k) refl
  where
    by : (x : Bool) → ltb at k ≡ x → P
    by true e = g (ltb-true at k e)
    by false e = f (let l = ltb-false at k e in omega (arith, l, h))

-- the last place that passes a test
span_last : (test : ℕ → Bool) (at n k : ℕ) → at ≤ k → span_end test at n ≡ k + 1 → test k ≡ true
unfolding span_end
span_last test at zero k h e = absurd (omega (arith, h, e))
span_last test at (suc n) k h f =
    cond_on (λ (z : ℕ). z ≡ k + 1 → test k ≡ true) (test at)
    (λ t e. here_or_later at k h (λ same. subst (λ (z : ℕ). test z ≡ true) same t) (λ l. span_last test (at + 1) n k (omega (arith, l)) e))
    (λ _ e. absurd (omega (arith, h, e))) f

-- the closing quote is one
quote_is : (text : List ℕ) (taken : Bool) (at n : ℕ) → quote_end text taken at n < at + n
    → eqb (get_or text (quote_end text taken at n) 0) double_quote ≡ true
unfolding quote_end
quote_is text taken at zero h = absurd (omega (arith, h))
quote_is text taken at (suc n) h =
    cond_on (λ (z : ℕ). z < at + suc n → eqb (get_or text z 0) double_quote ≡ true) (not taken && eqb (get_or text at 0) double_quote)
    (λ t _. ((and-eq-true_iff (not taken) (eqb (get_or text at 0) double_quote)).0 t).1)
    (λ _ l. quote_is text (not taken && eqb (get_or text at 0) backslash) (at + 1) n (omega (arith, l))) h

module _ (text : List ℕ) where
  -- no comment opens at a place
  abbrev pub Quiet : ℕ → Type 0
  Quiet k = opens (get_or text k 0) (get_or text (k + 1) 0) ≡ false

  -- a token that ends behind place `k`
  abbrev Last : ℕ → Token → Type 0
  Last k t = word_form ≤ (form_of t) → t.next ≡ k + 1 → Quiet k

  quote_quiet : (k : ℕ) → eqb (get_or text k 0) double_quote ≡ true → Quiet k
  quote_quiet k e = ap (λ (b : ℕ). opens b (get_or text (k + 1) 0)) (eqb-true (get_or text k 0) double_quote e)

  here_quiet : (i k : ℕ) → i < length text → Stops text i → Last k (token_here text i)
  here_quiet i k l e =
      let n = length text - (i + 1) in
      let quote = quote_end text false (i + 1) n in
      let word = span_end (in_word text) (i + 1) n in
      let first = stop_quiet (get_or text i 0) (get_or text (i + 1) 0) e in
      cond_on (Last k) (eqb (get_or text i 0) double_quote)
      (λ _. cond_on (Last k) (ltb quote (length text))
      (λ t _ f. let inside = ltb-true quote (length text) t in let here : quote ≡ k = omega (arith, f) in
      quote_quiet k (subst (λ (z : ℕ). eqb (get_or text z 0) double_quote ≡ true) here (quote_is text false (i + 1) n (omega (arith, inside, l)))))
      (λ _ f. absurd (omega (arith, f))))
      (λ _. cond_on (Last k) (is_mark (get_or text i 0)) (λ _ _ f. let here : i ≡ k = omega (arith, f) in subst Quiet here first)
      (λ _ _ f. let r = span_reach (in_word text) (i + 1) n in here_or_later i k (omega (arith, f, r.0)) (λ here. subst Quiet here first)
      (λ m. or_second (is_blank (get_or text k 0) || is_mark (get_or text k 0) || eqb (get_or text k 0) double_quote)
      (opens (get_or text k 0) (get_or text (k + 1) 0))
      (not-true (ends_word (get_or text k 0) (get_or text (k + 1) 0)) (span_last (in_word text) (i + 1) n k (omega (arith, m)) f)))))

  pub last_quiet : (q k : ℕ) → Last k (token_at text q)
  last_quiet q k =
      let g = gap_from text Between q (length text - q) in
      let r = gap_reach text Between q (length text - q) in
      cond_on (Last k) (ltb g.at (length text))
      (λ l. let h = ltb-true g.at (length text) l in
      here_quiet g.at k h (gap-stops text Between q (length text - q) refl (omega (arith, h, r.0))))
      (λ _. cond_on (Last k) (is_open g.mode) (λ _ f. absurd (omega (arith, f))) (λ _ f. absurd (omega (arith, f))))

-- no comment opens at the last byte of a text's front
abbrev pub QuietEnd : List ℕ → List ℕ → Type 0
QuietEnd front s = (k : ℕ) → k + 1 ≡ length front → Quiet (front ++ s) k

module _ (front s t : List ℕ) (first : QuietEnd front s) (second : QuietEnd front t) where
  byte : (k : ℕ) → k < length front → get_or (front ++ t) k 0 ≡ get_or (front ++ s) k 0
  byte k h = get_or-append front t 0 k h ∙ sym (get_or-append front s 0 k h)

  -- what only a comment's opening makes depend on the byte behind
  looked : {X : Type 0} (f : ℕ → ℕ → X) → ((b c d : ℕ) → opens b c ≡ false → opens b d ≡ false → f b c ≡ f b d)
      → (k : ℕ) → k < length front
      → f (get_or (front ++ t) k 0) (get_or (front ++ t) (k + 1) 0) ≡ f (get_or (front ++ s) k 0) (get_or (front ++ s) (k + 1) 0)
  looked f same k h =
      here_or_later (k + 1) (length front) (omega (arith, h))
      (λ e. ap (λ (b : ℕ). f b (get_or (front ++ t) (k + 1) 0)) (byte k h)
      ∙ same (get_or (front ++ s) k 0) (get_or (front ++ t) (k + 1) 0) (get_or (front ++ s) (k + 1) 0)
      (subst (λ (b : ℕ). opens b (get_or (front ++ t) (k + 1) 0) ≡ false) (byte k h) (second k e)) (first k e))
      (λ l i. f (byte k h i) (byte (k + 1) l i))

  pub same_front : (length front < length (front ++ t) → in_word (front ++ t) (length front) ≡ false) → SameFront (front ++ s) (front ++ t) (length front)
  same_front ends = record {
    inside = let e = length-append front s in omega (arith, e);
    within = let e = length-append front t in omega (arith, e);
    bytes = byte;
    gaps = looked between (λ b c d e f. quiet_between b c e ∙ sym (quiet_between b d f));
    words = looked (λ b c. not (ends_word b c))
        (λ b c d e f. ap (λ (x : Bool). not (is_blank b || is_mark b || eqb b double_quote || x)) (e ∙ sym f));
    ends = ends;
  }
