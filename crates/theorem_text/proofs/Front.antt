-- Two texts that begin with the same bytes have the same tokens there: nothing is read further than one byte behind a token. Assumes nothing.
use Prim.Native.Nat.{ℕ, zero, suc, ◌+◌, ◌-◌, ◌≤◌, ◌<◌}
use mathlib.Core.Bool.{Bool, true, false, not, ◌&&◌, cond}
use mathlib.Core.List.{List}
use mathlib.Core.Path.{◌≡◌, refl, sym, ap, ◌∙◌, subst}
use native.Mathlib.Omega.{arith}
use borrow.Author.Tests.{lt-ltb}
use lib.Dec.{eqb, ltb}
use lib.ListN.{get_or, length}
use Rattle.text_token.specs.declared.Form.TheVariants.{Unclosed, String}
use Rattle.text_token.specs.declared.Token.{Token}
use Rattle.text_gap.specs.declared.Mode.{Mode}
use Rattle.text_gap.specs.declared.Mode.TheVariants.{Between, Line, Opening, Comment, Star, Stop}
use Rattle.text_gap.specs.declared.Gap.{Gap}
use Rattle.text_byte.specs.Bytes.{newline, star, slash, double_quote, backslash, is_mark}
use Rattle.text_gap.specs.Gaps.{between, mode_after, is_stop, gap, gap_from}
use Rattle.text_token.specs.Tokens.{mark_form, form_of, word_form, token, in_word, quote_end, ended, string_to, word_to, token_here, token_behind, token_at}
use Rattle.text_byte.specs.Spans.{span_end}
use Rattle.text_byte.proofs.Spans.{span_reach}
use Rattle.text_token.proofs.Tokens.{quote_reach, token_at-placed}
use Rattle.text_gap.proofs.Scans.{gap_reach}
use Rattle.theorem_text.proofs.Readings.{behind-inside, gap_start, token-again}

-- the first `p` bytes are the same and mean the same, and behind them the second text ends or has no byte of a word
pub record SameFront (a b : List ℕ) (p : ℕ) : Type 0 where
  pub inside : p ≤ length a
  pub within : p ≤ length b
  pub bytes : (k : ℕ) → k < p → get_or b k 0 ≡ get_or a k 0
  pub gaps : (k : ℕ) → k < p → between (get_or b k 0) (get_or b (k + 1) 0) ≡ between (get_or a k 0) (get_or a (k + 1) 0)
  pub words : (k : ℕ) → k < p → in_word b k ≡ in_word a k
  pub ends : p < length b → in_word b p ≡ false

-- two choices by one test, of which the one that is taken is the same
choice : {X : Type 0} (P : X → Type 0) (x : Bool) {u v w z : X} → (P u → v ≡ u) → (P w → z ≡ w) → P (cond x u w) → cond x v z ≡ cond x u w
choice P true f g h = f h
choice P false f g h = g h

module _ {a b : List ℕ} {p : ℕ} (s : SameFront a b p) where
  modes : (m : Mode) (k : ℕ) → k < p → mode_after m (get_or b k 0) (get_or b (k + 1) 0) ≡ mode_after m (get_or a k 0) (get_or a (k + 1) 0)
  modes Between k h = s.gaps k h
  modes Line k h = ap (λ (x : ℕ). cond (eqb x newline) Between Line) (s.bytes k h)
  modes Opening k h = refl
  modes Comment k h = ap (λ (x : ℕ). cond (eqb x star) Star Comment) (s.bytes k h)
  modes Star k h = ap (λ (x : ℕ). cond (eqb x slash) Between (cond (eqb x star) Star Comment)) (s.bytes k h)
  modes Stop k h = refl

  -- `d` places before `p`
  gap_front : (d q : ℕ) (m : Mode) (n k : ℕ) → q + d ≡ p → d ≤ n → d ≤ k → (gap_from a m q n).at < p → gap_from b m q k ≡ gap_from a m q n
  unfolding gap_from
  gap_front zero q m n k e i j h = let r = gap_reach a m q n in absurd (omega (arith, r.0, h, e))
  gap_front (suc d) q m zero k e i j h = absurd (omega (arith, i))
  gap_front (suc d) q m (suc n) zero e i j h = absurd (omega (arith, j))
  gap_front (suc d) q m (suc n) (suc k) e i j h =
      let after = mode_after m (get_or a q 0) (get_or a (q + 1) 0) in
      ap (λ (x : Mode). cond (is_stop x) (gap x q) (gap_from b x (q + 1) k)) (modes m q (omega (arith, e)))
      ∙ choice (λ (g : Gap). g.at < p) (is_stop after) (λ _. refl)
      (gap_front d (q + 1) after n k (omega (arith, e)) (omega (arith, i)) (omega (arith, j))) h

  span_front : (d q n k : ℕ) → q + d ≡ p → d ≤ n → q + k ≡ length b → span_end (in_word a) q n ≤ p → span_end (in_word b) q k ≡ span_end (in_word a) q n
  unfolding span_end
  span_front zero q n zero e i j h = let r = span_reach (in_word a) q n in omega (arith, r.0, h, e)
  span_front zero q n (suc k) e i j h =
      let r = span_reach (in_word a) q n in
      let here : p ≡ q = omega (arith, e) in
      let same : q ≡ span_end (in_word a) q n = omega (arith, r.0, h, e) in
      let past = subst (λ (z : ℕ). in_word b z ≡ false) here (s.ends (omega (arith, e, j))) in
      ap (λ (x : Bool). cond x (span_end (in_word b) (q + 1) k) q) past ∙ same
  span_front (suc d) q zero k e i j h = absurd (omega (arith, i))
  span_front (suc d) q (suc n) zero e i j h = let l = s.within in absurd (omega (arith, e, j, l))
  span_front (suc d) q (suc n) (suc k) e i j h =
      ap (λ (x : Bool). cond x (span_end (in_word b) (q + 1) k) q) (s.words q (omega (arith, e)))
      ∙ choice (λ (z : ℕ). z ≤ p) (in_word a q) (span_front d (q + 1) n k (omega (arith, e)) (omega (arith, i)) (omega (arith, j))) (λ _. refl) h

  quote_front : (d q : ℕ) (taken : Bool) (n k : ℕ) → q + d ≡ p → d ≤ n → d ≤ k → quote_end a taken q n < p → quote_end b taken q k ≡ quote_end a taken q n
  unfolding quote_end
  quote_front zero q taken n k e i j h = let r = quote_reach a taken q n in absurd (omega (arith, r.0, h, e))
  quote_front (suc d) q taken zero k e i j h = absurd (omega (arith, i))
  quote_front (suc d) q taken (suc n) zero e i j h = absurd (omega (arith, j))
  quote_front (suc d) q taken (suc n) (suc k) e i j h =
      ap (λ (c : ℕ). cond (not taken && eqb c double_quote) q (quote_end b (not taken && eqb c backslash) (q + 1) k)) (s.bytes q (omega (arith, e)))
      ∙ choice (λ (z : ℕ). z < p) (not taken && eqb (get_or a q 0) double_quote) (λ _. refl)
      (quote_front d (q + 1) (not taken && eqb (get_or a q 0) backslash) n k (omega (arith, e)) (omega (arith, i)) (omega (arith, j))) h

  -- a token that ends before `p`
  Ends : Token → Type 0
  Ends t = (word_form ≤ (form_of t)) × (t.next ≤ p)

  string_front : (i : ℕ) → i < p
      → Ends (string_to a i (quote_end a false (i + 1) (length a - (i + 1))))
      → string_to b i (quote_end b false (i + 1) (length b - (i + 1))) ≡ string_to a i (quote_end a false (i + 1) (length a - (i + 1)))
  unfolding Ends
  string_front i l h = by (ltb qa (length a)) refl h
    where
      qa : ℕ
      qa = quote_end a false (i + 1) (length a - (i + 1))

      by : (x : Bool) → ltb qa (length a) ≡ x → Ends (cond x (token String i qa (qa + 1)) (ended a Unclosed))
          → string_to b i (quote_end b false (i + 1) (length b - (i + 1))) ≡ cond x (token String i qa (qa + 1)) (ended a Unclosed)
      by true e f =
          let m = s.inside in
          let n = s.within in
          ap (string_to b i)
          (quote_front (p - (i + 1)) (i + 1) false (length a - (i + 1)) (length b - (i + 1)) (omega (arith, l)) (omega (arith, m))
          (omega (arith, n)) (omega (arith, f.1)))
          ∙ ap (λ (x : Bool). cond x (token String i qa (qa + 1)) (ended b Unclosed)) (lt-ltb qa (length b) (omega (arith, f.1, n)))
      by false e f = absurd (omega (arith, f.0))

  word_front : (i : ℕ) → i < p → span_end (in_word a) (i + 1) (length a - (i + 1)) ≤ p
      → span_end (in_word b) (i + 1) (length b - (i + 1)) ≡ span_end (in_word a) (i + 1) (length a - (i + 1))
  word_front i l h =
      let m = s.inside in
      let n = s.within in
      span_front (p - (i + 1)) (i + 1) (length a - (i + 1)) (length b - (i + 1)) (omega (arith, l)) (omega (arith, m)) (omega (arith, n, l)) h

  here_front : (i : ℕ) → i < p → Ends (token_here a i) → token_here b i ≡ token_here a i
  unfolding Ends
  here_front i l =
      let c = get_or a i 0 in
      λ h. ap (λ (x : ℕ). cond (eqb x double_quote) (string_to b i (quote_end b false (i + 1) (length b - (i + 1))))
      (cond (is_mark x) (token (mark_form x) i (i + 1) (i + 1)) (word_to i (span_end (in_word b) (i + 1) (length b - (i + 1)))))) (s.bytes i l)
      ∙ choice Ends (eqb c double_quote) (string_front i l)
      (choice Ends (is_mark c) (λ _. refl) (λ k. ap (word_to i) (word_front i l k.1))) h

  -- is a token of the other text
  pub token_front : (q : ℕ) → q ≤ p → word_form ≤ (form_of (token_at a q)) → (token_at a q).next ≤ p → token_at b q ≡ token_at a q
  unfolding Ends
  token_front q l f h =
      let g = gap_from a Between q (length a - q) in
      let m = s.inside in
      let n = s.within in
      let again = token-again a q f in
      let ahead : (token_at a q).start < (token_at a q).next =
      subst (λ (t : Token). word_form ≤ (form_of t) → (token_at a q).start < t.next) again (token_at-placed a (token_at a q).start).ahead f in
      let start = gap_start a q f in
      let before : g.at < p = omega (arith, start, ahead, h) in
      let here : token_at a q ≡ token_here a g.at = behind-inside a g (omega (arith, before, m)) in
      let same = gap_front (p - q) q Between (length a - q) (length b - q) (omega (arith, l)) (omega (arith, m)) (omega (arith, n)) before in
      ap (token_behind b) same ∙ behind-inside b g (omega (arith, before, n)) ∙ here_front g.at before (subst Ends here (f, h)) ∙ sym here
