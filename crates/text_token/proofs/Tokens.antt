-- Where a token stands: inside the text, and behind the place that it was looked for from; and white space before it. Assumes nothing.
use Prim.Native.Nat.{ℕ, zero, suc, ◌+◌, ◌-◌, ◌≤◌, ◌<◌}
use mathlib.Core.Bool.{Bool, true, false, not, ◌&&◌, cond, and-eq-true_iff}
use mathlib.Core.List.{List}
use mathlib.Core.Path.{◌≡◌, refl, sym, ap, ◌∙◌, subst}
use native.Mathlib.Omega.{arith}
use borrow.Author.Tests.{ltb-true, lt-ltb}
use lib.Dec.{eqb, ltb}
use lib.ListN.{get_or, length}
use Rattle.text_byte.specs.Bytes.{double_quote, slash, is_mark}
use Rattle.text_byte.specs.Spans.{span_end}
use Rattle.text_byte.proofs.Bytes.{unlike, mark_blank}
use Rattle.text_byte.proofs.Spans.{cond_on, Reach, reach_step, span_reach}
use Rattle.text_gap.specs.declared.Mode.TheVariants.{Between}
use Rattle.text_gap.specs.Gaps.{is_open, gap_from}
use Rattle.text_gap.specs.Passing.{blank_at, starts_token}
use Rattle.text_gap.proofs.Scans.{gap_reach}
use Rattle.text_gap.proofs.GapRuns.{blanks_same, token-starts}
use Rattle.text_token.specs.declared.Form.{Form}
use Rattle.text_token.specs.declared.Form.TheVariants.{End, Unclosed}
use Rattle.text_token.specs.declared.Token.{Token}
use Rattle.text_token.specs.Tokens.{mark_form, form_number, token, in_word, quote_end, ended, token_here, token_behind, token_at, Placed}

pub quote_reach : (text : List ℕ) (taken : Bool) (at n : ℕ) → Reach at n (quote_end text taken at n)
unfolding quote_end
quote_reach text taken at zero = (omega arith, omega arith)
quote_reach text taken at (suc n) =
    let b = get_or text at 0 in
    let r = quote_reach text (not taken && eqb b 92) (at + 1) n in
    cond_on (Reach at (suc n)) (not taken && eqb b 34) (λ _. (omega arith, omega arith)) (λ _. reach_step at n r)

module _ (text : List ℕ) (from : ℕ) where
  ended-placed : (form : Form) → form_number form < 2 → Placed text from (ended text form)
  ended-placed form h =
      record { ordered = omega arith; inside = omega arith; whole = omega arith; onward = λ k. k; ahead = λ k. absurd (omega arith) }

  here-placed : (at : ℕ) → from ≤ at → at < length text → Placed text from (token_here text at)
  here-placed at h k =
      let b = get_or text at 0 in
      let left = length text - (at + 1) in
      let quote = quote_end text false (at + 1) left in
      let word = span_end (in_word text) (at + 1) left in
      let q = quote_reach text false (at + 1) left in
      let w = span_reach (in_word text) (at + 1) left in
      cond_on (Placed text from) (eqb b 34)
      (λ _. cond_on (Placed text from) (ltb quote (length text))
      (λ e. let i = ltb-true quote (length text) e in
      record { ordered = omega arith; inside = omega arith; whole = omega arith; onward = λ _. omega arith; ahead = λ _. omega arith })
      (λ _. ended-placed Unclosed (omega arith)))
      (λ _. cond_on (Placed text from) (is_mark b)
      (λ _. record { ordered = omega arith; inside = omega arith; whole = omega arith; onward = λ _. omega arith; ahead = λ _. omega arith })
      (λ _. record { ordered = omega arith; inside = omega arith; whole = omega arith; onward = λ _. omega arith; ahead = λ _. omega arith }))

  pub token_at-placed : Placed text from (token_at text from)
  token_at-placed =
      let s = gap_from text Between from (length text - from) in
      let r = gap_reach text Between from (length text - from) in
      cond_on (Placed text from) (ltb s.at (length text))
      (λ e. here-placed s.at r.0 (ltb-true s.at (length text) e))
      (λ _. cond_on (Placed text from) (is_open s.mode) (λ _. ended-placed Unclosed (omega arith)) (λ _. ended-placed End (omega arith)))

  pub placed_as : {t : Token} → t ≡ token_at text from → Placed text from t
  placed_as e = subst (Placed text from) (sym e) token_at-placed

  -- white space before a token does not matter
  pub token_at_blanks : {at : ℕ} → at ≡ span_end (blank_at text) from (length text - from) → token_at text from ≡ token_at text at
  token_at_blanks e = ap (token_behind text) (blanks_same text from e)

  -- a token whose first byte stands here
  pub token_at-here : starts_token text from ≡ true → token_at text from ≡ token_here text from
  token_at-here e =
      ap (token_behind text) (token-starts text from e)
      ∙ ap (λ (x : Bool). cond x (token_here text from) (ended text End)) ((and-eq-true_iff (ltb from (length text)) _).0 e).0

  pub token_at_mark : {mark : ℕ} → from < length text → get_or text from 0 ≡ mark → is_mark mark ≡ true → token (mark_form mark) from (from + 1) (from + 1) ≡ token_at text from
  token_at_mark h same e =
      let b = get_or text from 0 in
      let marks : is_mark b ≡ true = ap is_mark same ∙ e in
      let first : starts_token text from ≡ true = simp (lt-ltb from (length text) h, mark_blank b marks, unlike is_mark b slash marks refl) in
      ap (λ (m : ℕ). token (mark_form m) from (from + 1) (from + 1)) (sym same)
      ∙ sym (token_at-here first ∙ simp (unlike is_mark b double_quote marks refl, marks))
