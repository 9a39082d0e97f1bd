-- Laws of a string read run by run: bytes that mean nothing, and a backslash with the byte that it takes. Assumes nothing.
use Prim.Native.Nat.{ℕ, zero, suc, ◌+◌, ◌-◌, ◌≤◌, ◌<◌}
use mathlib.Core.Bool.{Bool, true, false, not, ◌||◌, cond, true≢false}
use mathlib.Core.List.{List}
use mathlib.Core.Path.{◌≡◌, refl, sym, ap, ◌∙◌, subst}
use native.Mathlib.Omega.{arith}
use lib.Dec.{eqb}
use lib.ListN.{get_or, length}
use Rattle.text_byte.specs.Bytes.{double_quote, backslash}
use Rattle.text_token.specs.Tokens.{quote_end}
use Rattle.text_byte.specs.Spans.{span_end}
use Rattle.text_byte.proofs.Spans.{neither, by_test}
use Rattle.text_token.specs.Inner.{ends_run, StringRun}
use Rattle.text_token.proofs.Scans.{quote_more, quote_done}

-- of a quote and a backslash the second, where it is not the first
pub other : (x y : Bool) → (x || y) ≡ true → x ≡ false → y ≡ true
other true y e f = absurd (true≢false f)
other false y e f = e

module _ (text : List ℕ) (at : ℕ) where
  -- a byte that means nothing
  pub quote_plain : at < length text → (eqb (get_or text at 0) double_quote || eqb (get_or text at 0) backslash) ≡ false
      → quote_end text false at (length text - at) ≡ quote_end text false (at + 1) (length text - (at + 1))
  quote_plain h e =
      let n = neither (eqb (get_or text at 0) double_quote) (eqb (get_or text at 0) backslash) e in
      quote_more text false at (length text) h n.0 ∙ ap (λ (x : Bool). quote_end text x (at + 1) (length text - (at + 1))) n.1

  -- a backslash at the text's end
  pub quote_last : length text - at ≡ 1 → eqb (get_or text at 0) double_quote ≡ false → quote_end text false at (length text - at) ≡ length text
  quote_last h e =
      let end : at + 1 ≡ length text = omega arith in
      quote_more text false at (length text) (omega arith) e ∙ quote_done text _ (at + 1) (length text) (omega arith) ∙ end

  -- a backslash, and the byte that it takes
  pub quote_taken : at + 1 < length text → eqb (get_or text at 0) double_quote ≡ false → eqb (get_or text at 0) backslash ≡ true
      → quote_end text false at (length text - at) ≡ quote_end text false (at + 2) (length text - (at + 2))
  quote_taken h e f =
      let two : at + 1 + 1 ≡ at + 2 = omega arith in
      quote_more text false at (length text) (omega arith) e
      ∙ ap (λ (x : Bool). quote_end text x (at + 1) (length text - (at + 1))) f
      ∙ quote_more text true (at + 1) (length text) h refl
      ∙ ap (λ (k : ℕ). quote_end text false k (length text - k)) two

module _ (text : List ℕ) where
  -- the byte at a place is neither a quote nor a backslash
  abbrev pub plain_at : ℕ → Bool
  plain_at i = not (ends_run text i)

  -- over such bytes the string goes on
  run_for : (n at : ℕ) → n + at ≡ length text → StringRun text at (span_end plain_at at n)
  unfolding span_end
  run_for zero at e = record { same = refl; onward = omega arith; stops = λ h. absurd (omega (arith, h, e)) }
  run_for (suc n) at e =
      by_test (ends_run text at)
      (λ t. subst (StringRun text at) (ap (λ (x : Bool). cond x (span_end plain_at (at + 1) n) at) (sym (ap not t)))
      (record { same = refl; onward = omega arith; stops = λ _. t }))
      (λ t. let next = run_for n (at + 1) (omega arith) in
      let o = next.onward in
      subst (StringRun text at) (ap (λ (x : Bool). cond x (span_end plain_at (at + 1) n) at) (sym (ap not t)))
      (record { same = quote_plain text at (omega (arith, e)) t ∙ next.same; onward = omega arith; stops = next.stops }))

  pub runs_to : (from : ℕ) → from ≤ length text → {to : ℕ} → to ≡ span_end plain_at from (length text - from) → StringRun text from to
  runs_to from h e = subst (StringRun text from) (sym e) (run_for (length text - from) from (omega arith))
