-- A text put behind another one is read as it is read by itself, each place later by the length of what stands in front. Assumes nothing.
use Prim.Native.Nat.{ℕ, zero, suc, ◌+◌, ◌-◌}
use mathlib.Core.Bool.{Bool, true, false, not, ◌&&◌, cond}
use mathlib.Core.List.{List, ◌++◌}
use mathlib.Core.Path.{◌≡◌, refl, ap, ◌∙◌}
use native.Mathlib.Omega.{arith}
use borrow.Author.Tests.{ltb-true, ltb-false, lt-ltb, le-ltb}
use lib.Dec.{eqb, ltb}
use lib.ListN.{get_or, length, length-append, take}
use lib.Seq.{get_or-append-add, drop-append-add}
use Rattle.text_token.specs.declared.Form.{Form}
use Rattle.text_token.specs.declared.Form.TheVariants.{End, Unclosed, String}
use Rattle.text_token.specs.declared.Token.{Token}
use Rattle.text_gap.specs.declared.Mode.{Mode}
use Rattle.text_gap.specs.declared.Mode.TheVariants.{Between}
use Rattle.text_gap.specs.declared.Gap.{Gap}
use Rattle.text_byte.specs.Bytes.{double_quote, backslash, is_mark, ends_word}
use Rattle.text_gap.specs.Gaps.{mode_after, is_stop, is_open, gap, gap_from}
use Rattle.text_token.specs.Tokens.{mark_form, token, in_word, quote_end, ended, string_to, word_to, token_here, token_behind, token_at, word_of}
use Rattle.text_byte.specs.Spans.{span_end}
use Rattle.theorem_text.specs.Tokens.{token_place}

-- `c` places later
abbrev pub moved_gap : ℕ → Gap → Gap
moved_gap c g = gap g.mode (c + g.at)

abbrev pub moved : ℕ → Token → Token
moved c t = token t.form (c + t.start) (c + t.end) (c + t.next)

-- a choice that is moved
cond-ap : {X Y : Type 0} (f : X → Y) (b : Bool) {x y : X} {u v : Y} → u ≡ f x → v ≡ f y → cond b u v ≡ f (cond b x y)
cond-ap f true e g = e
cond-ap f false e g = g

module _ (front rest : List ℕ) where
  abbrev text : List ℕ
  text = front ++ rest

  abbrev c : ℕ
  c = length front

  byte : (j : ℕ) → get_or text (c + j) 0 ≡ get_or rest j 0
  byte j = get_or-append-add front rest j 0

  later : (j : ℕ) → c + j + 1 ≡ c + (j + 1)
  later j = omega arith

  byte_next : (j : ℕ) → get_or text (c + j + 1) 0 ≡ get_or rest (j + 1) 0
  byte_next j = ap (λ (k : ℕ). get_or text k 0) (later j) ∙ byte (j + 1)

  long : length text ≡ c + length rest
  long = length-append front rest

  left : (j : ℕ) → length text - (c + j) ≡ length rest - j
  left j = let e = long in omega (arith, e)

  pub gap-moved : (m : Mode) (j n : ℕ) → gap_from text m (c + j) n ≡ moved_gap c (gap_from rest m j n)
  unfolding gap_from
  gap-moved m j zero = refl
  gap-moved m j (suc n) =
      let step : Mode → Gap = λ after. cond (is_stop after) (gap after (c + j)) (gap_from text after (c + j + 1) n) in
      let after = mode_after m (get_or rest j 0) (get_or rest (j + 1) 0) in
      (λ i. step (mode_after m (byte j i) (byte_next j i)))
      ∙ cond-ap (moved_gap c) (is_stop after) refl (ap (λ (k : ℕ). gap_from text after k n) (later j) ∙ gap-moved after (j + 1) n)

  span_moved : (j n : ℕ) → span_end (in_word text) (c + j) n ≡ c + span_end (in_word rest) j n
  unfolding span_end
  span_moved j zero = refl
  span_moved j (suc n) =
      (λ i. cond (not (ends_word (byte j i) (byte_next j i))) (span_end (in_word text) (c + j + 1) n) (c + j))
      ∙ cond-ap (λ (k : ℕ). c + k) (in_word rest j) (ap (λ (k : ℕ). span_end (in_word text) k n) (later j) ∙ span_moved (j + 1) n) refl

  quote_moved : (taken : Bool) (j n : ℕ) → quote_end text taken (c + j) n ≡ c + quote_end rest taken j n
  unfolding quote_end
  quote_moved taken j zero = refl
  quote_moved taken j (suc n) =
      (λ i. cond (not taken && eqb (byte j i) double_quote) (c + j) (quote_end text (not taken && eqb (byte j i) backslash) (c + j + 1) n))
      ∙ cond-ap (λ (k : ℕ). c + k) (not taken && eqb (get_or rest j 0) double_quote) refl
      (ap (λ (k : ℕ). quote_end text (not taken && eqb (get_or rest j 0) backslash) k n) (later j)
      ∙ quote_moved (not taken && eqb (get_or rest j 0) backslash) (j + 1) n)

  ltb-moved : (k : ℕ) → ltb (c + k) (length text) ≡ ltb k (length rest)
  ltb-moved k = by (ltb k (length rest)) refl
    where
      by : (x : Bool) → ltb k (length rest) ≡ x → ltb (c + k) (length text) ≡ x
      by true e = let h = ltb-true k (length rest) e in lt-ltb (c + k) (length text) (omega (arith, h, long))
      by false e = let h = ltb-false k (length rest) e in le-ltb (c + k) (length text) (omega (arith, h, long))

  ended-moved : (form : Form) → ended text form ≡ moved c (ended rest form)
  ended-moved form = λ i. token form (long i) (long i) (long i)

  string-moved : (j end : ℕ) → string_to text (c + j) (c + end) ≡ moved c (string_to rest j end)
  string-moved j end =
      ap (λ (x : Bool). cond x (token String (c + j) (c + end) (c + end + 1)) (ended text Unclosed)) (ltb-moved end)
      ∙ cond-ap (moved c) (ltb end (length rest)) (ap (token String (c + j) (c + end)) (later end)) (ended-moved Unclosed)

  here-moved : (j : ℕ) → token_here text (c + j) ≡ moved c (token_here rest j)
  here-moved j =
      let b = get_or rest j 0 in
      let n = length rest - (j + 1) in
      let left-next : length text - (c + j + 1) ≡ n = let e = long in omega (arith, e) in
      let quote : quote_end text false (c + j + 1) (length text - (c + j + 1)) ≡ c + quote_end rest false (j + 1) n =
      (λ i. quote_end text false (later j i) (left-next i)) ∙ quote_moved false (j + 1) n in
      let word : span_end (in_word text) (c + j + 1) (length text - (c + j + 1)) ≡ c + span_end (in_word rest) (j + 1) n =
      (λ i. span_end (in_word text) (later j i) (left-next i)) ∙ span_moved (j + 1) n in
      (λ i. cond (eqb (byte j i) double_quote) (string_to text (c + j) (quote i))
      (cond (is_mark (byte j i)) (token (mark_form (byte j i)) (c + j) (later j i) (later j i)) (word_to (c + j) (word i))))
      ∙ cond-ap (moved c) (eqb b double_quote) (string-moved j (quote_end rest false (j + 1) n)) (cond-ap (moved c) (is_mark b) refl refl)

  behind_moved : (g : Gap) → token_behind text (moved_gap c g) ≡ moved c (token_behind rest g)
  behind_moved g =
      ap (λ (x : Bool). cond x (token_here text (c + g.at)) (cond (is_open g.mode) (ended text Unclosed) (ended text End)))
      (ltb-moved g.at)
      ∙ cond-ap (moved c) (ltb g.at (length rest)) (here-moved g.at)
      (cond-ap (moved c) (is_open g.mode) (ended-moved Unclosed) (ended-moved End))

  pub token-moved : (j : ℕ) → token_at text (c + j) ≡ moved c (token_at rest j)
  token-moved j =
      ap (λ (n : ℕ). token_behind text (gap_from text Between (c + j) n)) (left j)
      ∙ ap (token_behind text) (gap-moved Between j (length rest - j)) ∙ behind_moved (gap_from rest Between j (length rest - j))

  pub place-moved : (k j : ℕ) → token_place text (c + j) k ≡ c + token_place rest j k
  unfolding token_place
  place-moved zero j = refl
  place-moved (suc k) j = ap (λ (t : Token). token_place text t.next k) (token-moved j) ∙ place-moved k (token_at rest j).next

  pub word_moved : (t : Token) → word_of text (moved c t) ≡ word_of rest t
  word_moved t =
      let e : (c + t.end) - (c + t.start) ≡ t.end - t.start = omega arith in
      λ i. take (e i) (drop-append-add front rest t.start i)
