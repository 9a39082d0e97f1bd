-- The same value in two texts, and where it is read. Assumes nothing.
use Prim.Native.Nat.{ℕ, zero, suc, ◌+◌, ◌-◌, ◌≤◌, ◌<◌}
use mathlib.Core.Bool.{Bool, true, false, ◌&&◌, cond, true≢false}
use mathlib.Core.List.{List, [], ◌∷◌}
use mathlib.Core.Path.{◌≡◌, refl, sym, ap, ◌∙◌, subst}
use native.Mathlib.Omega.{arith}
use borrow.Author.Tests.{ltb-true, lt-ltb, le-ltb, ne_eqb}
use lib.Dec.{eqb, ltb, leb}
use lib.IntN.{ℤ}
use lib.Ieee.{Float}
use lib.ListN.{get_or, length, take, drop}
use lib.Seq.{drop-drop}
use Rattle.std.specs.Prelude.{Ok, Err}
use Rattle.text_token.specs.declared.Form.{Form}
use Rattle.text_token.specs.declared.Form.TheVariants.{End, Unclosed}
use Rattle.text_token.specs.declared.Token.{Token}
use Rattle.text_gap.specs.declared.Mode.{Mode}
use Rattle.text_gap.specs.declared.Mode.TheVariants.{Between, Line, Opening, Comment, Star, Stop}
use Rattle.text_gap.specs.declared.Gap.{Gap}
use Rattle.text_byte.specs.Bytes.{newline, star, slash, double_quote, semicolon, equals_sign, open_brace, close_brace, is_mark}
use Rattle.text_gap.specs.Gaps.{between, mode_after, is_stop, is_open, gap, gap_from}
use Rattle.text_token.specs.Tokens.{mark_form, form_number, form_of, word_form, string_form, quote_end, ended, token_here, token_behind, token_at, bytes_of, word_of}
use Rattle.text_byte.proofs.Spans.{cond_on}
use Rattle.text_gap.proofs.Scans.{gap_reach, gap-stop}
use Rattle.text_value.specs.declared.Value.TheVariants.{Whole, Decimal, Text, Flag}
use Rattle.text_value.specs.declared.Misread.TheVariants.{WholePast, DecimalPast, NoValue}
use Rattle.text_value.specs.Numbers.{digits_from, digits_end, hex_ok, whole_ok, decimal_ok, minus_sign, behind_sign, signed, most_of, decimal_fits, decimal_digits, quotient}
use Rattle.text_value.specs.Values.{Reading, is_true, is_false, whole_read, digits_read, word_read, token_read}
use Rattle.text_record.specs.Fields.{whole_or, decimal_or, string_or, flag_or}
use Rattle.theorem_text.specs.Answers.{string_bytes, is_absent}

-- inside a comment no byte is a token's first, and between tokens one is that stops there
module _ (text : List ℕ) where
  stops-between : (m : Mode) (i : ℕ) → is_stop m ≡ false → is_stop (mode_after m (get_or text i 0) (get_or text (i + 1) 0)) ≡ true
      → is_stop (between (get_or text i 0) (get_or text (i + 1) 0)) ≡ true
  stops-between Between i e h = h
  stops-between Line i e h = absurd (none (eqb (get_or text i 0) newline) h)
    where
      none : (b : Bool) → is_stop (cond b Between Line) ≡ true → ⊥
      none true h = true≢false (sym h)
      none false h = true≢false (sym h)
  stops-between Opening i e h = absurd (true≢false (sym h))
  stops-between Comment i e h = absurd (none (eqb (get_or text i 0) star) h)
    where
      none : (b : Bool) → is_stop (cond b Star Comment) ≡ true → ⊥
      none true h = true≢false (sym h)
      none false h = true≢false (sym h)
  stops-between Star i e h = absurd (none (eqb (get_or text i 0) slash) (eqb (get_or text i 0) star) h)
    where
      none : (b c : Bool) → is_stop (cond b Between (cond c Star Comment)) ≡ true → ⊥
      none true c h = true≢false (sym h)
      none false true h = true≢false (sym h)
      none false false h = true≢false (sym h)
  stops-between Stop i e h = absurd (true≢false e)

  -- a gap that ends before the last of its `n` places ends at a token's first byte
  abbrev pub Stops : ℕ → Type 0
  Stops i = is_stop (between (get_or text i 0) (get_or text (i + 1) 0)) ≡ true

  pub gap-stops : (m : Mode) (at n : ℕ) → is_stop m ≡ false → (gap_from text m at n).at < at + n → Stops (gap_from text m at n).at
  unfolding gap_from
  gap-stops m at zero e h = absurd (omega (arith, h))
  gap-stops m at (suc n) e h =
      let after = mode_after m (get_or text at 0) (get_or text (at + 1) 0) in
      cond_on (λ (g : Gap). g.at < at + suc n → Stops g.at) (is_stop after)
      (λ q h. stops-between m at e q)
      (λ q h. gap-stops after (at + 1) n q (omega (arith, h))) h

  -- behind a gap that ends inside the text
  pub behind-inside : (g : Gap) → g.at < length text → token_behind text g ≡ token_here text g.at
  behind-inside g h =
      ap (λ (b : Bool). cond b (token_here text g.at) (cond (is_open g.mode) (ended text Unclosed) (ended text End)))
      (lt-ltb g.at (length text) h)

  -- behind a gap that ends at a token's first byte there is no other gap
  here-again : (i : ℕ) → i < length text → Stops i → token_at text i ≡ token_here text i
  here-again i h e =
      ap (token_behind text) (gap-stop text Between i (length text) h refl refl e)
      ∙ behind-inside (gap (between (get_or text i 0) (get_or text (i + 1) 0)) i) h

  -- a token's first byte is where it is read
  here_start : (i : ℕ) → word_form ≤ (form_of (token_here text i)) → (token_here text i).start ≡ i
  here_start i =
      let quote = quote_end text false (i + 1) (length text - (i + 1)) in
      cond_on First (eqb (get_or text i 0) double_quote)
      (λ _. cond_on First (ltb quote (length text)) (λ _ _. refl) (λ _ h. absurd (omega (arith, h))))
      (λ _. cond_on First (is_mark (get_or text i 0)) (λ _ _. refl) (λ _ _. refl))
    where
      First : Token → Type 0
      First t = word_form ≤ (form_of t) → t.start ≡ i

  -- and that is where the gap in front of it ends
  pub gap_start : (at : ℕ) → word_form ≤ (form_of (token_at text at)) → (token_at text at).start ≡ (gap_from text Between at (length text - at)).at
  gap_start at =
      let g = gap_from text Between at (length text - at) in
      cond_on (First g.at) (ltb g.at (length text)) (λ _. here_start g.at)
      (λ _. cond_on (First g.at) (is_open g.mode) (λ _ f. absurd (omega (arith, f))) (λ _ f. absurd (omega (arith, f))))
    where
      First : ℕ → Token → Type 0
      First i t = word_form ≤ (form_of t) → t.start ≡ i

  -- a token is found again from its first byte on
  pub token-again : (at : ℕ) → word_form ≤ (form_of (token_at text at)) → token_at text (token_at text at).start ≡ token_at text at
  token-again at =
      let g = gap_from text Between at (length text - at) in
      let r = gap_reach text Between at (length text - at) in
      cond_on Again (ltb g.at (length text))
      (λ l f. let h = ltb-true g.at (length text) l in
      ap (token_at text) (here_start g.at f) ∙ here-again g.at h (gap-stops Between at (length text - at) refl (omega (arith, h, r.0))))
      (λ _. cond_on Again (is_open g.mode) (λ _ f. absurd (omega (arith, f))) (λ _ f. absurd (omega (arith, f))))
    where
      Again : Token → Type 0
      Again t = word_form ≤ (form_of t) → token_at text t.start ≡ t

  -- and begins no earlier than it was looked for
  pub token_start : (at : ℕ) → at ≤ length text → at ≤ (token_at text at).start
  token_start at h =
      let g = gap_from text Between at (length text - at) in
      let r = gap_reach text Between at (length text - at) in
      let quote = quote_end text false (g.at + 1) (length text - (g.at + 1)) in
      cond_on Behind (ltb g.at (length text))
      (λ _. cond_on Behind (eqb (get_or text g.at 0) double_quote) (λ _. cond_on Behind (ltb quote (length text)) (λ _. r.0) (λ _. h))
      (λ _. cond_on Behind (is_mark (get_or text g.at 0)) (λ _. r.0) (λ _. r.0)))
      (λ _. cond_on Behind (is_open g.mode) (λ _. h) (λ _. h))
    where
      Behind : Token → Type 0
      Behind t = at ≤ t.start

  -- no mark is as low a form as the text's end
  mark_high : (c : ℕ) → form_number (mark_form c) < word_form → ⊥
  mark_high c =
      cond_on High (eqb c open_brace) (λ _ h. absurd (omega (arith, h)))
      (λ _. cond_on High (eqb c close_brace) (λ _ h. absurd (omega (arith, h)))
      (λ _. cond_on High (eqb c 40) (λ _ h. absurd (omega (arith, h)))
      (λ _. cond_on High (eqb c 41) (λ _ h. absurd (omega (arith, h)))
      (λ _. cond_on High (eqb c semicolon) (λ _ h. absurd (omega (arith, h)))
      (λ _. cond_on High (eqb c equals_sign) (λ _ h. absurd (omega (arith, h))) (λ _ h. absurd (omega (arith, h))))))))
    where
      High : Form → Type 0
      High f = form_number f < word_form → ⊥

  -- the text's end is at its length
  ended_start : (at : ℕ) → (form_of (token_at text at)) < word_form → (token_at text at).start ≡ length text
  ended_start at =
      let g = gap_from text Between at (length text - at) in
      let quote = quote_end text false (g.at + 1) (length text - (g.at + 1)) in
      cond_on Low (ltb g.at (length text))
      (λ _. cond_on Low (eqb (get_or text g.at 0) double_quote) (λ _. cond_on Low (ltb quote (length text)) (λ _ h. absurd (omega (arith, h))) (λ _ _. refl))
      (λ _. cond_on Low (is_mark (get_or text g.at 0)) (λ _ h. absurd (mark_high (get_or text g.at 0) h)) (λ _ h. absurd (omega (arith, h)))))
      (λ _. cond_on Low (is_open g.mode) (λ _ _. refl) (λ _ _. refl))
    where
      Low : Token → Type 0
      Low t = (form_of t) < word_form → t.start ≡ length text

  at_end : token_at text (length text) ≡ ended text End
  unfolding gap_from
  at_end =
      let none : length text - length text ≡ 0 = omega arith in
      ap (λ (n : ℕ). token_behind text (gap_from text Between (length text) n)) none
      ∙ ap (λ (x : Bool). cond x (token_here text (length text)) (ended text End)) (le-ltb (length text) (length text) (omega arith))

  -- and holds no value
  pub token-ended : (at : ℕ) → (form_of (token_at text at)) < word_form → token_read text (token_at text (token_at text at).start) ≡ Err NoValue
  token-ended at h = ap (token_read text) (ap (token_at text) (ended_start at h) ∙ at_end)

-- what holds of both pairs, the first under the test, holds of two choices by one test
pub cond_both_on : {X Y : Type 0} (P : X → Y → Type 0) {b c : Bool} {x x' : X} {y y' : Y} → b ≡ c → (b ≡ true → P x y) → P x' y' → P (cond b x x') (cond c y y')
cond_both_on P {b} {c} {x} {x'} {y} {y'} e f g = subst (λ (z : Bool). P (cond b x x') (cond z y y')) e (by b f)
  where
    by : (z : Bool) → (z ≡ true → P x y) → P (cond z x x') (cond z y y')
    by true h = h refl
    by false h = g

pub cond_both : {X Y : Type 0} (P : X → Y → Type 0) {b c : Bool} {x x' : X} {y y' : Y} → b ≡ c → P x y → P x' y' → P (cond b x x') (cond c y y')
cond_both P e f g = cond_both_on P e (λ _. f) g

-- the same reading in two texts: strings by their bytes, behind their opening quotes
pub data SameReading (a b : List ℕ) : Reading → Reading → Type 0 where
  same_whole : (z : ℤ) → SameReading a b (Ok (Whole z)) (Ok (Whole z))
  same-decimal : (x : Float) → SameReading a b (Ok (Decimal x)) (Ok (Decimal x))
  same_flag : (f : Bool) → SameReading a b (Ok (Flag f)) (Ok (Flag f))
  same-string : (s e p q : ℕ) → bytes_of a (s + 1) e ≡ bytes_of b (p + 1) q → SameReading a b (Ok (Text (s + 1) e)) (Ok (Text (p + 1) q))
  same-whole-past : SameReading a b (Err WholePast) (Err WholePast)
  same-decimal-past : SameReading a b (Err DecimalPast) (Err DecimalPast)
  same_none : SameReading a b (Err NoValue) (Err NoValue)

module _ {a b : List ℕ} where
  pub whole_same : {r q : Reading} → SameReading a b r q → (default : ℤ) → whole_or default r ≡ whole_or default q
  whole_same (same_whole z) d = refl
  whole_same (same-decimal x) d = refl
  whole_same (same_flag f) d = refl
  whole_same (same-string s e p q h) d = refl
  whole_same same-whole-past d = refl
  whole_same same-decimal-past d = refl
  whole_same same_none d = refl

  pub decimal-same : {r q : Reading} → SameReading a b r q → decimal_or r ≡ decimal_or q
  decimal-same (same_whole z) = refl
  decimal-same (same-decimal x) = refl
  decimal-same (same_flag f) = refl
  decimal-same (same-string s e p q h) = refl
  decimal-same same-whole-past = refl
  decimal-same same-decimal-past = refl
  decimal-same same_none = refl

  pub flag_same : {r q : Reading} → SameReading a b r q → flag_or r ≡ flag_or q
  flag_same (same_whole z) = refl
  flag_same (same-decimal x) = refl
  flag_same (same_flag f) = refl
  flag_same (same-string s e p q h) = refl
  flag_same same-whole-past = refl
  flag_same same-decimal-past = refl
  flag_same same_none = refl

  pub string-same : {r q : Reading} → SameReading a b r q → string_bytes a (string_or r) ≡ string_bytes b (string_or q)
  string-same (same_whole z) = refl
  string-same (same-decimal x) = refl
  string-same (same_flag f) = refl
  string-same (same-string s e p q h) = h
  string-same same-whole-past = refl
  string-same same-decimal-past = refl
  string-same same_none = refl

  -- no string that is given begins at 0
  pub absent-same : {r q : Reading} → SameReading a b r q → is_absent (string_or r) ≡ is_absent (string_or q)
  absent-same (same_whole z) = refl
  absent-same (same-decimal x) = refl
  absent-same (same_flag f) = refl
  absent-same (same-string s e p q h) = given s e ∙ sym (given p q)
    where
      given : (k n : ℕ) → (eqb (k + 1) 0 && eqb n 0) ≡ false
      given k n = ap (λ (x : Bool). x && eqb n 0) (ne_eqb (k + 1) 0 (λ z. omega (arith, z)))
  absent-same same-whole-past = refl
  absent-same same-decimal-past = refl
  absent-same same_none = refl

-- a string's bytes behind its opening quote
drop-take : (n : ℕ) (xs : List ℕ) → drop 1 (take n xs) ≡ take (n - 1) (drop 1 xs)
drop-take zero [] = refl
drop-take zero (x ∷ xs) = refl
drop-take (suc n) [] = none (suc n - 1)
  where
    none : (m : ℕ) → ◌≡◌ {A = List ℕ} [] (take m [])
    none zero = refl
    none (suc m) = refl
drop-take (suc n) (x ∷ xs) = let e : n ≡ suc n - 1 = omega arith in ap (λ (m : ℕ). take m xs) e

inside-string : (text : List ℕ) (s e : ℕ) → bytes_of text (s + 1) e ≡ drop 1 (bytes_of text s e)
inside-string text s e =
    let less : e - (s + 1) ≡ e - s - 1 = omega arith in
    (λ i. take (less i) (sym (drop-drop 1 s text) i)) ∙ sym (drop-take (e - s) (drop s text))

module _ (a b : List ℕ) where
  -- a word says the same in both
  abbrev Self : Reading → Type 0
  Self r = SameReading a b r r

  whole_self : (minus : Bool) (n : ℕ) → Self (whole_read minus n)
  whole_self minus n = cond_on Self (leb n (most_of minus)) (λ _. same_whole (signed minus n)) (λ _. same-whole-past)

  digits_self : (word : List ℕ) (minus : Bool) (at behind : ℕ) → Self (digits_read word minus at behind)
  digits_self word minus at behind =
      cond_on Self (whole_ok word at behind) (λ _. whole_self minus (digits_from word 10 0 at (length word - at)))
      (λ _. cond_on Self (decimal_ok word at behind)
      (λ _. cond_on Self (decimal_fits word at behind) (λ _. same-decimal (quotient minus (decimal_digits word at behind) (length word - (behind + 1)))) (λ _. same-decimal-past))
      (λ _. same_none))

  word_self : (word : List ℕ) → Self (word_read word)
  word_self word =
      cond_on Self (is_true word) (λ _. same_flag true)
      (λ _. cond_on Self (is_false word) (λ _. same_flag false)
      (λ _. cond_on Self (hex_ok word) (λ _. whole_self false (digits_from word 16 0 2 (length word - 2)))
      (λ _. let at = behind_sign (get_or word 0 0) in digits_self word (eqb (get_or word 0 0) minus_sign) at (digits_end word at))))

  -- tokens of one form with the same bytes
  pub token-same : (t u : Token) → (form_of t) ≡ (form_of u) → word_of a t ≡ word_of b u → SameReading a b (token_read a t) (token_read b u)
  token-same t u e h =
      cond_both (SameReading a b) (ap (λ (f : ℕ). eqb f string_form) e)
      (same-string t.start t.end u.start u.end (inside-string a t.start t.end ∙ ap (drop 1) h ∙ sym (inside-string b u.start u.end)))
      (cond_both (SameReading a b) (ap (λ (f : ℕ). eqb f word_form) e) (subst (λ (w : List ℕ). SameReading a b (word_read (word_of a t)) (word_read w)) h (word_self (word_of a t))) same_none)
