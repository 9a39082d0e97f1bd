-- Letters and digits up to a byte that ends any word are a word, and an identifier if the first is a letter. Assumes nothing.
use Prim.Native.Nat.{ℕ, ◌+◌, ◌-◌, ◌≤◌, ◌<◌}
use mathlib.Core.Bool.{Bool, true, false, not, ◌&&◌, ◌||◌, cond, and-true}
use mathlib.Core.List.{List}
use mathlib.Core.Path.{◌≡◌, refl, sym, ap, ◌∙◌, subst}
use native.Mathlib.Omega.{arith}
use borrow.Author.Tests.{lt-ltb, eq-eqb}
use lib.Dec.{eqb}
use lib.ListN.{get_or, length, drop, length-drop}
use lib.Seq.{length-take-le, get_or-take, get_or-drop}
use Rattle.std.specs.Prelude.{Result, Ok, Err, IfOk, IfErr, MatchResult}
use Rattle.text_byte.specs.Bytes.{double_quote, slash, is_blank, is_mark, opens_line, opens_comment, is_letter, is_name_byte}
use Rattle.text_byte.specs.Spans.{span_end}
use Rattle.text_byte.specs.WordBytes.{stops_word}
use Rattle.text_byte.proofs.Bytes.{unlike, name-ends, stops-ends}
use Rattle.text_byte.proofs.Spans.{span_more, span_reach, span_passes, span_all, span_wider, neither}
use Rattle.text_gap.specs.Passing.{starts_token}
use Rattle.text_token.specs.declared.Token.{Token}
use Rattle.text_token.specs.Tokens.{in_word, word_to, bytes_of, token_at, Placed}
use Rattle.text_token.proofs.Tokens.{placed_as, token_at-here}
use Rattle.text_name.specs.Identifiers.{is_identifier}

-- the byte at a place is one of a name
abbrev pub in_name : List ℕ → ℕ → Bool
in_name text i = is_name_byte (get_or text i 0)

pub name-onward : (text : List ℕ) (at : ℕ) {end : ℕ} → end ≡ span_end (in_name text) at (length text - at) → at ≤ end
name-onward text at e = subst (λ (x : ℕ). at ≤ x) (sym e) (span_reach (in_name text) at (length text - at)).0

-- a token that begins with such a byte is a word
token_at-word : (text : List ℕ) (at : ℕ) → at < length text → in_name text at ≡ true
    → token_at text at ≡ word_to at (span_end (in_word text) (at + 1) (length text - (at + 1)))
token_at-word text at h e =
    let b = get_or text at 0 in
    let stays = (neither (stops_word b) (opens_line b 0 || opens_comment b 0) (name-ends b 0 e)).0 in
    let plain = neither (is_blank b || is_mark b) (eqb b double_quote) stays in
    let bare = neither (is_blank b) (is_mark b) plain.0 in
    let first : starts_token text at ≡ true = simp (lt-ltb at (length text) h, bare.0, unlike is_name_byte b slash e refl) in
    token_at-here text at first ∙ simp (plain.1, bare.1)

module _ (text : List ℕ) (at : ℕ) {end : ℕ} (ends : end ≡ span_end (in_name text) at (length text - at)) (some : at < end) (inside : end < length text) where
  passes : (j : ℕ) → at ≤ j → j < end → in_name text j ≡ true
  passes j h k = span_passes (in_name text) (length text - at) at j h (subst (λ (x : ℕ). j < x) ends k)

  in-word : (j : ℕ) → in_name text j ≡ true → in_word text j ≡ true
  in-word j e = ap not (name-ends (get_or text j 0) (get_or text (j + 1) 0) e)

  pub token_at-name : stops_word (get_or text end 0) ≡ true → word_to at end ≡ token_at text at
  token_at-name stops =
      let first = passes at (omega arith) some in
      let here : at < length text = omega arith in
      let last : in_word text end ≡ false = ap not (stops-ends (get_or text end 0) (get_or text (end + 1) 0) stops) in
      let same = span_wider (in_name text) (in_word text) in-word (length text - at) at (subst (λ (x : ℕ). in_word text x ≡ false) ends last) in
      ap (word_to at) (ends ∙ sym same ∙ span_more (in_word text) at (length text) here refl (in-word at first)) ∙ sym (token_at-word text at here first)

  length-name : length (bytes_of text at end) ≡ end - at
  length-name = let n = length-drop at text in length-take-le (end - at) (drop at text) (omega arith)

  get_d_name : (i : ℕ) → i < end - at → get_or (bytes_of text at end) i 0 ≡ get_or text (at + i) 0
  get_d_name i h = get_or-take (end - at) (drop at text) i 0 h ∙ get_or-drop at text i 0

  name-whole : let word = bytes_of text at end in span_end (in_name word) 0 (length word) ≡ length word
  name-whole =
      let word = bytes_of text at end in
      let n = length-name in
      span_all (in_name word) (length word) 0
      (λ (j : ℕ) (_ : 0 ≤ j) (k : j < 0 + length word). ap is_name_byte (get_d_name j (omega (arith, k, n))) ∙ passes (at + j) (omega arith) (omega (arith, k, n)))
      ∙ omega arith

  pub identifier_name : is_letter (get_or text at 0) ≡ is_identifier text (word_to at end)
  identifier_name =
      let word = bytes_of text at end in
      let zero : at + 0 ≡ at = omega arith in
      let first : get_or word 0 0 ≡ get_or text at 0 = get_d_name 0 (omega arith) ∙ ap (λ (i : ℕ). get_or text i 0) zero in
      sym (ap (λ (b : Bool). is_letter (get_or word 0 0) && b) (eq-eqb _ (length word) name-whole) ∙ and-true _ ∙ ap is_letter first)

-- a token that was found, as the answer tells it
pub record Named (text : List ℕ) (from : ℕ) (r : Result Token Token) : Type 0 where
  pub ok : IfOk r (λ t. (t ≡ token_at text from) × (is_identifier text t ≡ true))
  pub err : IfErr r (λ t. (t ≡ token_at text from) × (is_identifier text t ≡ false))
  pub placed : MatchResult r (Placed text from) (Placed text from)

pub named : (text : List ℕ) (from : ℕ) {good : Bool} {t : Token} {r : Result Token Token} → r ≡ cond good (Ok t) (Err t)
    → t ≡ token_at text from → good ≡ is_identifier text t → Named text from r
named text from {good} {t} e found is = subst (Named text from) (sym e) (by good is)
  where
    by : (x : Bool) → x ≡ is_identifier text t → Named text from (cond x (Ok t) (Err t))
    by true q = record { ok = (found, sym q); err = tt; placed = placed_as text from found }
    by false q = record { ok = tt; err = (found, sym q); placed = placed_as text from found }
