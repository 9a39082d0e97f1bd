-- White space and comments between two tokens change nothing but places: the tokens in front of them are read as before, and those behind them as
-- if the text began there. Assumes nothing.
use Prim.Native.Nat.{ℕ, zero, suc, ◌+◌, ◌-◌, ◌≤◌, ◌<◌}
use mathlib.Core.Bool.{Bool, true, false, not, ◌&&◌, ◌||◌, and-false, true≢false}
use mathlib.Core.List.{List, [], ◌∷◌, ◌++◌, append_assoc}
use mathlib.Core.Logic.{inl}
use mathlib.Core.Path.{◌≡◌, refl, sym, ap, ◌∙◌, subst}
use native.Mathlib.Omega.{arith}
use borrow.Author.Tests.{ltb-true, ltb-false, eqb-true, not-true}
use lib.Dec.{eqb, ltb}
use lib.ListN.{get_or, length, length-append, length-drop, get_or-append, take, drop}
use lib.Seq.{get_or-append-add, take-append-le, drop-append-le}
use Rattle.text_token.specs.declared.Token.{Token}
use Rattle.text_gap.specs.declared.Mode.TheVariants.{Between}
use Rattle.text_byte.specs.Bytes.{star, slash}
use Rattle.text_gap.specs.Gaps.{between, is_stop, gap_from}
use Rattle.text_token.specs.Tokens.{form_of, word_form, token_behind, token_at, bytes_of, word_of}
use Rattle.text_byte.specs.Spans.{span_end}
use Rattle.text_token.proofs.Tokens.{token_at-placed}
use Rattle.text_table.specs.Table.{bytes}
use Rattle.theorem_text.specs.Tokens.{SameLexeme, token_place, SameTokens}
use Rattle.theorem_text.specs.Gaps.{IsGap}
use Rattle.theorem_text.specs.Promises.{gapped, GapChanged, GapsDoNotMatter, CommentPutIn}
use Rattle.theorem_text.proofs.Holds.{tokens_decide}
use Rattle.theorem_text.proofs.Moved.{moved, token-moved, place-moved, word_moved}
use Rattle.theorem_text.proofs.Gaps.{gap_through, first_alone, first_there}
use Rattle.theorem_text.proofs.Front.{SameFront, token_front}
use Rattle.theorem_text.proofs.Seams.{opens, passed_ends, last_quiet, QuietEnd, same_front}

-- the places of tokens, one after the other
place_next : (text : List ℕ) (at k : ℕ) → token_place text at (suc k) ≡ (token_at text (token_place text at k)).next
unfolding token_place
place_next text at zero = refl
place_next text at (suc k) = place_next text (token_at text at).next k

place_add : (text : List ℕ) (at m n : ℕ) → token_place text at (m + n) ≡ token_place text (token_place text at m) n
unfolding token_place
place_add text at zero n = let q : 0 + n ≡ n = omega arith in ap (token_place text at) q
place_add text at (suc m) n = let q : suc m + n ≡ suc (m + n) = omega arith in ap (token_place text at) q ∙ place_add text (token_at text at).next m n

-- a text that is read from `c` on as `rest` by itself
record Continues (text rest : List ℕ) (c : ℕ) : Type 0 where
  tokens : (j : ℕ) → token_at text (c + j) ≡ moved c (token_at rest j)
  places : (k j : ℕ) → token_place text (c + j) k ≡ c + token_place rest j k
  words : (t : Token) → word_of text (moved c t) ≡ word_of rest t

module _ (front gap rest : List ℕ) (h : IsGap gap) where
  abbrev text : List ℕ
  text = front ++ (gap ++ rest)

  abbrev c : ℕ
  c = length (front ++ gap)

  continues : Continues text rest c
  continues = subst (λ (z : List ℕ). Continues z rest c) (append_assoc front gap rest)
      (record { tokens = token-moved (front ++ gap) rest; places = place-moved (front ++ gap) rest; words = word_moved (front ++ gap) rest })

  first-token : token_at text (length front) ≡ moved c (token_at rest 0)
  first-token =
      let l = length-append front (gap ++ rest) in
      let m = length-append gap rest in
      let n = length-append front gap in
      let before : length text - length front ≡ length gap + length rest = omega (arith, l, m) in
      let there : length front + length gap ≡ c + 0 = omega (arith, n) in
      let left : length rest ≡ length text - (c + 0) = omega (arith, l, m, n) in
      ap (λ (k : ℕ). token_behind text (gap_from text Between (length front) k)) before
      ∙ ap (token_behind text) (gap_through front gap rest (length rest) h)
      ∙ (λ i. token_behind text (gap_from text Between (there i) (left i))) ∙ continues.tokens 0

  pub token-behind : (j : ℕ) → token_at text (token_place text (length front) j) ≡ moved c (token_at rest (token_place rest 0 j))
  unfolding token_place
  token-behind zero = first-token
  token-behind (suc j) =
      let next = (token_at rest 0).next in
      ap (λ (t : Token). token_at text (token_place text t.next j)) first-token ∙ ap (token_at text) (continues.places j next)
      ∙ continues.tokens (token_place rest next j)

  pub word-behind : (t : Token) → word_of text (moved c t) ≡ word_of rest t
  word-behind = continues.words

front_word : (front s : List ℕ) (start end : ℕ) → start ≤ end → end ≤ length front → bytes_of (front ++ s) start end ≡ bytes_of front start end
front_word front s start end h k =
    let l = length-drop start front in
    ap (take (end - start)) (drop-append-le start front s (omega (arith, h, k)))
    ∙ take-append-le (end - start) (drop start front) s (omega (arith, l, k))

-- the gap's first byte and the byte before it open no comment
clean_quiet : (b c : ℕ) → not (eqb b slash && eqb c slash) ≡ true → eqb c star ≡ false → opens b c ≡ false
clean_quiet b c e f =
    ap (λ (x : Bool). x || (eqb b slash && eqb c star)) (not-true (eqb b slash && eqb c slash) e)
    ∙ ap (λ (x : Bool). eqb b slash && x) f ∙ and-false (eqb b slash)

no_star : (b c : ℕ) → is_stop (between b c) ≡ false → eqb b star ≡ false
no_star b c e = by (eqb b star) refl
  where
    by : (x : Bool) → eqb b star ≡ x → x ≡ false
    by true q = let s : is_stop (between b c) ≡ true = ap (λ (z : ℕ). is_stop (between z c)) (eqb-true b star q) in absurd (true≢false (sym s ∙ e))
    by false q = refl

module _ (front old new rest : List ℕ) (at n : ℕ) (h : GapChanged front old new rest at n) where
  abbrev a : List ℕ
  a = front ++ (old ++ rest)

  abbrev b : List ℕ
  b = front ++ (new ++ rest)

  abbrev p : ℕ
  p = length front

  -- no token in front ends behind the front
  below : (d k : ℕ) → k + d ≡ n → token_place a at k ≤ p
  below zero k e = let same : k ≡ n = omega (arith, e) in let q = ap (token_place a at) same ∙ h.boundary in omega (arith, q)
  below (suc d) k e =
      let next = below d (suc k) (omega (arith, e)) in
      let ahead = (token_at-placed a (token_place a at k)).ahead (h.tokens k (omega (arith, e))) in
      let q = place_next a at k in
      omega (arith, next, ahead, q)

  next_below : (k : ℕ) → k < n → (token_at a (token_place a at k)).next ≤ p
  next_below k l = let q = place_next a at k in let r = below (n - suc k) (suc k) (omega (arith, l)) in omega (arith, q, r)

  -- tokens in front
  module _ (s : SameFront a b p) where
    token-before : (k : ℕ) → k < n → token_at b (token_place a at k) ≡ token_at a (token_place a at k)
    token-before k l = token_front s (token_place a at k) (below (n - k) k (omega (arith, l))) (h.tokens k l) (next_below k l)

    place-before : (k : ℕ) → k ≤ n → token_place b at k ≡ token_place a at k
    unfolding token_place
    place-before zero l = refl
    place-before (suc k) l =
        place_next b at k
        ∙ ap (λ (t : Token). t.next) (ap (token_at b) (place-before k (omega (arith, l))) ∙ token-before k (omega (arith, l)))
        ∙ sym (place_next a at k)

    lexeme_before : (k : ℕ) → k < n → SameLexeme a (token_at a (token_place a at k)) b (token_at b (token_place b at k))
    lexeme_before k l =
        let t = token_at a (token_place a at k) in
        let e = ap (token_at b) (place-before k (omega (arith, l))) ∙ token-before k l in
        let d = token_at-placed a (token_place a at k) in
        let o = d.ordered in
        let i = d.inside in
        let m = next_below k l in
        record {
          form = sym (ap (λ (u : Token). (form_of u)) e);
          bytes = inl (front_word front (old ++ rest) t.start t.end o (omega (arith, i, m))
              ∙ sym (front_word front (new ++ rest) t.start t.end o (omega (arith, i, m))) ∙ sym (ap (word_of b) e));
        }

    place_there : token_place b at n ≡ p
    place_there = place-before n (omega arith) ∙ h.boundary

  -- tokens behind, where the front's tokens end in both
  lexeme_behind : (j : ℕ) → SameLexeme a (token_at a (token_place a p j)) b (token_at b (token_place b p j))
  lexeme_behind j =
      let t = token_at rest (token_place rest 0 j) in
      let e = token-behind front old rest h.old_gap j in
      let f = token-behind front new rest h.new_gap j in
      record {
        form = ap (λ (u : Token). (form_of u)) e ∙ sym (ap (λ (u : Token). (form_of u)) f);
        bytes = inl (ap (word_of a) e ∙ word-behind front old rest h.old_gap t
            ∙ sym (ap (word_of b) f ∙ word-behind front new rest h.new_gap t));
      }

  -- token `k` from `n` on
  place_on : (text : List ℕ) → token_place text at n ≡ p → (k : ℕ) → n ≤ k → token_place text p (k - n) ≡ token_place text at k
  place_on text e k l =
      let q : n + (k - n) ≡ k = omega (arith, l) in
      ap (λ (z : ℕ). token_place text z (k - n)) (sym e) ∙ sym (place_add text at n (k - n)) ∙ ap (token_place text at) q

  lexeme_there : token_place b at n ≡ p → (k : ℕ) → n ≤ k → SameLexeme a (token_at a (token_place a at k)) b (token_at b (token_place b at k))
  lexeme_there e k l =
      subst (λ (z : ℕ). SameLexeme a (token_at a (token_place a at k)) b (token_at b z)) (place_on b e k l)
      (subst (λ (z : ℕ). SameLexeme a (token_at a z) b (token_at b (token_place b p (k - n)))) (place_on a h.boundary k l) (lexeme_behind (k - n)))

  lexemes : token_place b at n ≡ p → ((k : ℕ) → k < n → SameLexeme a (token_at a (token_place a at k)) b (token_at b (token_place b at k)))
      → SameTokens a at b at
  lexemes e f m k l = by (ltb k n) refl
    where
      by : (x : Bool) → ltb k n ≡ x → SameLexeme a (token_at a (token_place a at k)) b (token_at b (token_place b at k))
      by true q = f k (ltb-true k n q)
      by false q = lexeme_there e k (ltb-false k n q)

-- the front's last token is no longer, and no shorter, with another gap behind it
module _ (front old : List ℕ) (z : ℕ) (new rest : List ℕ) (at n : ℕ) (h : GapChanged front old (z ∷ new) rest at (suc n)) where
  abbrev was : List ℕ
  was = front ++ (old ++ rest)

  abbrev is : List ℕ
  is = front ++ (z ∷ new ++ rest)

  quiet_before : QuietEnd front (old ++ rest)
  quiet_before k e =
      last_quiet was (token_place was at n) k (h.tokens n (omega arith)) (sym (place_next was at n) ∙ h.boundary ∙ sym e)

  quiet_behind : QuietEnd front (z ∷ new ++ rest)
  quiet_behind k e =
      let last : k ≡ length front - 1 = omega (arith, e) in
      let there : k + 1 ≡ length front + 0 = omega (arith, e) in
      let x = get_or-append front (z ∷ new ++ rest) 0 k (omega (arith, e)) ∙ ap (λ (i : ℕ). get_or front i 0) last in
      let y = ap (λ (i : ℕ). get_or is i 0) there ∙ get_or-append-add front (z ∷ new ++ rest) 0 0 in
      (λ i. opens (x i) (y i))
      ∙ clean_quiet (get_or front (length front - 1) 0) z (h.clean (omega arith))
      (no_star z (get_or new 0 0) (first_alone front z new rest h.new_gap))

  fronts : SameFront was is (length front)
  fronts =
      same_front front (old ++ rest) (z ∷ new ++ rest) quiet_before quiet_behind
      (λ _. ap not (passed_ends (get_or is (length front) 0) (get_or is (length front + 1) 0) (first_there front z new rest h.new_gap)))

same-tokens : (front old new rest : List ℕ) (at n : ℕ) → GapChanged front old new rest at n
    → SameTokens (gapped front old rest) at (gapped front new rest) at
unfolding token_place
same-tokens front old new rest at zero h = lexemes front old new rest at zero h h.boundary (λ k l. absurd (omega (arith, l)))
same-tokens front [] [] rest at (suc n) h = λ m k l. record { form = refl; bytes = inl refl }
same-tokens front (y ∷ old) [] rest at (suc n) h = let e = h.some (omega arith) (omega arith) in absurd (omega (arith, e))
same-tokens front old (z ∷ new) rest at (suc n) h =
    let s = fronts front old z new rest at n h in
    lexemes front old (z ∷ new) rest at (suc n) h (place_there front old (z ∷ new) rest at (suc n) h s)
    (lexeme_before front old (z ∷ new) rest at (suc n) h s)

pub gaps_do_not_matter : GapsDoNotMatter
gaps_do_not_matter front old new rest asked at n h =
    tokens_decide (gapped front old rest) (gapped front new rest) asked at at (same-tokens front old new rest at n h)

pub comment_put_in : CommentPutIn
unfolding gap_from span_end token_place
comment_put_in = record {
  old_gap = refl;
  new_gap = refl;
  some = λ _ h. absurd (omega (arith, h));
  clean = λ _. refl;
  tokens = word;
  boundary = refl;
}
  where
    word : (k : ℕ) → k < 1 → word_form ≤ (form_of (token_at (gapped (bytes " x") [] (bytes " = 1;")) (token_place (gapped (bytes " x") [] (bytes " = 1;")) 0 k)))
    word zero h = omega arith
    word (suc k) h = absurd (omega (arith, h))
