-- Two texts with the same tokens, up to the case of letters, have the same answers but for places: token by token both are read to the same
-- point. Assumes nothing.
use Prim.Native.Nat.{ℕ, zero, suc, ◌+◌, ◌≤◌, ◌<◌}
use mathlib.Core.Bool.{Bool, true, false, not, ◌&&◌, cond, true≢false}
use mathlib.Core.List.{List}
use mathlib.Core.Logic.{⊎_elim}
use mathlib.Core.Path.{◌≡◌, refl, sym, ap, ◌∙◌, subst}
use native.Mathlib.Omega.{arith}
use borrow.Author.Tests.{ne_eqb, ltb-true, ltb-false}
use lib.Dec.{eqb, ltb}
use lib.ListN.{length}
use Rattle.std.specs.Prelude.{Ok, Err}
use Rattle.refusal.specs.Checks.{Check}
use Rattle.refusal.specs.declared.Refusal.TheVariants.{TextMissing}
use Rattle.refusal.specs.Checks.{unless, ◌and_then◌}
use Rattle.text_token.specs.declared.Token.{Token}
use Rattle.text_token.specs.Tokens.{form_of, word_form, string_form, token_at, word_of}
use Rattle.text_byte.proofs.Spans.{cond_on}
use Rattle.text_token.proofs.Tokens.{token_at-placed}
use Rattle.text_value.specs.declared.Value.TheVariants.{Text}
use Rattle.text_value.specs.declared.Misread.TheVariants.{NoValue}
use Rattle.text_value.specs.Values.{Reading, word_read, token_read}
use Rattle.text_table.specs.Names.{field_named, kind_named}
use Rattle.text_block.specs.declared.Asked.{Asked}
use Rattle.text_block.specs.declared.Wanted.{Wanted}
use Rattle.text_block.specs.declared.Wanted.TheVariants.{Statement, Equals, Value, Semicolon, NoMore}
use Rattle.text_reader.specs.Runs.{runs}
use Rattle.text_block.specs.Blocks.{filed, no_places}
use Rattle.text_name.specs.Identifiers.{identifier_ok}
use Rattle.text_table.specs.declared.scope.Scope.{Scope}
use Rattle.text_step.specs.Steps.{is_top, step_by}
use Rattle.text_reader.specs.Texts.{Stand, stand, is_more, goes, kept_after, token_more, text_from}
use Rattle.text_reader.proofs.Runs.{runs-end}
use Rattle.text_reader.proofs.Onward.{step_next}
use Rattle.theorem_text.specs.Tokens.{SameLetters, SameLexeme, token_place, SameFirst}
use Rattle.theorem_text.specs.Answers.{SameCheck, both_pass, both_refused, SameStand}
use Rattle.theorem_text.specs.Promises.{TokensDecide, after, begins_at}
use Rattle.theorem_text.proofs.Readings.{token-again, token_start, token-ended, cond_both, cond_both_on, token-same, SameReading, same_none, whole_same, decimal-same, flag_same, string-same, absent-same}
use Rattle.theorem_text.proofs.Letters.{field-named, kind-named, letters_read}
use Rattle.theorem_text.proofs.Related.{SamePlace, SameName, Begun, SameWanted, want_statement, want_equals, want_value, want_semicolon, want_none, SameParse, SameToken}
use Rattle.theorem_text.proofs.Stepping.{step_top, stepped_alike, no_places_lem, SameFields, filed_alike}

-- words with the same letters say the same
letters-same : (a b : List ℕ) (t u : Token) → (form_of t) ≡ (form_of u) → (form_of t) ≡ word_form → SameLetters (word_of a t) (word_of b u) → SameReading a b (token_read a t) (token_read b u)
letters-same a b t u e f l =
    subst (λ (r : Reading). SameReading a b r (token_read b u)) (sym (as_word a t f)) (subst (SameReading a b (word_read (word_of a t))) (sym (as_word b u (sym e ∙ f))) (letters_read a b l))
  where
    as_word : (x : List ℕ) (z : Token) → (form_of z) ≡ word_form → token_read x z ≡ word_read (word_of x z)
    as_word x z q = ap (λ (n : ℕ). cond (eqb n string_form) (Ok (Text (z.start + 1) z.end)) (cond (eqb n word_form) (word_read (word_of x z)) (Err NoValue))) q

module _ (a b : List ℕ) where
  module _ (n at from : ℕ) (h : SameFirst (suc n) a at b from) where
    abbrev t : Token
    t = token_at a at

    abbrev u : Token
    u = token_at b from

    here : SameLexeme a t b u
    unfolding token_place
    here = h 0 (omega arith)

    form_alike : (form_of t) ≡ (form_of u)
    form_alike = here.form

    next_alike : SameFirst n a t.next b u.next
    unfolding token_place
    next_alike k i = h (suc k) (omega (arith, i))

    begun_alike : word_form ≤ (form_of t) → Begun a b t.next u.next
    begun_alike k =
        let p = token_at-placed a at in
        let q = token_at-placed b from in
        let i = p.ahead k in
        let j = q.ahead (subst (λ (f : ℕ). word_form ≤ f) form_alike k) in
        ((omega (arith, i), p.whole), (omega (arith, j), q.whole))

    identifier_alike : identifier_ok (word_of a t) ≡ identifier_ok (word_of b u)
    identifier_alike = ⊎_elim (λ (e : word_of a t ≡ word_of b u). ap identifier_ok e) (λ l. l.1.first ∙ sym l.1.second) here.bytes

    name_alike : SameName a b t.start t.end u.start u.end
    name_alike =
        ⊎_elim (λ (e : word_of a t ≡ word_of b u). record { field = λ scope. ap (field_named scope) e; kind = ap kind_named e })
        (λ l. record { field = field-named l.1; kind = kind-named l.1 }) here.bytes

    read_alike : SameReading a b (token_read a t) (token_read b u)
    read_alike = ⊎_elim (λ (e : word_of a t ≡ word_of b u). token-same a b t u form_alike e) (λ l. letters-same a b t u form_alike l.0 l.1) here.bytes

    pub token_alike : SameToken a b n t u
    token_alike = record {
      form = form_alike;
      named = λ i. eqb (form_alike i) word_form && identifier_alike i;
      name = name_alike;
      read = read_alike;
      begun = begun_alike;
      next = next_alike;
    }

    -- the places of two values behind the texts' beginnings
    value_alike : Begun a b at from → SamePlace a b t.start u.start
    value_alike g =
        let i = token_start a at g.0.1 in
        let j = token_start b from g.1.1 in
        let t-there : eqb t.start 0 ≡ false = ne_eqb t.start 0 (λ e. omega (arith, e, i, g.0.0)) in
        let u-there : eqb u.start 0 ≡ false = ne_eqb u.start 0 (λ e. omega (arith, e, j, g.1.0)) in
        record {
          given = t-there ∙ sym u-there;
          read = cond_both (SameReading a b) (t-there ∙ sym u-there) same_none (again (ltb (form_of t) word_form) refl);
        }
      where
        again : (x : Bool) → ltb (form_of t) word_form ≡ x → SameReading a b (token_read a (token_at a t.start)) (token_read b (token_at b u.start))
        again true e =
            let low = ltb-true (form_of t) word_form e in
            subst (λ (r : Reading). SameReading a b r (token_read b (token_at b u.start))) (sym (token-ended a at low))
            (subst (SameReading a b (Err NoValue)) (sym (token-ended b from (subst (λ (f : ℕ). f < word_form) form_alike low))) same_none)
        again false e =
            let high = ltb-false (form_of t) word_form e in
            subst (λ (z : Token). SameReading a b (token_read a z) (token_read b (token_at b u.start))) (sym (token-again a at high))
            (subst (λ (z : Token). SameReading a b (token_read a t) (token_read b z)) (sym (token-again b from (subst (λ (f : ℕ). word_form ≤ f) form_alike high)))
            read_alike)

  -- two stands that lead to the same answers: in a block its fields have the same values
  pub record Alike (n : ℕ) (s r : Stand) : Type 0 where
    pub parse : SameParse a b n s.parse r.parse
    pub places : is_top s.parse.scope ≡ false → SameFields a b s.places r.places
    pub kept : SameFields a b s.kept r.kept

  more_alike : {at from : ℕ} {w v : Wanted} → SameWanted a b at from w v → is_more w ≡ is_more v
  more_alike want_statement = refl
  more_alike (want_equals s e p q n) = refl
  more_alike (want_value f g) = refl
  more_alike (want_semicolon f p q g) = refl
  more_alike want_none = refl

  module _ (asked : Asked) (n : ℕ) (s r : Stand) (h : Alike (suc n) s r) where
    abbrev token-a : Token
    token-a = token_at a s.parse.at

    abbrev token-b : Token
    token-b = token_at b r.parse.at

    next_alike_parse : SameParse a b n (token_more a asked s).parse (token_more b asked r).parse
    next_alike_parse =
        let l = h.parse.base.tokens in
        let at = s.parse.at in
        let from = r.parse.at in
        stepped_alike a b asked s.places r.places h.parse (token_alike n at from l) (λ e. (h.places e).values)
        (value_alike n at from l) h.parse.wanted

    same_top : is_top s.parse.scope ≡ true → is_top r.parse.scope ≡ true
    same_top e = sym (ap is_top h.parse.base.scope) ∙ e

    -- in a block the places go on alike; where one opens there are none yet
    places_alike : is_top (token_more a asked s).parse.scope ≡ false
        → SameFields a b (filed s.parse.wanted token-a s.places) (filed r.parse.wanted token-b r.places)
    places_alike e = by (is_top s.parse.scope) refl
      where
        by : (x : Bool) → is_top s.parse.scope ≡ x
            → SameFields a b (filed s.parse.wanted token-a s.places) (filed r.parse.wanted token-b r.places)
        by true top =
            let p = (step_top a asked s.places s.parse token-a top s.parse.wanted).cleared e in
            let q = (step_top b asked r.places r.parse token-b (same_top top) r.parse.wanted).cleared
            (sym (ap is_top next_alike_parse.base.scope) ∙ e) in
            subst (λ (ps : List ℕ). SameFields a b ps (filed r.parse.wanted token-b r.places)) (sym p)
            (subst (SameFields a b no_places) (sym q) (record { values = no_places_lem a b; long = refl }))
        by false top =
            filed_alike a b s.places r.places token-a token-b (h.places top)
            (form_alike n s.parse.at r.parse.at h.parse.base.tokens) h.parse.wanted

    -- a block is found inside it
    found_inside : (not s.parse.notes.found && (token_more a asked s).parse.notes.found) ≡ true
        → is_top s.parse.scope ≡ false
    found_inside e = by (is_top s.parse.scope) refl
      where
        none-new : (f : Bool) → (not f && f) ≡ false
        none-new true = refl
        none-new false = refl

        by : (x : Bool) → is_top s.parse.scope ≡ x → x ≡ false
        by true top =
            let same = (step_top a asked s.places s.parse token-a top s.parse.wanted).found in
            let old = s.parse.notes.found in
            absurd (true≢false (sym e ∙ ap (λ (f : Bool). not old && f) same ∙ none-new old))
        by false top = refl

    pub step_alike : Alike n (token_more a asked s) (token_more b asked r)
    step_alike = record {
      parse = next_alike_parse;
      places = places_alike;
      kept =
          cond_both_on (SameFields a b) (λ i. not (h.parse.base.notes.found i) && next_alike_parse.base.notes.found i)
          (λ e. h.places (found_inside e)) h.kept;
    }

  pub after_alike : (asked : Asked) (n : ℕ) {s r : Stand} → Alike n s r → Alike 0 (after a asked n s) (after b asked n r)
  unfolding after
  after_alike asked zero h = h
  after_alike asked (suc n) {s} {r} h = after_alike asked n (step_alike asked n s r h)

  pub begins_alike : (n at from : ℕ) → SameFirst n a at b from → Alike n (begins_at at) (begins_at from)
  begins_alike n at from h = record {
    parse = record {
      base = record { scope = refl; notes = record { namespace = record { given = refl; read = same_none }; counts = refl; found = refl; kind = refl }; tokens = h };
      wanted = want_statement;
      check = both_pass;
    };
    places = λ _. record { values = no_places_lem a b; long = refl };
    kept = record { values = no_places_lem a b; long = refl };
  }

-- a run that has come to its end stays there
module _ {S : Type 0} (going : S → Bool) (step : S → S) where
  run_more : (n : ℕ) (s : S) → going (runs going step n s) ≡ false → runs going step (suc n) s ≡ runs going step n s
  unfolding runs
  run_more zero s e = ap (λ (x : Bool). cond x (step s) s) e
  run_more (suc n) s e = by (λ f. run_more n (step s) f) (going s) e
    where
      by : (going (runs going step n (step s)) ≡ false → runs going step (suc n) (step s) ≡ runs going step n (step s)) → (x : Bool)
          → going (cond x (runs going step n (step s)) s) ≡ false → cond x (runs going step (suc n) (step s)) s ≡ cond x (runs going step n (step s)) s
      by rest true f = rest f
      by rest false f = refl

  run_long : (k n : ℕ) (s : S) → going (runs going step n s) ≡ false → runs going step (k + n) s ≡ runs going step n s
  run_long zero n s e = let q : 0 + n ≡ n = omega arith in ap (λ (m : ℕ). runs going step m s) q
  run_long (suc k) n s e =
      let q : suc k + n ≡ suc (k + n) = omega arith in
      let h = run_long k n s e in
      ap (λ (m : ℕ). runs going step m s) q ∙ run_more (k + n) s (ap going h ∙ e) ∙ h

-- where nothing more is wanted a token changes nothing
no_more : (w : Wanted) → is_more w ≡ false → w ≡ NoMore
no_more Statement e = absurd (true≢false e)
no_more (Equals start end) e = absurd (true≢false e)
no_more (Value field) e = absurd (true≢false e)
no_more (Semicolon field place) e = absurd (true≢false e)
no_more NoMore e = refl

pub kept_still : (f : Bool) (xs ys : List ℕ) → cond (not f && f) xs ys ≡ ys
kept_still true xs ys = refl
kept_still false xs ys = refl

module _ (text : List ℕ) (asked : Asked) where
  -- a token, by what is wanted
  pub by_wanted : (s : Stand) {w : Wanted} → s.parse.wanted ≡ w
      → let t = token_at text s.parse.at in let next = step_by text asked s.places s.parse t w in
      token_more text asked s ≡ stand next (filed w t s.places) (kept_after s.parse next s.places s.kept)
  by_wanted s e =
      let t = token_at text s.parse.at in
      ap (λ (v : Wanted). let next = step_by text asked s.places s.parse t v in stand next (filed v t s.places) (kept_after s.parse next s.places s.kept)) e

  still : (s : Stand) → goes s ≡ false → token_more text asked s ≡ s
  still s e = by_wanted s (no_more s.parse.wanted e) ∙ ap (stand s.parse s.places) (kept_still s.parse.notes.found s.places s.kept)

  after_still : (n : ℕ) (s : Stand) → goes s ≡ false → after text asked n s ≡ s
  unfolding after
  after_still zero s e = refl
  after_still (suc n) s e = ap (after text asked n) (still s e) ∙ after_still n s e

  runs_after : (n : ℕ) (s : Stand) → runs goes (token_more text asked) n s ≡ after text asked n s
  unfolding runs after
  runs_after zero s = refl
  runs_after (suc n) s =
      cond_on (λ (x : Stand). x ≡ after text asked n (token_more text asked s)) (goes s) (λ _. runs_after n (token_more text asked s))
      (λ e. sym (ap (after text asked n) (still s e) ∙ after_still n s e))

  pub after_add : (m n : ℕ) (s : Stand) → after text asked (m + n) s ≡ after text asked n (after text asked m s)
  unfolding after
  after_add zero n s = let q : 0 + n ≡ n = omega arith in ap (λ (k : ℕ). after text asked k s) q
  after_add (suc m) n s =
      let q : suc m + n ≡ suc (m + n) = omega arith in ap (λ (k : ℕ). after text asked k s) q ∙ after_add m n (token_more text asked s)

  -- a text is read to its end with any number of tokens from its length on
  pub text_long : (from n k : ℕ) → n ≡ k + suc (length text) → text_from text asked from ≡ after text asked n (begins_at from)
  text_long from n k e =
      sym (run_long goes (token_more text asked) k (suc (length text)) (begins_at from)
      (runs-end goes (token_more text asked) (λ (s : Stand). s.parse.at) (length text)
      (λ s g. (step_next text asked s.places s.parse s.parse.wanted refl).onward g) (suc (length text)) (begins_at from) (λ _. (omega arith, omega arith))))
      ∙ runs_after (k + suc (length text)) (begins_at from) ∙ ap (λ (m : ℕ). after text asked m (begins_at from)) (sym e)

asked_alike : {c d : Check} {x y : Bool} → SameCheck c d → x ≡ y → SameCheck (c and_then unless x TextMissing) (d and_then unless y TextMissing)
asked_alike {c} {d} {x} {y} h e = subst (λ (z : Bool). SameCheck (c and_then unless x TextMissing) (d and_then unless z TextMissing)) e (by h x)
  where
    by : {c d : Check} → SameCheck c d → (z : Bool) → SameCheck (c and_then unless z TextMissing) (d and_then unless z TextMissing)
    by both_pass true = both_pass
    by both_pass false = both_refused _ _ refl
    by (both_refused r q e) z = both_refused r q e

stand_alike : (a b : List ℕ) {n : ℕ} {s r : Stand} → Alike a b n s r → SameStand a b s r
stand_alike a b h = record {
  check = h.parse.check;
  opened = asked_alike h.parse.check (ap (λ (x : Scope). not (is_top x)) h.parse.base.scope);
  scope = h.parse.base.scope;
  asked = asked_alike h.parse.check h.parse.base.notes.found;
  namespace = string-same h.parse.base.notes.namespace.read;
  absent = absent-same h.parse.base.notes.namespace.read;
  counts = h.parse.base.notes.counts;
  kind = h.parse.base.notes.kind;
  values = λ k. let v = (h.kept.values k).read in record {
    whole = whole_same v;
    decimal = decimal-same v;
    flag = flag_same v;
    string = string-same v;
    absent = absent-same v;
  };
}

-- two texts whose stands behind so many tokens are alike
pub ends_alike : (a b : List ℕ) (asked : Asked) (at from m n k l : ℕ) → m ≡ k + suc (length a) → n ≡ l + suc (length b)
    → Alike a b 0 (after a asked m (begins_at at)) (after b asked n (begins_at from)) → SameStand a b (text_from a asked at) (text_from b asked from)
ends_alike a b asked at from m n k l e f h =
    subst (λ (s : Stand). SameStand a b s (text_from b asked from)) (sym (text_long a asked at m k e))
    (subst (SameStand a b (after a asked m (begins_at at))) (sym (text_long b asked from n l f)) (stand_alike a b h))

pub tokens_decide : TokensDecide
tokens_decide a b asked at from h =
    let n = length a + suc (length b) in
    ends_alike a b asked at from n n (length b) (length a) (omega arith) refl (after_alike a b asked n (begins_alike a b n at from (h n)))
