-- One token more leads to the same point in both texts. Assumes nothing.
use Prim.Native.Nat.{ℕ, zero, suc}
use mathlib.Core.Bool.{Bool, true, false, not, ◌&&◌, cond, and-eq-true_iff, true≢false}
use mathlib.Core.List.{List, [], ◌∷◌}
use mathlib.Core.Path.{◌≡◌, refl, sym, ap, ◌∙◌, subst}
use native.Mathlib.Omega.{arith}
use borrow.Author.Tests.{eqb-true}
use lib.Dec.{eqb}
use lib.ListN.{get_or, length, length-set, set, replicate}
use Rattle.std.specs.Prelude.{Option, Some, None, is_some, Ok, Err}
use Rattle.refusal.specs.declared.Refusal.{Refusal}
use Rattle.refusal.specs.Checks.{Check}
use Rattle.refusal.specs.declared.Refusal.TheVariants.{TextGrammar, TextNumber}
use Rattle.refusal.specs.Table.{number_of}
use Rattle.refusal.specs.Checks.{unless}
use Rattle.text_token.specs.declared.Token.{Token}
use Rattle.text_byte.specs.Bytes.{equals_sign, semicolon, open_brace, close_brace}
use Rattle.text_token.specs.Tokens.{form_of, end_form, bytes_of}
use Rattle.text_byte.proofs.Spans.{cond_on}
use Rattle.text_name.specs.Identifiers.{is_identifier}
use Rattle.text_value.specs.Values.{Reading, token_read}
use Rattle.text_table.specs.declared.scope.Scope.{Scope}
use Rattle.text_table.specs.declared.field.Holds.{Holds}
use Rattle.text_table.specs.Table.{fields_of, is_required, whole, decimal, string, flag}
use Rattle.text_table.specs.Names.{every, field_named, kind_named}
use Rattle.text_block.specs.declared.Asked.{Asked}
use Rattle.text_block.specs.declared.Wanted.{Wanted}
use Rattle.text_block.specs.declared.Wanted.TheVariants.{Statement, Equals, Value, Semicolon, NoMore}
use Rattle.text_step.specs.declared.Parse.{Parse}
use Rattle.text_block.specs.Blocks.{count_of, counted, is_full, is_asked, stops_there, stops_inside, all_given, filed, no_places}
use Rattle.text_step.specs.Steps.{goes_on, refused_with, misfit, is_top, is_found, notes_after, closed_block, on_statement, opened_block, on_equals, held_by, serves, value_check, judged, on_value, notes_assigned, on_semicolon, step_by}
use Rattle.theorem_text.specs.Tokens.{SameFirst}
use Rattle.theorem_text.specs.Answers.{SameCheck, both_pass, both_refused}
use Rattle.theorem_text.proofs.Readings.{cond_both, cond_both_on, SameReading, same_whole, same-decimal, same_flag, same-string, same-whole-past, same-decimal-past, same_none}
use Rattle.theorem_text.proofs.Related.{SamePlace, SameName, Begun, SameWanted, want_statement, want_equals, want_value, want_semicolon, want_none, SameNotes, SameBase, SameParse, SameToken}

-- a value is judged alike
module _ (held : Option Holds) (at from : ℕ) where
  past : (kind : Holds) → SameCheck (Err (cond (serves held kind) (TextNumber at) (TextGrammar at))) (Err (cond (serves held kind) (TextNumber from) (TextGrammar from)))
  past kind = both_refused _ _ (by (serves held kind))
    where
      by : (x : Bool) → number_of (cond x (TextNumber at) (TextGrammar at)) ≡ number_of (cond x (TextNumber from) (TextGrammar from))
      by true = refl
      by false = refl

  good : (kind : Holds) → SameCheck (unless (serves held kind) (TextGrammar at)) (unless (serves held kind) (TextGrammar from))
  good kind = by (serves held kind)
    where
      by : (x : Bool) → SameCheck (unless x (TextGrammar at)) (unless x (TextGrammar from))
      by true = both_pass
      by false = both_refused _ _ refl

  value-check : {a b : List ℕ} {r q : Reading} → SameReading a b r q → SameCheck (value_check held r at) (value_check held q from)
  value-check (same_whole z) = good whole
  value-check (same-decimal x) = good decimal
  value-check (same_flag f) = good flag
  value-check (same-string s e p q h) = good string
  value-check same-whole-past = past whole
  value-check same-decimal-past = past decimal
  value-check same_none = both_refused _ _ refl

inside : (x y : Bool) → (not x && y) ≡ true → x ≡ false
inside true y e = absurd (true≢false (sym e))
inside false y e = refl

-- at the top a token leads into a block only with the brace that opens it, and finds none; so the places of the last block do not
-- matter there
module _ (text : List ℕ) (asked : Asked) (places : List ℕ) (p : Parse) (t : Token) (top : is_top p.scope ≡ true) where
  -- `q` is at the top, or its token opened a block
  pub record AtTop (w : Wanted) (q : Parse) : Type 0 where
    pub cleared : is_top q.scope ≡ false → filed w t places ≡ no_places
    pub found : q.notes.found ≡ p.notes.found

  stays : (w : Wanted) (q : Parse) → q.scope ≡ p.scope → q.notes.found ≡ p.notes.found → AtTop w q
  stays w q e f = record { cleared = λ h. absurd (true≢false (sym (ap is_top e ∙ top) ∙ h)); found = f }

  judged_top : (w : Wanted) (field : Option ℕ) (c : Check) → AtTop w (judged p t field c)
  judged_top w field (Ok _) = stays w _ refl refl
  judged_top w field (Err r) = stays w _ refl refl

  pub step_top : (w : Wanted) → AtTop w (step_by text asked places p t w)
  step_top Statement =
      cond_on (AtTop Statement) (is_identifier text t) (λ _. stays _ _ refl refl)
      (λ _. cond_on (AtTop Statement) (not (is_top p.scope) && eqb (form_of t) close_brace)
      (λ e. absurd (true≢false (sym top ∙ inside (is_top p.scope) (eqb (form_of t) close_brace) e)))
      (λ _. cond_on (AtTop Statement) (is_top p.scope && eqb (form_of t) end_form)
      (λ _. stays _ _ refl refl) (λ _. stays _ _ refl refl)))
  step_top (Equals start end) =
      let w = Equals start end in
      let kind = kind_named (bytes_of text start end) in
      cond_on (AtTop w) (eqb (form_of t) equals_sign) (λ _. stays w _ refl refl)
      (λ _. cond_on (AtTop w) (is_top p.scope && eqb (form_of t) open_brace)
      (λ e. let brace = ((and-eq-true_iff (is_top p.scope) (eqb (form_of t) open_brace)).0 e).1 in
      cond_on (AtTop w) (is_full p.notes.counts kind) (λ _. stays w _ refl refl)
      (λ _. record { cleared = λ _. ap (λ (x : Bool). cond x no_places places) brace; found = refl }))
      (λ _. stays w _ refl refl))
  step_top (Value field) = judged_top (Value field) field (value_check (held_by p.scope field) (token_read text t) t.start)
  step_top (Semicolon field place) =
      cond_on (AtTop (Semicolon field place)) (eqb (form_of t) semicolon) (λ _. stays _ _ refl refl) (λ _. stays _ _ refl refl)
  step_top NoMore = stays _ _ refl refl

module _ (a b : List ℕ) where
  -- the fields of two blocks have the same values
  abbrev pub SamePlaces : List ℕ → List ℕ → Type 0
  SamePlaces ps qs = (k : ℕ) → SamePlace a b (get_or ps k 0) (get_or qs k 0)

  all_given_lem : (ps qs : List ℕ) {x y : Scope} → x ≡ y → SamePlaces ps qs → all_given x ps ≡ all_given y qs
  all_given_lem ps qs {x} {y} e h =
      ap (λ (z : Scope). all_given z ps) e
      ∙ (λ i. every (λ k. not (is_required (fields_of y) k && (h k).given i)) (length (fields_of y)))

  module _ {n : ℕ} {p q : Parse} {t u : Token} (s : SameBase a b (suc n) p q) (l : SameToken a b n t u) where
    on : {w v : Wanted} → SameWanted a b t.next u.next w v → SameParse a b n (goes_on p t w) (goes_on q u v)
    on w = record { base = record { scope = s.scope; notes = s.notes; tokens = l.next }; wanted = w; check = both_pass }

    fewer : SameFirst (suc n) a p.at b q.at → SameFirst n a p.at b q.at
    fewer h k i = h k (omega (arith, i))

    off : {r z : Refusal} → number_of r ≡ number_of z → SameParse a b n (refused_with p r) (refused_with q z)
    off e = record { base = record { scope = s.scope; notes = s.notes; tokens = fewer s.tokens }; wanted = want_none; check = both_refused _ _ e }

    unfit : SameParse a b n (misfit p t) (misfit q u)
    unfit = off refl

    has : (f : ℕ) → eqb (form_of t) f ≡ eqb (form_of u) f
    has f = ap (λ (x : ℕ). eqb x f) l.form

    top : is_top p.scope ≡ is_top q.scope
    top = ap is_top s.scope

    found : (asked : Asked) → is_found asked p ≡ is_found asked q
    found asked = λ i. is_asked asked (s.scope i) (count_of (s.notes.counts i) (s.scope i))

    closed : (asked : Asked) (ps qs : List ℕ) → SamePlaces ps qs → SameParse a b n (closed_block asked ps p t) (closed_block asked qs q u)
    closed asked ps qs h =
        cond_both (SameParse a b n) (all_given_lem ps qs s.scope h)
        (record {
          base = record { scope = refl; notes = noted; tokens = l.next };
          wanted = cond_both (SameWanted a b t.next u.next) (ap (λ (x : Bool). stops_there asked && x) (found asked)) want_none want_statement;
          check = both_pass;
        })
        (off refl)
      where
        more : counted p.notes.counts p.scope ≡ counted q.notes.counts q.scope
        more = λ i. counted (s.notes.counts i) (s.scope i)

        noted : SameNotes a b (notes_after asked p t.next) (notes_after asked q u.next)
        noted =
            cond_both (SameNotes a b) (found asked)
            (record { namespace = s.notes.namespace; counts = more; found = refl; kind = s.scope })
            (record { namespace = s.notes.namespace; counts = more; found = s.notes.found; kind = s.notes.kind })

    on_statement_lem : (asked : Asked) (ps qs : List ℕ) → (is_top p.scope ≡ false → SamePlaces ps qs)
        → SameParse a b n (on_statement a asked ps p t) (on_statement b asked qs q u)
    on_statement_lem asked ps qs h =
        cond_both (SameParse a b n) l.named (on (want_equals t.start t.end u.start u.end l.name))
        (cond_both_on (SameParse a b n) (λ i. not (top i) && has close_brace i)
        (λ e. closed asked ps qs (h (inside (is_top p.scope) (eqb (form_of t) close_brace) e)))
        (cond_both (SameParse a b n) (λ i. top i && has end_form i) (on want_none) unfit))

    opened : (asked : Asked) (s₀ p₀ : ℕ) {x y : Scope} → x ≡ y → SameParse a b n (opened_block asked p t s₀ x) (opened_block asked q u p₀ y)
    opened asked s₀ p₀ {x} {y} e =
        cond_both (SameParse a b n) (λ i. is_full (s.notes.counts i) (e i)) (off refl)
        (record {
          base = record { scope = e; notes = s.notes; tokens = l.next };
          wanted = cond_both (SameWanted a b t.next u.next) (ap (stops_inside asked) e) want_none want_statement;
          check = both_pass;
        })

    -- a value where the token is `=`: it stands behind a place that is not 0
    on_equals_lem : (asked : Asked) (s₀ e₀ p₀ q₀ : ℕ) → SameName a b s₀ e₀ p₀ q₀ → SameParse a b n (on_equals a asked p t s₀ e₀) (on_equals b asked q u p₀ q₀)
    on_equals_lem asked s₀ e₀ p₀ q₀ same =
        cond_both_on (SameParse a b n) (has equals_sign)
        (λ e. on (subst (λ (f : Option ℕ). SameWanted a b t.next u.next (Value (field_named p.scope (bytes_of a s₀ e₀))) (Value f))
        (same.field p.scope ∙ ap (λ (z : Scope). field_named z (bytes_of b p₀ q₀)) s.scope)
        (want_value (field_named p.scope (bytes_of a s₀ e₀)) (l.begun (let h = eqb-true (form_of t) equals_sign e in omega (arith, h))))))
        (cond_both (SameParse a b n) (λ i. top i && has open_brace i) (opened asked s₀ p₀ same.kind) unfit)

    judged_alike : (f : Option ℕ) {c d : Check} → SamePlace a b t.start u.start → SameCheck c d → SameParse a b n (judged p t f c) (judged q u f d)
    judged_alike f v both_pass = on (want_semicolon f t.start u.start v)
    judged_alike f v (both_refused r z e) = off e

    on_value_lem : (f : Option ℕ) → SamePlace a b t.start u.start → SameParse a b n (on_value a p t f) (on_value b q u f)
    on_value_lem f v =
        judged_alike f v
        (subst (λ (h : Option Holds). SameCheck (value_check (held_by p.scope f) (token_read a t) t.start) (value_check h (token_read b u) u.start))
        (ap (λ (z : Scope). held_by z f) s.scope) (value-check (held_by p.scope f) t.start u.start l.read))

    on_semicolon_lem : (f : Option ℕ) (p₀ q₀ : ℕ) → SamePlace a b p₀ q₀ → SameParse a b n (on_semicolon p t f p₀) (on_semicolon q u f q₀)
    on_semicolon_lem f p₀ q₀ v =
        cond_both (SameParse a b n) (has semicolon)
        (record { base = record { scope = s.scope; notes = noted; tokens = l.next }; wanted = want_statement; check = both_pass }) unfit
      where
        noted : SameNotes a b (notes_assigned p f p₀) (notes_assigned q f q₀)
        noted = record {
          namespace = cond_both (SamePlace a b) (ap (λ (x : Bool). x && is_some f) top) v s.notes.namespace;
          counts = s.notes.counts;
          found = s.notes.found;
          kind = s.notes.kind;
        }

  weaker : {n : ℕ} {p q : Parse} → SameParse a b (suc n) p q → SameParse a b n p q
  weaker s = record { base = record { scope = s.base.scope; notes = s.base.notes; tokens = λ k h. s.base.tokens k (omega (arith, h)) }; wanted = s.wanted; check = s.check }

  -- one token, where the same is wanted; a value's place is looked at only where one is wanted
  pub stepped_alike : {n : ℕ} {p q : Parse} {t u : Token} (asked : Asked) (ps qs : List ℕ) {w v : Wanted}
      → SameParse a b (suc n) p q → SameToken a b n t u
      → (is_top p.scope ≡ false → SamePlaces ps qs)
      → (Begun a b p.at q.at → SamePlace a b t.start u.start) → SameWanted a b p.at q.at w v
      → SameParse a b n (step_by a asked ps p t w) (step_by b asked qs q u v)
  stepped_alike asked ps qs s l h v want_statement = on_statement_lem s.base l asked ps qs h
  stepped_alike asked ps qs s l h v (want_equals s₀ e₀ p₀ q₀ n) = on_equals_lem s.base l asked s₀ e₀ p₀ q₀ n
  stepped_alike asked ps qs s l h v (want_value f g) = on_value_lem s.base l f (v g)
  stepped_alike asked ps qs s l h v (want_semicolon f p₀ q₀ g) = on_semicolon_lem s.base l f p₀ q₀ g
  stepped_alike asked ps qs s l h v want_none = weaker s

  -- no field has a value
  pub no_places_lem : SamePlaces no_places no_places
  no_places_lem k = subst (λ (n : ℕ). SamePlace a b n n) (sym (none k 34)) (record { given = refl; read = same_none })
    where
      none : (k n : ℕ) → ◌≡◌ {A = ℕ} (get_or (replicate n 0) k 0) 0
      none k zero = refl
      none zero (suc n) = refl
      none (suc k) (suc n) = none k n

  -- the same field gets the same value
  set-places : (ps qs : List ℕ) (i : ℕ) {m n : ℕ} → SamePlaces ps qs → length ps ≡ length qs → SamePlace a b m n → SamePlaces (set ps i m) (set qs i n)
  set-places [] [] i h e v k = h k
  set-places [] (y ∷ ys) i h e v k = absurd (omega (arith, e))
  set-places (x ∷ xs) [] i h e v k = absurd (omega (arith, e))
  set-places (x ∷ xs) (y ∷ ys) zero h e v zero = v
  set-places (x ∷ xs) (y ∷ ys) zero h e v (suc k) = h (suc k)
  set-places (x ∷ xs) (y ∷ ys) (suc i) h e v zero = h zero
  set-places (x ∷ xs) (y ∷ ys) (suc i) h e v (suc k) = set-places xs ys i (λ j. h (suc j)) (omega (arith, e)) v k

  -- as many fields with the same values
  pub record SameFields (ps qs : List ℕ) : Type 0 where
    pub values : SamePlaces ps qs
    pub long : length ps ≡ length qs

  pub filed_alike : (ps qs : List ℕ) (t u : Token) {at from : ℕ} {w v : Wanted} → SameFields ps qs → (form_of t) ≡ (form_of u) → SameWanted a b at from w v
      → SameFields (filed w t ps) (filed v u qs)
  filed_alike ps qs t u h e want_statement = h
  filed_alike ps qs t u h e (want_equals s₀ e₀ p₀ q₀ n) =
      cond_both SameFields (ap (λ (x : ℕ). eqb x open_brace) e) (record { values = no_places_lem; long = refl }) h
  filed_alike ps qs t u h e (want_value f g) = h
  filed_alike ps qs t u h e (want_semicolon None p₀ q₀ g) = cond_both SameFields (ap (λ (x : ℕ). eqb x semicolon) e) h h
  filed_alike ps qs t u h e (want_semicolon (Some k) p₀ q₀ g) =
      cond_both SameFields (ap (λ (x : ℕ). eqb x semicolon) e)
      (record { values = set-places ps qs k h.values h.long g; long = length-set ps k p₀ ∙ h.long ∙ sym (length-set qs k q₀) }) h
  filed_alike ps qs t u h e want_none = h
