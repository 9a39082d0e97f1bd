-- An assignment to an unknown name changes nothing but places: four tokens lead back to where they began. Assumes nothing.
use Prim.Native.Nat.{ℕ, suc, ◌+◌}
use mathlib.Core.Bool.{Bool, true, false, not, ◌&&◌, cond, and-false, true≢false}
use mathlib.Core.List.{List}
use mathlib.Core.Path.{◌≡◌, refl, sym, ap, ◌∙◌, subst}
use native.Mathlib.Omega.{arith}
use borrow.Author.Tests.{eqb-true, ne_eqb}
use lib.Dec.{eqb}
use lib.ListN.{length}
use Rattle.std.specs.Prelude.{Option, None, Ok}
use Rattle.refusal.specs.Checks.{Check}
use Rattle.text_token.specs.declared.Token.{Token}
use Rattle.text_byte.specs.Bytes.{equals_sign, semicolon, open_brace, close_brace}
use Rattle.text_token.specs.Tokens.{form_of, end_form, token_at, word_of}
use Rattle.text_table.specs.declared.scope.Scope.{Scope}
use Rattle.text_table.specs.Names.{kind_named}
use Rattle.text_block.specs.declared.Asked.{Asked}
use Rattle.text_block.specs.declared.Wanted.{Wanted}
use Rattle.text_block.specs.declared.Wanted.TheVariants.{Statement, Equals, Value, Semicolon, NoMore}
use Rattle.text_step.specs.declared.Notes.{Notes}
use Rattle.text_step.specs.declared.Parse.{Parse}
use Rattle.text_block.specs.Blocks.{no_places, filed}
use Rattle.text_name.specs.Identifiers.{is_identifier}
use Rattle.text_step.specs.Steps.{notes, parse, goes_on, misfit, is_top, closed_block, opened_block, judged, step_by}
use Rattle.text_reader.specs.Texts.{Stand, stand, token_more, text_from}
use Rattle.theorem_text.specs.Tokens.{SameFirst}
use Rattle.theorem_text.specs.Answers.{SameCheck, both_pass, SameStand}
use Rattle.theorem_text.specs.Promises.{after, begins_at, next_token, UnknownAssigned, PutBetween, UnknownNamesDoNotMatter}
use Rattle.theorem_text.proofs.Related.{SameWanted, want_statement, want_equals, want_value, want_semicolon, want_none}
use Rattle.theorem_text.proofs.Holds.{Alike, after_alike, begins_alike, kept_still, by_wanted, after_add, ends_alike}

pub taken : {A : Type 0} (x : Bool) {y : A} (z : A) → x ≡ true → cond x y z ≡ y
taken true z e = refl
taken false z e = absurd (true≢false (sym e))

abbrev is_statement : Wanted → Bool
is_statement Statement = true
is_statement (Equals start end) = false
is_statement (Value field) = false
is_statement (Semicolon field place) = false
is_statement NoMore = false

-- a statement is wanted in both
pub statement_too : {a b : List ℕ} {at from : ℕ} {w v : Wanted} → SameWanted a b at from w v → w ≡ Statement → v ≡ Statement
statement_too want_statement e = refl
statement_too (want_equals s e₀ p q n) e = absurd (true≢false (sym (ap is_statement e)))
statement_too (want_value f g) e = absurd (true≢false (sym (ap is_statement e)))
statement_too (want_semicolon f p q g) e = absurd (true≢false (sym (ap is_statement e)))
statement_too want_none e = absurd (true≢false (sym (ap is_statement e)))

module _ (text : List ℕ) (asked : Asked) where
  -- a token that changes neither the notes nor the places
  pub plain_step : (s : Stand) (w : Wanted) (next : Parse) → s.parse.wanted ≡ w → let t = token_at text s.parse.at in
      step_by text asked s.places s.parse t w ≡ next → filed w t s.places ≡ s.places → next.notes.found ≡ s.parse.notes.found
      → token_more text asked s ≡ stand next s.places s.kept
  plain_step s w next e f g h =
      by_wanted text asked s e
      ∙ (λ i. stand (f i) (g i) (cond (not s.parse.notes.found && (f i).notes.found) s.places s.kept))
      ∙ ap (λ (x : Bool). stand next s.places (cond (not s.parse.notes.found && x) s.places s.kept)) h
      ∙ ap (stand next s.places) (kept_still s.parse.notes.found s.places s.kept)

  module _ (s : Stand) (next : ℕ) (e : s.parse.wanted ≡ Statement) (u : UnknownAssigned text s.parse.scope s.parse.at next) where
    abbrev p : Parse
    p = s.parse

    abbrev t₁ : Token
    t₁ = token_at text p.at

    abbrev t₂ : Token
    t₂ = next_token text t₁

    abbrev t₃ : Token
    t₃ = next_token text t₂

    abbrev t₄ : Token
    t₄ = next_token text t₃

    abbrev s₁ : Stand
    s₁ = stand (goes_on p t₁ (Equals t₁.start t₁.end)) s.places s.kept

    abbrev s₂ : Stand
    s₂ = stand (goes_on p t₂ (Value None)) s.places s.kept

    abbrev s₃ : Stand
    s₃ = stand (goes_on p t₃ (Semicolon None t₃.start)) s.places s.kept

    abbrev s₄ : Stand
    s₄ = stand (goes_on p t₄ Statement) s.places s.kept

    abbrev other : Parse
    other =
        cond (not (is_top p.scope) && eqb (form_of t₁) close_brace) (closed_block asked s.places p t₁)
        (cond (is_top p.scope && eqb (form_of t₁) end_form) (goes_on p t₁ NoMore) (misfit p t₁))

    first : token_more text asked s ≡ s₁
    first = plain_step s Statement s₁.parse e (taken (is_identifier text t₁) other u.name) refl refl

    abbrev opens : Parse
    opens = cond (is_top p.scope && eqb (form_of t₂) open_brace) (opened_block asked s₁.parse t₂ t₁.start (kind_named (word_of text t₁))) (misfit s₁.parse t₂)

    second : token_more text asked s₁ ≡ s₂
    second =
        plain_step s₁ (Equals t₁.start t₁.end) s₂.parse refl
        (taken (eqb (form_of t₂) equals_sign) opens u.equals ∙ ap (λ (f : Option ℕ). goes_on p t₂ (Value f)) u.unknown)
        (ap (λ (x : Bool). cond x no_places s.places) (not_brace (form_of t₂) u.equals)) refl
      where
        not_brace : (f : ℕ) → eqb f equals_sign ≡ true → eqb f open_brace ≡ false
        not_brace f h = ne_eqb f open_brace (λ q. let k = eqb-true f equals_sign h in omega (arith, q, k))

    third : token_more text asked s₂ ≡ s₃
    third = plain_step s₂ (Value None) s₃.parse refl (ap (judged s₂.parse t₃ None) u.value) refl refl

    fourth : token_more text asked s₃ ≡ s₄
    fourth =
        plain_step s₃ (Semicolon None t₃.start) s₄.parse refl
        (ap (λ (x : Bool). cond x (parse Statement p.scope p.block t₄.next (Ok tt) (noted (is_top p.scope && false))) (misfit s₃.parse t₄)) u.ends
        ∙ ap (λ (x : Bool). parse Statement p.scope p.block t₄.next (Ok tt) (noted x)) (and-false (is_top p.scope)))
        (same (eqb (form_of t₄) semicolon)) refl
      where
        noted : Bool → Notes
        noted x = let n = p.notes in notes (cond x t₃.start n.namespace) n.counts n.found n.kind n.block n.next

        same : (x : Bool) → cond x s.places s.places ≡ s.places
        same true = refl
        same false = refl

    pub four-tokens : after text asked 4 s ≡ s₄
    unfolding after
    four-tokens =
        ap (λ (x : Stand). token_more text asked (token_more text asked (token_more text asked x))) first
        ∙ ap (λ (x : Stand). token_more text asked (token_more text asked x)) second ∙ ap (token_more text asked) third ∙ fourth

module _ (a b : List ℕ) (asked : Asked) (at from m next : ℕ) (h : PutBetween a b asked at from m next)
    (u : UnknownAssigned b (after a asked m (begins_at at)).parse.scope (after b asked m (begins_at from)).parse.at next) where
  abbrev s : Stand
  s = after a asked m (begins_at at)

  abbrev r : Stand
  r = after b asked m (begins_at from)

  so_far : Alike a b 0 s r
  so_far = after_alike a b asked m (begins_alike a b m at from h.before)

  wanted_too : r.parse.wanted ≡ Statement
  wanted_too = statement_too so_far.parse.wanted h.between

  assigned_too : UnknownAssigned b r.parse.scope r.parse.at next
  assigned_too = subst (λ (x : Scope). UnknownAssigned b x r.parse.at next) so_far.parse.base.scope u

  -- behind the four tokens both stand alike, with the same tokens to come
  behind_alike : (n : ℕ) → Alike a b n s (after b asked 4 r)
  behind_alike n =
      subst (Alike a b n s) (sym (four-tokens b asked r next wanted_too assigned_too))
      (record {
        parse = record {
          base = record {
            scope = so_far.parse.base.scope;
            notes = so_far.parse.base.notes;
            tokens = subst (SameFirst n a s.parse.at b) (sym assigned_too.behind) (h.behind n);
          };
          wanted = subst (λ (w : Wanted). SameWanted a b s.parse.at (next_token b (next_token b (next_token b (token_at b r.parse.at)))).next w Statement) (sym h.between) want_statement;
          check = subst (λ (c : Check). SameCheck c (Ok tt)) (sym h.good) both_pass;
        };
        places = so_far.places;
        kept = so_far.kept;
      })

-- `k` tokens put in behind the first `m`: where both then stand alike, with the same tokens to come, they have the same answers
pub put_in : (a b : List ℕ) (asked : Asked) (at from m k : ℕ)
    → ((n : ℕ) → Alike a b n (after a asked m (begins_at at)) (after b asked k (after b asked m (begins_at from))))
    → SameStand a b (text_from a asked at) (text_from b asked from)
put_in a b asked at from m k h =
    let n = length a + suc (length b) in
    ends_alike a b asked at from (m + n) (m + (k + n)) (m + length b) (m + k + length a) (omega arith) (omega arith)
    (subst (λ (x : Stand). Alike a b 0 x (after b asked (m + (k + n)) (begins_at from))) (sym (after_add a asked m n (begins_at at)))
    (subst (Alike a b 0 (after a asked n (after a asked m (begins_at at))))
    (sym (after_add b asked m (k + n) (begins_at from) ∙ after_add b asked k n (after b asked m (begins_at from))))
    (after_alike a b asked n (h n))))

pub unknown_names : UnknownNamesDoNotMatter
unknown_names a b asked at from m next h u = put_in a b asked at from m 4 (behind_alike a b asked at from m next h u)
