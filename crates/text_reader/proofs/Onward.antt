-- One token more: what goes on does so behind its token and inside the text, and the kind of an open block has room. Assumes nothing.
use Prim.Native.Nat.{ℕ, ◌≤◌, ◌<◌}
use mathlib.Core.Bool.{true, false, not, ◌&&◌, and-eq-true_iff, true≢false}
use mathlib.Core.List.{List}
use mathlib.Core.Path.{◌≡◌, refl, sym, ap, ◌∙◌}
use native.Mathlib.Omega.{arith}
use borrow.Author.Tests.{eqb-true}
use lib.Dec.{eqb}
use lib.ListN.{length}
use Rattle.std.specs.Prelude.{Option, Ok, Err}
use Rattle.refusal.specs.declared.Refusal.{Refusal}
use Rattle.refusal.specs.Checks.{Check}
use Rattle.text_token.specs.declared.Token.{Token}
use Rattle.text_token.specs.Tokens.{form_of, word_of, token_at, Placed, bytes_of}
use Rattle.text_byte.proofs.Spans.{cond_on}
use Rattle.text_token.proofs.Tokens.{token_at-placed}
use Rattle.text_value.specs.Values.{Reading, token_read}
use Rattle.text_table.specs.declared.field.Holds.{Holds}
use Rattle.text_table.specs.declared.scope.Scope.{Scope}
use Rattle.text_table.specs.Names.{kind_named}
use Rattle.text_block.specs.declared.Asked.{Asked}
use Rattle.text_block.specs.declared.Wanted.{Wanted}
use Rattle.text_block.specs.declared.Wanted.TheVariants.{Statement, Equals, Value, Semicolon, NoMore}
use Rattle.text_step.specs.declared.Parse.{Parse}
use Rattle.text_block.specs.Blocks.{is_full, all_given}
use Rattle.text_name.specs.Identifiers.{identifier_ok, is_identifier}
use Rattle.text_step.specs.Steps.{goes_on, refused_with, is_top, closed_block, on_statement, opened_block, on_equals, held_by, value_check, judged, on_value, on_semicolon, step_by}
use Rattle.text_reader.specs.Texts.{is_more}

module _ (text : List ℕ) (asked : Asked) (places : List ℕ) (s : Parse) where
  abbrev t : Token
  t = token_at text s.at

  placed : Placed text s.at t
  placed = token_at-placed text s.at

  -- how it stands behind the token
  pub record Next (r : Parse) : Type 0 where
    pub onward : is_more r.wanted ≡ true → (s.at < r.at) × (r.at ≤ length text)
    pub room : is_full s.notes.counts s.scope ≡ false → is_full r.notes.counts r.scope ≡ false

  ended : {A : Type 0} → is_more NoMore ≡ true → A
  ended e = absurd (true≢false (sym e))

  refused : (x : Refusal) → Next (refused_with s x)
  refused x = record { onward = λ e. ended e; room = λ e. e }

  -- a token of a form that is no end of the text
  ahead : (form : ℕ) → 2 ≤ form → eqb (form_of t) form ≡ true → (s.at < t.next) × (t.next ≤ length text)
  ahead form h e = let f = eqb-true (form_of t) form e in (placed.ahead (omega arith), placed.whole)

  fits : (w : Wanted) → (s.at < t.next) × (t.next ≤ length text) → Next (goes_on s t w)
  fits w h = record { onward = λ _. h; room = λ e. e }

  closed_next : (s.at < t.next) × (t.next ≤ length text) → Next (closed_block asked places s t)
  closed_next h = cond_on Next (all_given s.scope places) (λ _. record { onward = λ _. h; room = λ _. refl }) (λ _. refused _)

  statement_next : Next (on_statement text asked places s t)
  statement_next =
      cond_on Next (is_identifier text t)
      (λ e. fits _ (ahead 2 (omega arith) ((and-eq-true_iff (eqb (form_of t) 2) (identifier_ok (word_of text t))).0 e).0))
      (λ _. cond_on Next (not (is_top s.scope) && eqb (form_of t) 125)
      (λ e. closed_next (ahead 125 (omega arith) ((and-eq-true_iff (not (is_top s.scope)) (eqb (form_of t) 125)).0 e).1))
      (λ _. cond_on Next (is_top s.scope && eqb (form_of t) 0) (λ _. record { onward = λ e. ended e; room = λ e. e }) (λ _. refused _)))

  opened_next : (start : ℕ) (kind : Scope) → (s.at < t.next) × (t.next ≤ length text) → Next (opened_block asked s t start kind)
  opened_next start kind h =
      cond_on Next (is_full s.notes.counts kind) (λ _. refused _) (λ e. record { onward = λ _. h; room = λ _. e })

  equals_next : (start end : ℕ) → Next (on_equals text asked s t start end)
  equals_next start end =
      cond_on Next (eqb (form_of t) 61) (λ e. fits _ (ahead 61 (omega arith) e))
      (λ _. cond_on Next (is_top s.scope && eqb (form_of t) 123)
      (λ e. opened_next start (kind_named (bytes_of text start end)) (ahead 123 (omega arith) ((and-eq-true_iff (is_top s.scope) (eqb (form_of t) 123)).0 e).1))
      (λ _. refused _))

  -- a value that passes is a string or a word
  value-ahead : (held : Option Holds) (at : ℕ) → value_check held (token_read text t) at ≡ Ok tt → (s.at < t.next) × (t.next ≤ length text)
  value-ahead held at =
      cond_on (λ (x : Reading). value_check held x at ≡ Ok tt → (s.at < t.next) × (t.next ≤ length text)) (eqb (form_of t) 34)
      (λ e _. ahead 34 (omega arith) e)
      (λ _. cond_on (λ (x : Reading). value_check held x at ≡ Ok tt → (s.at < t.next) × (t.next ≤ length text)) (eqb (form_of t) 2)
      (λ e _. ahead 2 (omega arith) e)
      (λ _ e. let z : ◌≡◌ {A = ℕ} 0 1 = cc in absurd (omega arith)))

  judged_next : (field : Option ℕ) (k : Check) → (k ≡ Ok tt → (s.at < t.next) × (t.next ≤ length text)) → Next (judged s t field k)
  judged_next field (Ok _) h = fits _ (h refl)
  judged_next field (Err r) h = refused r

  value_next : (field : Option ℕ) → Next (on_value text s t field)
  value_next field =
      let held = held_by s.scope field in
      judged_next field (value_check held (token_read text t) t.start) (value-ahead held t.start)

  semicolon_next : (field : Option ℕ) (place : ℕ) → Next (on_semicolon s t field place)
  semicolon_next field place =
      cond_on Next (eqb (form_of t) 59) (λ e. record { onward = λ _. ahead 59 (omega arith) e; room = λ k. k }) (λ _. refused _)

  pub step_next : (w : Wanted) → s.wanted ≡ w → Next (step_by text asked places s t w)
  step_next Statement e = statement_next
  step_next (Equals start end) e = equals_next start end
  step_next (Value field) e = value_next field
  step_next (Semicolon field place) e = semicolon_next field place
  step_next NoMore e = record { onward = λ g. ended (sym (ap is_more e) ∙ g); room = λ k. k }
