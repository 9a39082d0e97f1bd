-- A block is found exactly if its number is below the count. Asked for a block or not, a text is read to the same end; and the block is
-- found when the count passes its number. Assumes nothing.
use Prim.Native.Nat.{ℕ, suc, ◌+◌}
use mathlib.Core.Bool.{Bool, true, false, not, ◌&&◌, cond, and-eq-true_iff, true≢false}
use mathlib.Core.List.{List}
use mathlib.Core.Path.{◌≡◌, refl, sym, ap, ◌∙◌}
use native.Mathlib.Omega.{arith}
use borrow.Author.Tests.{eqb-true, eqb-false, ltb-true, ltb-false, lt-ltb, le-ltb}
use lib.Dec.{eqb, ltb}
use lib.ListN.{length}
use Rattle.std.specs.Prelude.{Option, Ok, Err}
use Rattle.refusal.specs.Checks.{Check}
use Rattle.refusal.specs.declared.Refusal.TheVariants.{TextMissing}
use Rattle.refusal.specs.Checks.{unless, ◌and_then◌}
use Rattle.text_byte.proofs.Spans.{cond_on}
use Rattle.text_byte.specs.Bytes.{equals_sign, semicolon, open_brace, close_brace}
use Rattle.text_token.specs.declared.Token.{Token}
use Rattle.text_token.specs.Tokens.{form_of, end_form, token_at, bytes_of}
use Rattle.text_value.specs.Values.{token_read}
use Rattle.text_table.specs.declared.scope.Scope.{Scope}
use Rattle.text_table.specs.declared.scope.Scope.TheVariants.{Top, Vertex, Linedef, Sidedef, Sector, Thing, Unknown}
use Rattle.text_table.specs.Scopes.{scope_number}
use Rattle.text_table.proofs.Scopes.{number-tells}
use Rattle.text_table.specs.Names.{kind_named}
use Rattle.text_block.specs.declared.Asked.TheVariants.{Nothing, Numbered}
use Rattle.text_block.specs.declared.Counts.{Counts}
use Rattle.text_block.specs.declared.Wanted.{Wanted}
use Rattle.text_block.specs.declared.Wanted.TheVariants.{Statement, Equals, Value, Semicolon, NoMore}
use Rattle.text_block.specs.Blocks.{counts, count_of, counted, is_full, all_given, filed, no_places}
use Rattle.text_name.specs.Identifiers.{is_identifier}
use Rattle.text_step.specs.declared.Notes.{Notes}
use Rattle.text_step.specs.declared.Parse.{Parse}
use Rattle.text_step.specs.Steps.{notes, parse, is_top, is_found, notes_after, held_by, value_check, judged, step_by}
use Rattle.text_reader.specs.Texts.{Stand, stand, goes, token_more, text_from}
use Rattle.text_reader.proofs.Runs.{runs_map, runs-keep}
use Rattle.text_map.specs.Answers.{summary_by, block_check, fields_by, numbered}
use Rattle.theorem_text.specs.Found.{is_kind, check_below, FoundBelowTheCount}
use Rattle.theorem_text.proofs.Readings.{cond_both}
use Rattle.theorem_text.proofs.LastValues.{step-notes}

-- what was read, without the block that was asked for
abbrev plain_notes : Notes → Notes
plain_notes n = notes n.namespace n.counts false Top 0 0

abbrev plain : Parse → Parse
plain p = parse p.wanted p.scope p.block p.at p.check (plain_notes p.notes)

abbrev plain_stand : Stand → Stand
plain_stand s = stand (plain s.parse) s.places no_places

record Plain (p q : Parse) : Type 0 where
  same : plain p ≡ q

unchanged : {p : Parse} → Plain p (plain p)
unchanged = record { same = refl }

module _ (text : List ℕ) (kind : Scope) (number : ℕ) where
  module _ (places : List ℕ) (p : Parse) (t : Token) where
    closed-plain : (next : ℕ) → plain_notes (notes_after (Numbered kind number) p next) ≡ notes_after Nothing (plain p) next
    closed-plain next =
        cond_on (λ (n : Notes). plain_notes n ≡ notes_after Nothing (plain p) next) (is_found (Numbered kind number) p)
        (λ _. refl) (λ _. refl)

    judged-plain : (field : Option ℕ) (c : Check) → Plain (judged p t field c) (judged (plain p) t field c)
    judged-plain field (Ok _) = unchanged
    judged-plain field (Err r) = unchanged

    -- one token more: asked for a block or not, the rest of what was read is the same
    step-plain : (w : Wanted) → Plain (step_by text (Numbered kind number) places p t w) (step_by text Nothing places (plain p) t w)
    step-plain Statement =
        cond_both Plain {b = is_identifier text t} refl unchanged
        (cond_both Plain {b = not (is_top p.scope) && eqb (form_of t) close_brace} refl
        (cond_both Plain {b = all_given p.scope places} refl
        (record { same = ap (parse Statement Top 0 t.next (Ok tt)) (closed-plain t.next) }) unchanged)
        (cond_both Plain {b = is_top p.scope && eqb (form_of t) end_form} refl unchanged unchanged))
    step-plain (Equals start end) =
        cond_both Plain {b = eqb (form_of t) equals_sign} refl unchanged
        (cond_both Plain {b = is_top p.scope && eqb (form_of t) open_brace} refl
        (cond_both Plain {b = is_full p.notes.counts (kind_named (bytes_of text start end))} refl unchanged unchanged)
        unchanged)
    step-plain (Value field) = judged-plain field (value_check (held_by p.scope field) (token_read text t) t.start)
    step-plain (Semicolon field place) = cond_both Plain {b = eqb (form_of t) semicolon} refl unchanged unchanged
    step-plain NoMore = unchanged

  more-plain : (s : Stand) → plain_stand (token_more text (Numbered kind number) s) ≡ token_more text Nothing (plain_stand s)
  more-plain s =
      let t = token_at text s.parse.at in
      let e = (step-plain s.places s.parse t s.parse.wanted).same in
      λ i. stand (e i) (filed s.parse.wanted t s.places) (cond (e i).notes.found s.places no_places)

  -- the whole text
  read_plain : plain_stand (numbered text kind number) ≡ text_from text Nothing 0
  read_plain =
      runs_map goes (token_more text (Numbered kind number)) goes (token_more text Nothing) plain_stand (λ s. refl) more-plain _ _

-- one more of a kind
count-after : (c : Counts) (kind scope : Scope) → is_kind kind ≡ true
    → count_of (counted c scope) kind ≡ cond (eqb (scope_number kind) (scope_number scope)) (count_of c kind + 1) (count_of c kind)
count-after c Top scope h = absurd (true≢false (sym h))
count-after c Vertex Top h = refl
count-after c Vertex Vertex h = refl
count-after c Vertex Linedef h = refl
count-after c Vertex Sidedef h = refl
count-after c Vertex Sector h = refl
count-after c Vertex Thing h = refl
count-after c Vertex Unknown h = refl
count-after c Linedef Top h = refl
count-after c Linedef Vertex h = refl
count-after c Linedef Linedef h = refl
count-after c Linedef Sidedef h = refl
count-after c Linedef Sector h = refl
count-after c Linedef Thing h = refl
count-after c Linedef Unknown h = refl
count-after c Sidedef Top h = refl
count-after c Sidedef Vertex h = refl
count-after c Sidedef Linedef h = refl
count-after c Sidedef Sidedef h = refl
count-after c Sidedef Sector h = refl
count-after c Sidedef Thing h = refl
count-after c Sidedef Unknown h = refl
count-after c Sector Top h = refl
count-after c Sector Vertex h = refl
count-after c Sector Linedef h = refl
count-after c Sector Sidedef h = refl
count-after c Sector Sector h = refl
count-after c Sector Thing h = refl
count-after c Sector Unknown h = refl
count-after c Thing Top h = refl
count-after c Thing Vertex h = refl
count-after c Thing Linedef h = refl
count-after c Thing Sidedef h = refl
count-after c Thing Sector h = refl
count-after c Thing Thing h = refl
count-after c Thing Unknown h = refl
count-after c Unknown scope h = absurd (true≢false (sym h))

-- a count that is not the number is below it, or above it, with one more too
below_more : (number n : ℕ) → eqb n number ≡ false → ltb number n ≡ ltb number (n + 1)
below_more number n e = by (ltb number n) refl
  where
    by : (x : Bool) → ltb number n ≡ x → x ≡ ltb number (n + 1)
    by true l = let h = ltb-true number n l in sym (lt-ltb number (n + 1) (omega (arith, h)))
    by false l =
        let h = ltb-false number n l in
        let k = eqb-false n number e in
        sym (le-ltb number (n + 1) (omega (arith, h, k)))

module _ (text : List ℕ) (kind : Scope) (number : ℕ) (known : is_kind kind ≡ true) where
  -- a block is found where the count has passed its number
  abbrev Passed : Notes → Type 0
  Passed n = n.found ≡ ltb number (count_of n.counts kind)

  -- where a block ends: it is of the kind or of another one, and the count is the number or not
  module _ (p : Parse) (next : ℕ) (h : Passed p.notes) where
    abbrev n : ℕ
    n = count_of p.notes.counts kind

    abbrev m : ℕ
    m = count_of (counted p.notes.counts p.scope) kind

    abbrev same : Bool
    same = eqb (scope_number kind) (scope_number p.scope)

    count : (x : Bool) → same ≡ x → m ≡ cond x (n + 1) n
    count x e = count-after p.notes.counts kind p.scope known ∙ ap (λ (z : Bool). cond z (n + 1) n) e

    here : same ≡ true → n ≡ count_of p.notes.counts p.scope
    here e = ap (count_of p.notes.counts) (number-tells kind p.scope (eqb-true (scope_number kind) (scope_number p.scope) e))

    found : is_found (Numbered kind number) p ≡ true → true ≡ ltb number m
    found e =
        let both = (and-eq-true_iff same (eqb (count_of p.notes.counts p.scope) number)).0 e in
        let more = count true both.0 in
        let met = here both.0 ∙ eqb-true (count_of p.notes.counts p.scope) number both.1 in
        sym (lt-ltb number m (omega (arith, more, met)))

    other : (x : Bool) → same ≡ x → (x && eqb (count_of p.notes.counts p.scope) number) ≡ false → p.notes.found ≡ ltb number m
    other true e f = h ∙ below_more number n (ap (λ (k : ℕ). eqb k number) (here e) ∙ f) ∙ ap (ltb number) (sym (count true e))
    other false e f = h ∙ ap (ltb number) (sym (count false e))

    passed_after : Passed (notes_after (Numbered kind number) p next)
    passed_after = cond_on Passed (is_found (Numbered kind number) p) found (other same refl)

  passed_first : false ≡ ltb number (count_of (counts 0 0 0 0 0) kind)
  passed_first = sym (ap (ltb number) (none kind) ∙ le-ltb number 0 (omega arith))
    where
      none : (k : Scope) → ◌≡◌ {A = ℕ} (count_of (counts 0 0 0 0 0) k) 0
      none Top = refl
      none Vertex = refl
      none Linedef = refl
      none Sidedef = refl
      none Sector = refl
      none Thing = refl
      none Unknown = refl

  passed : Passed (numbered text kind number).parse.notes
  passed =
      runs-keep goes (token_more text (Numbered kind number)) (λ (s : Stand). s.parse.at) (length text)
      (λ (s : Stand). Passed s.parse.notes) (λ s _ h. step s h) (suc (length text)) passed_first
    where
      step : (s : Stand) → Passed s.parse.notes → Passed (token_more text (Numbered kind number) s).parse.notes
      step s h =
          let t = token_at text s.parse.at in
          step-notes text (Numbered kind number) s.places s.parse t Passed s.parse.wanted h
          (passed_after s.parse t.next h) (λ _ _ _ _. h)

fields-check : (text : List ℕ) (p : Parse) (c : Check) → (fields_by text p c).check ≡ c
fields-check text p (Ok _) = refl
fields-check text p (Err r) = refl

below : (text : List ℕ) (kind : Scope) (number : ℕ) (p : Parse) (c : Check)
    → (c and_then unless (ltb number (count_of p.notes.counts kind)) TextMissing) ≡ check_below kind number (summary_by text p c)
below text kind number p (Ok _) = refl
below text kind number p (Err r) = refl

pub found-below_the_count : FoundBelowTheCount
found-below_the_count text kind number known =
    let s = (numbered text kind number).parse in
    let p = (text_from text Nothing 0).parse in
    let same = ap (λ (x : Stand). x.parse) (read_plain text kind number) in
    let found = passed text kind number known ∙ ap (λ (x : Parse). ltb number (count_of x.notes.counts kind)) same in
    fields-check text s (block_check s) ∙ (λ i. (same i).check and_then unless (found i) TextMissing)
    ∙ below text kind number p p.check
