-- The last value counts: behind an assignment the place of its value stays, up to the text's end. Assumes nothing.
use Prim.Native.Nat.{ℕ, zero, suc, ◌+◌, ◌<◌}
use mathlib.Core.Bool.{Bool, true, false, not, ◌&&◌, cond}
use mathlib.Core.List.{List}
use mathlib.Core.Path.{◌≡◌, refl, sym, ap, ◌∙◌}
use native.Mathlib.Omega.{arith}
use borrow.Author.Tests.{eq-eqb, eqb-false}
use lib.Dec.{eqb}
use lib.ListN.{get_or, length, set}
use lib.Seq.{get_or-set_same, get_or-set_other}
use Rattle.std.specs.Prelude.{Option, Some, None, is_some, Ok, Err}
use Rattle.refusal.specs.Checks.{Check}
use Rattle.text_token.specs.declared.Token.{Token}
use Rattle.text_byte.specs.Bytes.{equals_sign, semicolon, open_brace, close_brace}
use Rattle.text_token.specs.Tokens.{form_of, end_form, token_at, bytes_of}
use Rattle.text_byte.proofs.Spans.{cond_on}
use Rattle.text_value.specs.Values.{token_read}
use Rattle.text_table.specs.Names.{kind_named}
use Rattle.text_block.specs.declared.Asked.{Asked}
use Rattle.text_block.specs.declared.Wanted.{Wanted}
use Rattle.text_block.specs.declared.Wanted.TheVariants.{Statement, Equals, Value, Semicolon, NoMore}
use Rattle.text_step.specs.declared.Notes.{Notes}
use Rattle.text_step.specs.declared.Parse.{Parse}
use Rattle.text_block.specs.Blocks.{no_places, is_full, all_given, stored, filed}
use Rattle.text_name.specs.Identifiers.{is_identifier}
use Rattle.text_step.specs.Steps.{parse, misfit, is_top, is_found, notes_after, held_by, value_check, judged, notes_assigned, step_by}
use Rattle.text_reader.specs.Texts.{Stand, token_more, text_from}
use Rattle.theorem_text.specs.Promises.{after, begins_at, touches, touched_next, EndsAsked, LastValueCounts, LastValueIsRead, assigns, names_next, LastNamespaceCounts}
use Rattle.theorem_text.proofs.Holds.{text_long, after_add}

-- of a repeated field the last value counts
kept-place : (i : ℕ) (w : Wanted) (t : Token) (places : List ℕ) → touches i w t ≡ false → get_or (filed w t places) i 0 ≡ get_or places i 0
kept-place i Statement t places e = refl
kept-place i (Equals start end) t places e = ap (λ (x : Bool). get_or (cond x no_places places) i 0) e
kept-place i (Value field) t places e = refl
kept-place i (Semicolon None place) t places e = by (eqb (form_of t) semicolon)
  where
    by : (x : Bool) → get_or (cond x places places) i 0 ≡ get_or places i 0
    by true = refl
    by false = refl
kept-place i (Semicolon (Some k) place) t places e = by (eqb (form_of t) semicolon) e
  where
    by : (x : Bool) → (x && eqb k i) ≡ false → get_or (cond x (set places k place) places) i 0 ≡ get_or places i 0
    by true f = get_or-set_other places k i place 0 (λ h. eqb-false k i f (sym h))
    by false f = refl
kept-place i NoMore t places e = refl

after_kept : (text : List ℕ) (asked : Asked) (i n : ℕ) (s : Stand) → ((k : ℕ) → k < n → touched_next text i (after text asked k s) ≡ false)
    → get_or (after text asked n s).places i 0 ≡ get_or s.places i 0
unfolding after
after_kept text asked i zero s h = refl
after_kept text asked i (suc n) s h =
    after_kept text asked i n (token_more text asked s) (λ k l. h (suc k) (omega (arith, l)))
    ∙ kept-place i s.parse.wanted (token_at text s.parse.at) s.places (h 0 (omega arith))

-- what a token does to the notes: it ends a block, or an assignment, or leaves them
module _ (text : List ℕ) (asked : Asked) (places : List ℕ) (p : Parse) (t : Token) (P : Notes → Type 0) where
  abbrev pub Noted : Parse → Type 0
  Noted q = P q.notes

  judged-notes : (field : Option ℕ) (c : Check) → P p.notes → Noted (judged p t field c)
  judged-notes field (Ok _) h = h
  judged-notes field (Err r) h = h

  pub step-notes : (w : Wanted) → P p.notes → P (notes_after asked p t.next)
      → ((field : Option ℕ) (place : ℕ) → w ≡ Semicolon field place → eqb (form_of t) semicolon ≡ true → P (notes_assigned p field place))
      → Noted (step_by text asked places p t w)
  step-notes Statement h closed assigned =
      cond_on Noted (is_identifier text t) (λ _. h)
      (λ _. cond_on Noted (not (is_top p.scope) && eqb (form_of t) close_brace)
      (λ _. cond_on Noted (all_given p.scope places) (λ _. closed) (λ _. h))
      (λ _. cond_on Noted (is_top p.scope && eqb (form_of t) end_form) (λ _. h) (λ _. h)))
  step-notes (Equals start end) h closed assigned =
      cond_on Noted (eqb (form_of t) equals_sign) (λ _. h)
      (λ _. cond_on Noted (is_top p.scope && eqb (form_of t) open_brace)
      (λ _. cond_on Noted (is_full p.notes.counts (kind_named (bytes_of text start end))) (λ _. h) (λ _. h)) (λ _. h))
  step-notes (Value field) h closed assigned =
      judged-notes field (value_check (held_by p.scope field) (token_read text t) t.start) h
  step-notes (Semicolon field place) h closed assigned =
      cond_on Noted (eqb (form_of t) semicolon) (assigned field place refl) (λ _. h)
  step-notes NoMore h closed assigned = h

module _ (text : List ℕ) (asked : Asked) where
  -- what was found stays found
  found_still : (s : Stand) → s.parse.notes.found ≡ true → (token_more text asked s).parse.notes.found ≡ true
  found_still s h =
      let t = token_at text s.parse.at in
      step-notes text asked s.places s.parse t (λ (n : Notes). n.found ≡ true) s.parse.wanted h
      (cond_on (λ (n : Notes). n.found ≡ true) (is_found asked s.parse) (λ _. refl) (λ _. h)) (λ _ _ _ _. h)

  -- and with it the places of its fields
  kept_on : (m : ℕ) (s : Stand) → s.parse.notes.found ≡ true → (after text asked m s).kept ≡ s.kept
  unfolding after
  kept_on zero s h = refl
  kept_on (suc m) s h =
      kept_on m (token_more text asked s) (found_still s h)
      ∙ ap (λ (x : Bool). cond (not x && (token_more text asked s).parse.notes.found) s.places s.kept) h

  asked-kept : (s : Stand) → EndsAsked text asked s → (m : ℕ) → (after text asked m (token_more text asked s)).kept ≡ s.places
  asked-kept s h m =
      kept_on m (token_more text asked s) h.behind
      ∙ (λ i. cond (not (h.before i) && h.behind i) s.places s.kept)

  -- behind any number of tokens the rest of them leads to the text's end
  end-behind : (from m : ℕ) → text_from text asked from ≡ after text asked (suc (length text)) (after text asked m (begins_at from))
  end-behind from m =
      text_long text asked from (m + suc (length text)) m refl ∙ after_add text asked m (suc (length text)) (begins_at from)

pub last-value-counts : LastValueCounts
last-value-counts text asked s i place n long w f h =
    let here =
    after_kept text asked i n (token_more text asked s) h
    ∙ ap (λ (v : Wanted). get_or (filed v (token_at text s.parse.at) s.places) i 0) w
    ∙ ap (λ (x : Bool). get_or (cond x (stored s.places (Some i) place) s.places) i 0) (eq-eqb _ _ f)
    ∙ get_or-set_same s.places i place 0 long in
    record {
      here = here;
      kept = λ e m. ap (λ (l : List ℕ). get_or l i 0) (asked-kept text asked (after text asked n (token_more text asked s)) e m) ∙ here;
    }

pub last-value-is_read : LastValueIsRead
unfolding after
last-value-is_read text asked from m i place n h e =
    ap (λ (s : Stand). get_or s.kept i 0)
    (end-behind text asked from (m + suc n) ∙ ap (after text asked (suc (length text))) (after_add text asked m (suc n) (begins_at from)))
    ∙ h.kept e (length text)

-- the namespace stays where none is assigned
module _ (text : List ℕ) (asked : Asked) where
  namespace_still : (s : Stand) → names_next text s ≡ false → (token_more text asked s).parse.notes.namespace ≡ s.parse.notes.namespace
  namespace_still s h =
      let t = token_at text s.parse.at in
      let p = s.parse in
      step-notes text asked s.places p t (λ (n : Notes). n.namespace ≡ p.notes.namespace) p.wanted refl
      (cond_on (λ (n : Notes). n.namespace ≡ p.notes.namespace) (is_found asked p) (λ _. refl) (λ _. refl))
      (λ field place w f. ap (λ (x : Bool). cond x place p.notes.namespace) (other field place w f))
    where
      other : (field : Option ℕ) (place : ℕ) → s.parse.wanted ≡ Semicolon field place → eqb (form_of (token_at text s.parse.at)) semicolon ≡ true
          → (is_top s.parse.scope && is_some field) ≡ false
      other field place w f =
          (λ i. is_top s.parse.scope && (sym f i && is_some field))
          ∙ ap (λ (v : Wanted). is_top s.parse.scope && assigns v (token_at text s.parse.at)) (sym w) ∙ h

  namespace_on : (n : ℕ) (s : Stand) → ((k : ℕ) → names_next text (after text asked k s) ≡ false)
      → (after text asked n s).parse.notes.namespace ≡ s.parse.notes.namespace
  unfolding after
  namespace_on zero s h = refl
  namespace_on (suc n) s h = namespace_on n (token_more text asked s) (λ k. h (suc k)) ∙ namespace_still s (h 0)

  -- an assignment at the top
  namespace_there : (s : Stand) (place : ℕ) → s.parse.wanted ≡ Semicolon (Some 0) place → is_top s.parse.scope ≡ true
      → (form_of (token_at text s.parse.at)) ≡ semicolon → (token_more text asked s).parse.notes.namespace ≡ place
  namespace_there s place w top f =
      let p = s.parse in
      let t = token_at text p.at in
      ap (λ (v : Wanted). (step_by text asked s.places p t v).notes.namespace) w
      ∙ ap (λ (x : Bool). (cond x (parse Statement p.scope p.block t.next (Ok tt) (notes_assigned p (Some 0) place)) (misfit p t)).notes.namespace)
      (eq-eqb _ _ f)
      ∙ ap (λ (x : Bool). cond (x && true) place p.notes.namespace) top

pub last-namespace-counts : LastNamespaceCounts
unfolding after
last-namespace-counts text asked from m place w top f h =
    let s = after text asked m (begins_at from) in
    ap (λ (x : Stand). x.parse.notes.namespace) (end-behind text asked from m)
    ∙ namespace_on text asked (length text) (token_more text asked s) h ∙ namespace_there text asked s place w top f
