-- Laws of a text read on by several tokens: what is left of the run answers the same, and less of it is left. Assumes nothing.
use Prim.Native.Nat.{ℕ, ◌<◌}
use mathlib.Core.Bool.{Bool, true, false, not, ◌&&◌, cond, true≢false}
use mathlib.Core.List.{List}
use mathlib.Core.Path.{◌≡◌, refl, sym, ap, ◌∙◌}
use native.Mathlib.Omega.{arith}
use lib.Dec.{eqb}
use lib.ListN.{length}
use Rattle.std.specs.Prelude.{Option}
use Rattle.text_byte.proofs.Spans.{cond_on}
use Rattle.text_token.specs.declared.Token.{Token}
use Rattle.text_token.specs.Tokens.{form_of, token_at}
use Rattle.text_block.specs.declared.Asked.{Asked}
use Rattle.text_block.specs.declared.Wanted.{Wanted}
use Rattle.text_block.specs.declared.Wanted.TheVariants.{NoMore}
use Rattle.text_block.specs.Blocks.{is_full, stops_there, stops_inside, all_given, filed}
use Rattle.text_table.specs.Names.{kind_named}
use Rattle.text_step.specs.declared.Parse.{Parse}
use Rattle.text_step.specs.Steps.{is_top, is_found, on_end, on_brace, on_semicolon, step_by}
use Rattle.text_reader.specs.Texts.{Stand, stand, is_more, goes, kept_after, token_more, text_from}
use Rattle.text_reader.specs.Inner.{Leads, last, then, ReadsOn, Rests}
use Rattle.text_reader.proofs.Onward.{Next, step_next}
use Rattle.text_reader.proofs.Runs.{Rest, rest_more, left, left_less}

abbrev pub place : Stand → ℕ
place x = x.parse.at

-- the run from here on answers what the whole one does
abbrev pub RestOf : List ℕ → Asked → ℕ → Stand → Type 0
RestOf text asked from x = Rest goes (token_more text asked) place (length text) x (text_from text asked from)

-- the kind of the open block has room
abbrev pub Room : Stand → Type 0
Room x = is_full x.parse.notes.counts x.parse.scope ≡ false

none-new : (x : Bool) → (not x && x) ≡ false
none-new true = refl
none-new false = refl

-- what was found before stays as it is kept
pub still_kept : (s r : Parse) (places kept : List ℕ) → r.notes.found ≡ s.notes.found → kept ≡ kept_after s r places kept
still_kept s r places kept e =
    sym (ap (λ (x : Bool). cond x places kept) (ap (λ (x : Bool). not s.notes.found && x) e ∙ none-new s.notes.found))

module _ (text : List ℕ) (asked : Asked) where
  next : (s : Stand) → Next text asked s.places s.parse (token_more text asked s).parse
  next s = step_next text asked s.places s.parse s.parse.wanted refl

  pub leads-rest : {s r answer : Stand} → Leads text asked s r → Rest goes (token_more text asked) place (length text) s answer
      → Rest goes (token_more text asked) place (length text) r answer
  leads-rest (last s r g e) h = rest_more goes (token_more text asked) place (length text) h g e (next s).onward
  leads-rest (then s m r g e l) h = leads-rest l (rest_more goes (token_more text asked) place (length text) h g e (next s).onward)

  pub leads_less : {s r : Stand} → Leads text asked s r
      → left goes (token_more text asked) place (length text) r < left goes (token_more text asked) place (length text) s
  leads_less (last s r g e) = left_less goes (token_more text asked) place (length text) {s = s} g e (next s).onward
  leads_less (then s m r g e l) =
      let less = left_less goes (token_more text asked) place (length text) {s = s} g e (next s).onward in
      let rest = leads_less l in
      omega (arith, less, rest)

  pub leads-room : {s r : Stand} → Leads text asked s r → Room s → Room r
  leads-room (last s r g e) h = ap (λ (x : Stand). is_full x.parse.notes.counts x.parse.scope) e ∙ (next s).room h
  leads-room (then s m r g e l) h =
      leads-room l (ap (λ (x : Stand). is_full x.parse.notes.counts x.parse.scope) e ∙ (next s).room h)

  -- a token where `w` is wanted
  pub stepped : (s : Parse) (places kept : List ℕ) {w : Wanted} {t : Token} {r : Parse} {ps ks : List ℕ} → s.wanted ≡ w → t ≡ token_at text s.at
      → r ≡ step_by text asked places s t w → ps ≡ filed w t places → ks ≡ kept_after s r places kept
      → stand r ps ks ≡ token_more text asked (stand s places kept)
  stepped s places kept w t r ps ks =
      let after = r ∙ (λ i. step_by text asked places s (t i) (sym w i)) in
      let places' = ps ∙ (λ i. filed (sym w i) (t i) places) in
      let kept' = ks ∙ (λ i. kept_after s (after i) places kept) in
      λ i. stand (after i) (places' i) (kept' i)

  -- a token with which no block ends, the last one or with more behind it
  pub on_last : (s r : Parse) (places places' : List ℕ) {w : Wanted} {t : Token} → s.wanted ≡ w → is_more w ≡ true → t ≡ token_at text s.at
      → r ≡ step_by text asked places s t w → places' ≡ filed w t places → r.notes.found ≡ s.notes.found → ReadsOn text asked s places r places'
  on_last s r places places' w g t e ps f kept = last _ _ (ap is_more w ∙ g) (stepped s places kept w t e ps (still_kept s r places kept f))

  pub on_then : (s m r : Parse) (places places' places'' : List ℕ) {w : Wanted} {t : Token} → s.wanted ≡ w → is_more w ≡ true → t ≡ token_at text s.at
      → m ≡ step_by text asked places s t w → places' ≡ filed w t places → m.notes.found ≡ s.notes.found → ReadsOn text asked m places' r places''
      → ReadsOn text asked s places r places''
  on_then s m r places places' places'' w g t e ps f on kept =
      then _ _ _ (ap is_more w ∙ g) (stepped s places kept w t e ps (still_kept s m places kept f)) (on kept)

-- what a token leads to: a statement is wanted, or nothing more
none : Rests NoMore
none e = absurd (true≢false (sym e))

abbrev RestsAt : Parse → Type 0
RestsAt r = Rests r.wanted

pub end_rests : (asked : Asked) (places : List ℕ) (s : Parse) (t : Token) → RestsAt (on_end asked places s t)
end_rests asked places s t =
    cond_on RestsAt (not (is_top s.scope) && eqb (form_of t) 125)
    (λ _. cond_on RestsAt (all_given s.scope places) (λ _. cond_on Rests (stops_there asked && is_found asked s) (λ _. none) (λ _ _. refl)) (λ _. none))
    (λ _. cond_on RestsAt (is_top s.scope && eqb (form_of t) 0) (λ _. none) (λ _. none))

-- and no block ends
pub record Inside (s r : Parse) : Type 0 where
  pub rests : Rests r.wanted
  pub found : r.notes.found ≡ s.notes.found

pub brace_inside : (asked : Asked) (s : Parse) (t : Token) (start : ℕ) (name : List ℕ) → Inside s (on_brace asked s t start name)
brace_inside asked s t start name =
    let kind = kind_named name in
    cond_on (Inside s) (is_top s.scope && eqb (form_of t) 123)
    (λ _. cond_on (Inside s) (is_full s.notes.counts kind) (λ _. record { rests = none; found = refl })
    (λ _. record { rests = cond_on Rests (stops_inside asked kind) (λ _. none) (λ _ _. refl); found = refl }))
    (λ _. record { rests = none; found = refl })

pub semicolon-inside : (s : Parse) (t : Token) (field : Option ℕ) (place : ℕ) → Inside s (on_semicolon s t field place)
semicolon-inside s t field place =
    cond_on (Inside s) (eqb (form_of t) 59) (λ _. record { rests = λ _. refl; found = refl }) (λ _. record { rests = none; found = refl })
