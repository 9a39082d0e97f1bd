-- A block of an unknown name changes nothing but places: its tokens lead back to the top, with the same notes. Assumes nothing.
use Prim.Native.Nat.{ℕ, suc, ◌+◌}
use mathlib.Core.Bool.{Bool, true, false, not, ◌&&◌, cond, and-false, true≢false}
use mathlib.Core.List.{List}
use mathlib.Core.Path.{◌≡◌, refl, sym, ap, ◌∙◌, subst}
use native.Mathlib.Omega.{arith}
use borrow.Author.Tests.{eqb-true, ne_eqb}
use lib.Dec.{eqb}
use Rattle.refusal.specs.Checks.{Check}
use Rattle.std.specs.Prelude.{Ok}
use Rattle.text_token.specs.declared.Token.{Token}
use Rattle.text_byte.specs.Bytes.{equals_sign, open_brace, close_brace}
use Rattle.text_gap.specs.Gaps.{gap_from}
use Rattle.text_byte.specs.Spans.{span_end}
use Rattle.text_value.specs.Numbers.{digits_from}
use Rattle.text_token.specs.Tokens.{form_of, word_form, token_at, word_of}
use Rattle.text_table.specs.declared.scope.Scope.TheVariants.{Top, Unknown}
use Rattle.text_table.specs.Scopes.{scope_number}
use Rattle.text_table.proofs.Scopes.{number-tells}
use Rattle.text_table.specs.Table.{kind_names}
use Rattle.text_table.specs.Names.{every, field_named, kind_named}
use Rattle.text_block.specs.declared.Asked.{Asked}
use Rattle.text_block.specs.declared.Asked.TheVariants.{Nothing, Numbered, First, Opening}
use Rattle.text_block.specs.declared.Wanted.{Wanted}
use Rattle.text_block.specs.declared.Wanted.TheVariants.{Statement, Equals, Value, NoMore}
use Rattle.text_block.specs.Blocks.{no_places, is_asked, stops_there, stops_inside}
use Rattle.text_name.specs.Identifiers.{identifier_ok, is_identifier}
use Rattle.text_step.specs.declared.Notes.{Notes}
use Rattle.text_step.specs.declared.Parse.{Parse}
use Rattle.text_step.specs.Steps.{notes, parse, goes_on, misfit, is_top, on_end, opened_block, on_brace, step_by}
use Rattle.text_reader.specs.Texts.{Stand, stand, token_more}
use Rattle.theorem_text.specs.Answers.{SameCheck, both_pass}
use Rattle.theorem_text.specs.Promises.{after, begins_at, next_token, AllUnknown, none, more, UnknownBlock, BlockBehind, PutBetween, UnknownBlocksDoNotMatter}
use Rattle.theorem_text.proofs.Related.{SameWanted, want_statement}
use Rattle.theorem_text.proofs.Holds.{Alike, after_alike, begins_alike, kept_still, by_wanted, after_add}
use Rattle.theorem_text.proofs.Unknown.{taken, statement_too, plain_step, four-tokens, put_in}

-- nobody stops inside it
goes_in : (asked : Asked) → stops_inside asked Unknown ≡ false
goes_in Nothing = refl
goes_in (Numbered kind number) = refl
goes_in (First kind) = refl
goes_in Opening = refl

-- how many tokens the assignments have
count : {text : List ℕ} {at next : ℕ} → AllUnknown text at next → ℕ
count (none at) = 0
count (more at mid next u rest) = 4 + count rest

module _ (text : List ℕ) (asked : Asked) (block : ℕ) (notes₀ : Notes) (kept : List ℕ) where
  -- in the block, before the statements from a place on
  abbrev inside : ℕ → Stand
  inside at = stand (parse Statement Unknown block at (Ok tt) notes₀) no_places kept

  all_passed : {at next : ℕ} (d : AllUnknown text at next) → after text asked (count d) (inside at) ≡ inside next
  unfolding after count
  all_passed (none at) = refl
  all_passed (more at mid next u rest) =
      after_add text asked 4 (count rest) (inside at)
      ∙ ap (after text asked (count rest)) (four-tokens text asked (inside at) mid refl u ∙ ap inside u.behind) ∙ all_passed rest

  -- the closing brace
  module _ (at : ℕ) (closes : eqb (form_of (token_at text at)) close_brace ≡ true) (other : is_asked asked Unknown 0 ≡ false) where
    abbrev t : Token
    t = token_at text at

    abbrev p : Parse
    p = (inside at).parse

    no_name : is_identifier text t ≡ false
    no_name =
        let e = eqb-true (form_of t) close_brace closes in
        ap (λ (x : Bool). x && identifier_ok (word_of text t)) (ne_eqb (form_of t) word_form (λ q. omega (arith, q, e)))

    after_brace : Bool → Parse
    after_brace x =
        parse (cond (stops_there asked && x) NoMore Statement) Top 0 t.next (Ok tt)
        (cond x (notes notes₀.namespace notes₀.counts true Unknown block t.next) notes₀)

    closed : step_by text asked no_places p t Statement ≡ parse Statement Top 0 t.next (Ok tt) notes₀
    unfolding every after_brace
    closed =
        ap (λ (x : Bool). cond x (goes_on p t (Equals t.start t.end)) (on_end asked no_places p t)) no_name
        ∙ ap (λ (x : Bool). cond x (after_brace (is_asked asked Unknown 0)) (misfit p t)) closes
        ∙ ap after_brace other
        ∙ ap (λ (x : Bool). parse (cond x NoMore Statement) Top 0 t.next (Ok tt) notes₀) (and-false (stops_there asked))

    brace_passed : token_more text asked (inside at) ≡ stand (parse Statement Top 0 t.next (Ok tt) notes₀) no_places kept
    brace_passed = plain_step text asked (inside at) Statement (parse Statement Top 0 t.next (Ok tt) notes₀) refl closed refl refl

module _ (text : List ℕ) (asked : Asked) (s : Stand) (next : ℕ) (e : s.parse.wanted ≡ Statement) (top : is_top s.parse.scope ≡ true)
    (other : is_asked asked Unknown 0 ≡ false) (u : UnknownBlock text s.parse.at next) where
  abbrev p₀ : Parse
  p₀ = s.parse

  abbrev t₁ : Token
  t₁ = token_at text p₀.at

  abbrev t₂ : Token
  t₂ = next_token text t₁

  abbrev s₁ : Stand
  s₁ = stand (goes_on p₀ t₁ (Equals t₁.start t₁.end)) s.places s.kept

  abbrev s₂ : Stand
  s₂ = inside text asked t₁.start p₀.notes s.kept t₂.next

  abbrev s₃ : Stand
  s₃ = stand (parse Statement Top 0 next (Ok tt) p₀.notes) no_places s.kept

  named : token_more text asked s ≡ s₁
  named =
      plain_step text asked s Statement s₁.parse e (taken (is_identifier text t₁) (on_end asked s.places p₀ t₁) u.name) refl refl

  no_equals : eqb (form_of t₂) equals_sign ≡ false
  no_equals = let k = eqb-true (form_of t₂) open_brace u.opens in ne_eqb (form_of t₂) equals_sign (λ q. omega (arith, q, k))

  -- the opening brace, of a block of any kind that has room and is gone into
  opened : step_by text asked s.places s₁.parse t₂ (Equals t₁.start t₁.end) ≡ s₂.parse
  opened =
      let name = word_of text t₁ in
      let field = Value (field_named p₀.scope name) in
      ap (λ (x : Bool). cond x (goes_on s₁.parse t₂ field) (on_brace asked s₁.parse t₂ t₁.start name)) no_equals
      ∙ (λ i. cond (top i && u.opens i) (opened_block asked s₁.parse t₂ t₁.start (kind_named name)) (misfit s₁.parse t₂))
      ∙ ap (opened_block asked s₁.parse t₂ t₁.start) u.unknown
      ∙ ap (λ (x : Bool). parse (cond x NoMore Statement) Unknown t₁.start t₂.next (Ok tt) p₀.notes) (goes_in asked)

  entered : token_more text asked s₁ ≡ s₂
  entered =
      by_wanted text asked s₁ refl
      ∙ (λ i. stand (opened i) (cond (u.opens i) no_places s.places)
      (cond (not p₀.notes.found && (opened i).notes.found) s.places s.kept))
      ∙ ap (stand s₂.parse no_places) (kept_still p₀.notes.found s.places s.kept)

  -- the name and the brace, the assignments, and the brace
  pub size : ℕ
  size = suc (suc (count u.assigned + 1))

  pub block_passed : after text asked size s ≡ s₃
  unfolding after size
  block_passed =
      ap (after text asked (count u.assigned + 1)) (ap (token_more text asked) named ∙ entered)
      ∙ after_add text asked (count u.assigned) 1 s₂
      ∙ ap (token_more text asked) (all_passed text asked t₁.start p₀.notes s.kept u.assigned)
      ∙ brace_passed text asked t₁.start p₀.notes s.kept u.close u.closes other
      ∙ ap (λ (at : ℕ). stand (parse Statement Top 0 at (Ok tt) p₀.notes) no_places s.kept) u.behind

module _ (a b : List ℕ) (asked : Asked) (at from m next : ℕ) (h : PutBetween a b asked at from m next)
    (top : is_top (after a asked m (begins_at at)).parse.scope ≡ true) (other : is_asked asked Unknown 0 ≡ false)
    (u : UnknownBlock b (after b asked m (begins_at from)).parse.at next) where
  abbrev stand-a : Stand
  stand-a = after a asked m (begins_at at)

  abbrev stand-b : Stand
  stand-b = after b asked m (begins_at from)

  so_far : Alike a b 0 stand-a stand-b
  so_far = after_alike a b asked m (begins_alike a b m at from h.before)

  wanted_too : stand-b.parse.wanted ≡ Statement
  wanted_too = statement_too so_far.parse.wanted h.between

  top_too : is_top stand-b.parse.scope ≡ true
  top_too = sym (ap is_top so_far.parse.base.scope) ∙ top

  at_top : stand-a.parse.scope ≡ Top
  at_top = number-tells stand-a.parse.scope Top (eqb-true (scope_number stand-a.parse.scope) 0 top)

  -- behind the block both stand alike, with the same tokens to come
  behind_block : (n : ℕ) → Alike a b n stand-a (after b asked (size b asked stand-b next wanted_too top_too other u) stand-b)
  behind_block n =
      subst (Alike a b n stand-a) (sym (block_passed b asked stand-b next wanted_too top_too other u))
      (record {
        parse = record {
          base = record { scope = at_top; notes = so_far.parse.base.notes; tokens = h.behind n };
          wanted = subst (λ (w : Wanted). SameWanted a b stand-a.parse.at next w Statement) (sym h.between) want_statement;
          check = subst (λ (c : Check). SameCheck c (Ok tt)) (sym h.good) both_pass;
        };
        places = λ e. absurd (true≢false (sym top ∙ e));
        kept = so_far.kept;
      })

pub unknown-blocks : UnknownBlocksDoNotMatter
unknown-blocks a b asked at from m next h top other u =
    put_in a b asked at from m _ (behind_block a b asked at from m next h top other u)

pub block_behind : BlockBehind
unfolding gap_from span_end kind_names every digits_from
block_behind = record {
  name = refl;
  unknown = refl;
  opens = refl;
  close = 20;
  assigned = more 13 20 20 (record { name = refl; unknown = refl; equals = refl; value = refl; ends = refl; behind = refl }) (none 20);
  closes = refl;
  behind = refl;
}
