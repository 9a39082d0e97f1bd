-- What changes nothing but places, and which of several values counts (02, W-206). Assumes nothing.
use Rattle.std.specs.Prelude.{ℕ, zero, suc, ◌-◌, ◌≤◌, ◌<◌, Bool, true, false, not, ◌&&◌, Option, Some, None, is_some, List, [], ◌++◌, ◌≡◌, eqb, get_or, length, Ok}
use Rattle.text_token.specs.declared.Token.{Token}
use Rattle.text_byte.specs.Bytes.{slash, equals_sign, semicolon, open_brace, close_brace}
use Rattle.text_token.specs.Tokens.{form_of, word_form, token_at, word_of}
use Rattle.text_value.specs.Values.{token_read}
use Rattle.text_table.specs.declared.scope.Scope.{Scope}
use Rattle.text_table.specs.declared.scope.Scope.TheVariants.{Unknown}
use Rattle.text_table.specs.Table.{bytes}
use Rattle.text_table.specs.Names.{field_named, kind_named}
use Rattle.text_block.specs.declared.Asked.{Asked}
use Rattle.text_block.specs.declared.Wanted.{Wanted}
use Rattle.text_block.specs.declared.Wanted.TheVariants.{Statement, Equals, Value, Semicolon, NoMore}
use Rattle.text_block.specs.Blocks.{no_places, is_asked}
use Rattle.text_name.specs.Identifiers.{is_identifier}
use Rattle.text_step.specs.Steps.{is_top, value_check}
use Rattle.text_reader.specs.Texts.{Stand, stand, token_more, start_at, text_from}
use Rattle.theorem_text.specs.Tokens.{token_place, SameFirst, SameTokens}
use Rattle.theorem_text.specs.Answers.{SameStand}
use Rattle.theorem_text.specs.Gaps.{IsGap}

-- two texts with the same tokens have the same answers but for places, whatever is asked for and from whatever places
-- on: neither gaps between tokens nor the case of letters in identifiers and keywords change anything else
abbrev pub TokensDecide : Type 0
TokensDecide = (a b : List ℕ) (asked : Asked) (at from : ℕ) → SameTokens a at b from
    → SameStand a b (text_from a asked at) (text_from b asked from)

-- a token's last byte and a gap's first do not open a comment together: they are not both slashes
abbrev pub joins_clean : List ℕ → List ℕ → Bool
joins_clean front gap = not (eqb (get_or front (length front - 1) 0) slash && eqb (get_or gap 0 0) slash)

-- a text with a gap somewhere
abbrev pub gapped : List ℕ → List ℕ → List ℕ → List ℕ
gapped front gap rest = front ++ (gap ++ rest)

-- `front` ends with the first `n` tokens from `at` on; behind it `new` may replace `old`. After a token `new` may not
-- be empty if `old` is not, because the tokens at its sides could become one
pub record GapChanged (front old new rest : List ℕ) (at n : ℕ) : Type 0 where
  pub old_gap : IsGap old
  pub new_gap : IsGap new
  pub some : 0 < n → 0 < length old → 0 < length new
  pub clean : 0 < n → joins_clean front new ≡ true
  pub tokens : (k : ℕ) → k < n → word_form ≤ form_of (token_at (gapped front old rest) (token_place (gapped front old rest) at k))
  pub boundary : token_place (gapped front old rest) at n ≡ length front

-- one gap in place of another changes no answer but places, whatever is asked for and from whatever place on; `old`
-- may be empty
abbrev pub GapsDoNotMatter : Type 0
GapsDoNotMatter = (front old new rest : List ℕ) (asked : Asked) (at n : ℕ) → GapChanged front old new rest at n
    → let a = gapped front old rest in let b = gapped front new rest in SameStand a b (text_from a asked at) (text_from b asked at)

-- for example, a comment behind the first token of ` x = 1;`
abbrev pub CommentPutIn : Type 0
CommentPutIn = GapChanged (bytes " x") [] (bytes "/* a */\n") (bytes " = 1;") 0 1

-- `n` tokens more
unfoldable pub after : List ℕ → Asked → ℕ → Stand → Stand
after text asked zero s = s
after text asked (suc n) s = after text asked n (token_more text asked s)

-- before the statements from a place on
abbrev pub begins_at : ℕ → Stand
begins_at at = stand (start_at at) no_places no_places

-- the token behind a token
abbrev pub next_token : List ℕ → Token → Token
next_token text t = token_at text t.next

-- a name of the scope is field `i`
abbrev pub is_field : ℕ → Option ℕ → Bool
is_field i None = false
is_field i (Some k) = eqb k i

-- a token ends an assignment to field `i`, or opens a block
abbrev pub touches : ℕ → Wanted → Token → Bool
touches i Statement t = false
touches i (Equals start end) t = eqb (form_of t) open_brace
touches i (Value field) t = false
touches i (Semicolon field place) t = eqb (form_of t) semicolon && is_field i field
touches i NoMore t = false

-- the next token does
abbrev pub touched_next : List ℕ → ℕ → Stand → Bool
touched_next text i s = touches i s.parse.wanted (token_at text s.parse.at)

-- the next token ends the block that is asked for
pub record EndsAsked (text : List ℕ) (asked : Asked) (s : Stand) : Type 0 where
  pub before : s.parse.notes.found ≡ false
  pub behind : (token_more text asked s).parse.notes.found ≡ true

-- `place` is the place of field `i` in the open block; and if the next token ends the asked block, the field is read
-- from it, over any number of tokens more
pub record ValueCounts (text : List ℕ) (asked : Asked) (i place : ℕ) (s : Stand) : Type 0 where
  pub here : get_or s.places i 0 ≡ place
  pub kept : EndsAsked text asked s → (m : ℕ) → get_or (after text asked m (token_more text asked s)).kept i 0 ≡ place

-- the last value of a repeated field counts: after an assignment to field `i` the field keeps that value's place,
-- over any number of tokens none of which ends another assignment to it or opens a block
abbrev pub LastValueCounts : Type 0
LastValueCounts = (text : List ℕ) (asked : Asked) (s : Stand) (i place n : ℕ) → i < length s.places
    → s.parse.wanted ≡ Semicolon (Some i) place → form_of (token_at text s.parse.at) ≡ semicolon
    → ((k : ℕ) → k < n → touched_next text i (after text asked k (token_more text asked s)) ≡ false)
    → ValueCounts text asked i place (after text asked n (token_more text asked s))

-- the block's record is read from it (`block_fields` of `text_map`): if the assignment ends behind the first `m`
-- tokens, and the asked block `n` tokens later, then it is the field's place once the text is read to its end
abbrev pub LastValueIsRead : Type 0
LastValueIsRead = (text : List ℕ) (asked : Asked) (from m i place n : ℕ)
    → let s = after text asked n (token_more text asked (after text asked m (begins_at from))) in
    ValueCounts text asked i place s → EndsAsked text asked s → get_or (text_from text asked from).kept i 0 ≡ place

-- a token ends an assignment to a known name
abbrev pub assigns : Wanted → Token → Bool
assigns Statement t = false
assigns (Equals start end) t = false
assigns (Value field) t = false
assigns (Semicolon field place) t = eqb (form_of t) semicolon && is_some field
assigns NoMore t = false

-- the next token does at the top, which knows the namespace alone
abbrev pub names_next : List ℕ → Stand → Bool
names_next text s = is_top s.parse.scope && assigns s.parse.wanted (token_at text s.parse.at)

-- the last namespace counts: if the token behind the first `m` ends an assignment to it, and no later token does,
-- then the answer is read from that value's place (`namespace_of` of `text_map`)
abbrev pub LastNamespaceCounts : Type 0
LastNamespaceCounts = (text : List ℕ) (asked : Asked) (from m place : ℕ) → let s = after text asked m (begins_at from) in
    s.parse.wanted ≡ Semicolon (Some 0) place → is_top s.parse.scope ≡ true → form_of (token_at text s.parse.at) ≡ semicolon
    → ((k : ℕ) → names_next text (after text asked k (token_more text asked s)) ≡ false)
    → (text_from text asked from).parse.notes.namespace ≡ place

-- four tokens from `at` on assign some value within its limits to a name that the scope does not know; they end
-- before `next`
pub record UnknownAssigned (text : List ℕ) (scope : Scope) (at next : ℕ) : Type 0 where
  pub name : is_identifier text (token_at text at) ≡ true
  pub unknown : field_named scope (word_of text (token_at text at)) ≡ None
  pub equals : eqb (form_of (next_token text (token_at text at))) equals_sign ≡ true
  pub value : let t = next_token text (next_token text (token_at text at)) in value_check None (token_read text t) t.start ≡ Ok tt
  pub ends : eqb (form_of (next_token text (next_token text (next_token text (token_at text at))))) semicolon ≡ true
  pub behind : (next_token text (next_token text (next_token text (token_at text at)))).next ≡ next

-- text `b` is text `a` with something put between two statements, behind the first `m` tokens; it ends before `next`
pub record PutBetween (a b : List ℕ) (asked : Asked) (at from m next : ℕ) : Type 0 where
  pub before : SameFirst m a at b from
  pub between : (after a asked m (begins_at at)).parse.wanted ≡ Statement
  pub good : (after a asked m (begins_at at)).parse.check ≡ Ok tt
  pub behind : SameTokens a (after a asked m (begins_at at)).parse.at b next

-- such an assignment changes no answer but places
abbrev pub UnknownNamesDoNotMatter : Type 0
UnknownNamesDoNotMatter = (a b : List ℕ) (asked : Asked) (at from m next : ℕ) → PutBetween a b asked at from m next
    → UnknownAssigned b (after a asked m (begins_at at)).parse.scope (after b asked m (begins_at from)).parse.at next
    → SameStand a b (text_from a asked at) (text_from b asked from)

-- assignments one behind the other from `at` on, in a block that knows no name; they end before `next`
pub data AllUnknown (text : List ℕ) : ℕ → ℕ → Type 0 where
  none : (at : ℕ) → AllUnknown text at at
  more : (at mid next : ℕ) → UnknownAssigned text Unknown at mid → AllUnknown text mid next → AllUnknown text at next

-- from `at` on stands a block of an unknown name, with any number of assignments between its braces; it ends before `next`
pub record UnknownBlock (text : List ℕ) (at next : ℕ) : Type 0 where
  pub name : is_identifier text (token_at text at) ≡ true
  pub unknown : kind_named (word_of text (token_at text at)) ≡ Unknown
  pub opens : eqb (form_of (next_token text (token_at text at))) open_brace ≡ true
  pub close : ℕ
  pub assigned : AllUnknown text (next_token text (token_at text at)).next close
  pub closes : eqb (form_of (token_at text close)) close_brace ≡ true
  pub behind : (token_at text close).next ≡ next

-- for example, behind `x = 1;`
abbrev pub BlockBehind : Type 0
BlockBehind = UnknownBlock (bytes "x = 1; junk { a = 2; }") 6 22

-- such a block at the top changes no answer but places, unless a block of an unknown name is asked for; no exported
-- function does that
abbrev pub UnknownBlocksDoNotMatter : Type 0
UnknownBlocksDoNotMatter = (a b : List ℕ) (asked : Asked) (at from m next : ℕ) → PutBetween a b asked at from m next
    → is_top (after a asked m (begins_at at)).parse.scope ≡ true → is_asked asked Unknown 0 ≡ false
    → UnknownBlock b (after b asked m (begins_at from)).parse.at next
    → SameStand a b (text_from a asked at) (text_from b asked from)
