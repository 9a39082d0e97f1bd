-- One token of a text map (02, W-206; document 002, "Grammar / Syntax"): what it does where a statement, `=`, a value
-- or `;` is wanted. Each token that does not fit is 90 at its first byte, so that the first place wins by itself.
-- Assumes nothing.
use Rattle.std.specs.Prelude.{ℕ, Bool, true, not, ◌&&◌, ◌||◌, cond, Option, Some, None, is_some, Ok, Err, List, eqb}
use Rattle.refusal.specs.declared.Refusal.{Refusal}
use Rattle.refusal.specs.declared.Refusal.TheVariants.{TextGrammar, TextNumber, TextField, TextBlocks}
use Rattle.refusal.specs.Checks.{Check}
use Rattle.refusal.specs.Checks.{unless}
use Rattle.text_token.specs.declared.Token.{Token}
use Rattle.text_byte.specs.Bytes.{equals_sign, semicolon, open_brace, close_brace}
use Rattle.text_token.specs.Tokens.{end_form, form_of, bytes_of}
use Rattle.text_name.specs.Identifiers.{is_identifier}
use Rattle.text_value.specs.declared.Value.{Value as ValueType}
use Rattle.text_value.specs.declared.Value.TheVariants.{Whole, Decimal, Text, Flag}
use Rattle.text_value.specs.declared.Misread.TheVariants.{WholePast, DecimalPast, NoValue}
use Rattle.text_value.specs.Values.{Reading, token_read}
use Rattle.text_table.specs.declared.scope.Scope.{Scope}
use Rattle.text_table.specs.declared.scope.Scope.TheVariants.{Top}
use Rattle.text_table.specs.declared.field.Holds.{Holds}
use Rattle.text_table.specs.Table.{whole, decimal, string, flag, holds_number, fields_of, holds_of}
use Rattle.text_table.specs.Scopes.{scope_number}
use Rattle.text_table.specs.Names.{field_named, kind_named}
use Rattle.text_block.specs.declared.Asked.{Asked}
use Rattle.text_block.specs.declared.Wanted.{Wanted}
use Rattle.text_block.specs.declared.Wanted.TheVariants.{Statement, Equals, Value, Semicolon, NoMore}
use Rattle.text_block.specs.declared.Counts.{Counts}
use Rattle.text_step.specs.declared.Notes.{Notes}
use Rattle.text_step.specs.declared.Parse.{Parse}
use Rattle.text_block.specs.Blocks.{count_of, counted, is_full, is_asked, stops_there, stops_inside, all_given}

-- what was noted so far: the place of the last namespace's value, 0 for none; the counts; and whether the block that is asked for was
-- found, its kind, the place of its name, and the place behind it
abbrev pub notes : ℕ → Counts → Bool → Scope → ℕ → ℕ → Notes
notes namespace counts found kind block next =
    record { namespace = namespace; counts = counts; found = found; kind = kind; block = block; next = next }

-- how far a text was read: what is wanted next; in which scope, and where the open block's name stands; the place to go
-- on; the refusal, if any; and what was noted
abbrev pub parse : Wanted → Scope → ℕ → ℕ → Check → Notes → Parse
parse wanted scope block at check notes =
    record { wanted = wanted; scope = scope; block = block; at = at; check = check; notes = notes }

-- behind a token that fits, in the same scope
abbrev pub goes_on : Parse → Token → Wanted → Parse
goes_on s t wanted = parse wanted s.scope s.block t.next (Ok tt) s.notes

-- refused: nothing more is read
abbrev pub refused_with : Parse → Refusal → Parse
refused_with s r = parse NoMore s.scope s.block s.at (Err r) s.notes

-- 90 at a token that does not fit
abbrev pub misfit : Parse → Token → Parse
misfit s t = refused_with s (TextGrammar t.start)

-- the top of the text, outside of blocks
abbrev pub is_top : Scope → Bool
is_top scope = eqb (scope_number scope) 0

-- the open block is the one that is asked for
abbrev pub is_found : Asked → Parse → Bool
is_found asked s = is_asked asked s.scope (count_of s.notes.counts s.scope)

-- what is noted where the open block ends, behind `next`
abbrev pub notes_after : Asked → Parse → ℕ → Notes
notes_after asked s next =
    let n = s.notes in
    let more = counted n.counts s.scope in
    cond (is_found asked s) (notes n.namespace more true s.scope s.block next)
    (notes n.namespace more n.found n.kind n.block n.next)

-- what is wanted behind it
abbrev pub wanted_after : Asked → Parse → Wanted
wanted_after asked s = cond (stops_there asked && is_found asked s) NoMore Statement

-- a closing brace: 92 there where a field without default is missing
abbrev pub closed_block : Asked → List ℕ → Parse → Token → Parse
closed_block asked places s t =
    cond (all_given s.scope places) (parse (wanted_after asked s) Top 0 t.next (Ok tt) (notes_after asked s t.next))
    (refused_with s (TextField t.start))

-- no statement: in a block a closing brace may come, and at the top the text's end
abbrev pub on_end : Asked → List ℕ → Parse → Token → Parse
on_end asked places s t =
    cond (not (is_top s.scope) && eqb (form_of t) close_brace) (closed_block asked places s t)
    (cond (is_top s.scope && eqb (form_of t) end_form) (goes_on s t NoMore) (misfit s t))

-- a statement begins with an identifier
abbrev pub on_statement : List ℕ → Asked → List ℕ → Parse → Token → Parse
on_statement text asked places s t = cond (is_identifier text t) (goes_on s t (Equals t.start t.end)) (on_end asked places s t)

-- what is wanted behind the opening brace of a block of a kind
abbrev pub wanted_inside : Asked → Scope → Wanted
wanted_inside asked kind = cond (stops_inside asked kind) NoMore Statement

-- a block of a kind opens: 93 at its name where there are too many
abbrev pub opened_block : Asked → Parse → Token → ℕ → Scope → Parse
opened_block asked s t start kind =
    cond (is_full s.notes.counts kind) (refused_with s (TextBlocks start))
    (parse (wanted_inside asked kind) kind start t.next (Ok tt) s.notes)

-- an opening brace behind a name at the top
abbrev pub on_brace : Asked → Parse → Token → ℕ → List ℕ → Parse
on_brace asked s t start name = cond (is_top s.scope && eqb (form_of t) open_brace)
    (opened_block asked s t start (kind_named name)) (misfit s t)

-- `=` behind an identifier, from `start` to `end`; or at the top an opening brace
abbrev pub on_equals : List ℕ → Asked → Parse → Token → ℕ → ℕ → Parse
on_equals text asked s t start end =
    let name = bytes_of text start end in
    cond (eqb (form_of t) equals_sign) (goes_on s t (Value (field_named s.scope name))) (on_brace asked s t start name)

-- what a name of a scope holds; nothing, which takes anything, for an unknown one
abbrev pub held_by : Scope → Option ℕ → Option Holds
held_by scope None = None
held_by scope (Some i) = holds_of (fields_of scope) i

-- what is held may be given as this: anything where the name is unknown, and a whole number where a decimal is held
abbrev pub serves : Option Holds → Holds → Bool
serves None given = true
serves (Some held) given =
    eqb (holds_number held) (holds_number given)
    || (eqb (holds_number held) (holds_number decimal) && eqb (holds_number given) (holds_number whole))

-- a value as what it is given as
abbrev pub given_as : ValueType → Holds
given_as (Whole z) = whole
given_as (Decimal x) = decimal
given_as (Text from to) = string
given_as (Flag b) = flag

-- 90 for no value or one of the wrong kind, and 91 for a number past its limits where its kind is right
abbrev pub value_check : Option Holds → Reading → ℕ → Check
value_check held (Ok v) at = unless (serves held (given_as v)) (TextGrammar at)
value_check held (Err WholePast) at = Err (cond (serves held whole) (TextNumber at) (TextGrammar at))
value_check held (Err DecimalPast) at = Err (cond (serves held decimal) (TextNumber at) (TextGrammar at))
value_check held (Err NoValue) at = Err (TextGrammar at)

-- behind a value that was judged
abbrev pub judged : Parse → Token → Option ℕ → Check → Parse
judged s t field (Ok _) = goes_on s t (Semicolon field t.start)
judged s t field (Err r) = refused_with s r

-- a value for a name of the scope
abbrev pub on_value : List ℕ → Parse → Token → Option ℕ → Parse
on_value text s t field = judged s t field (value_check (held_by s.scope field) (token_read text t) t.start)

-- the only name that the top knows is the namespace: the last one's value counts
abbrev pub notes_assigned : Parse → Option ℕ → ℕ → Notes
notes_assigned s field place =
    let n = s.notes in
    notes (cond (is_top s.scope && is_some field) place n.namespace) n.counts n.found n.kind n.block n.next

-- `;` behind the value at `place` for a name of the scope
abbrev pub on_semicolon : Parse → Token → Option ℕ → ℕ → Parse
on_semicolon s t field place =
    cond (eqb (form_of t) semicolon) (parse Statement s.scope s.block t.next (Ok tt) (notes_assigned s field place)) (misfit s t)

-- one token more
abbrev pub step_by : List ℕ → Asked → List ℕ → Parse → Token → Wanted → Parse
step_by text asked places s t Statement = on_statement text asked places s t
step_by text asked places s t (Equals start end) = on_equals text asked s t start end
step_by text asked places s t (Value field) = on_value text s t field
step_by text asked places s t (Semicolon field place) = on_semicolon s t field place
step_by text asked places s t NoMore = s
