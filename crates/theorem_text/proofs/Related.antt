-- Two texts read to the same point, but for places. Assumes nothing.
use Prim.Native.Nat.{ℕ, ◌≤◌, ◌<◌}
use mathlib.Core.List.{List}
use mathlib.Core.Path.{◌≡◌}
use lib.Dec.{eqb}
use lib.ListN.{length}
use Rattle.std.specs.Prelude.{Option}
use Rattle.text_token.specs.declared.Token.{Token}
use Rattle.text_token.specs.Tokens.{form_of, word_form, bytes_of}
use Rattle.text_value.specs.Values.{token_read}
use Rattle.text_table.specs.declared.scope.Scope.{Scope}
use Rattle.text_table.specs.Names.{field_named, kind_named}
use Rattle.text_record.specs.Fields.{value_at}
use Rattle.text_block.specs.declared.Wanted.{Wanted}
use Rattle.text_block.specs.declared.Wanted.TheVariants.{Statement, Equals, Value, Semicolon, NoMore}
use Rattle.text_step.specs.declared.Notes.{Notes}
use Rattle.text_step.specs.declared.Parse.{Parse}
use Rattle.text_name.specs.Identifiers.{is_identifier}
use Rattle.theorem_text.specs.Tokens.{SameFirst}
use Rattle.theorem_text.specs.Answers.{SameCheck}
use Rattle.theorem_text.proofs.Readings.{SameReading}

module _ (a b : List ℕ) where
  -- two places at which the same value stands, or none
  pub record SamePlace (p q : ℕ) : Type 0 where
    pub given : eqb p 0 ≡ eqb q 0
    pub read : SameReading a b (value_at a p) (value_at b q)

  -- two names that mean the same
  pub record SameName (s e p q : ℕ) : Type 0 where
    pub field : (scope : Scope) → field_named scope (bytes_of a s e) ≡ field_named scope (bytes_of b p q)
    pub kind : kind_named (bytes_of a s e) ≡ kind_named (bytes_of b p q)

  -- a place behind a token
  abbrev pub Begun : ℕ → ℕ → Type 0
  Begun at from = ((0 < at) × (at ≤ length a)) × ((0 < from) × (from ≤ length b))

  -- the same is wanted, from `at` and `from` on
  pub data SameWanted (at from : ℕ) : Wanted → Wanted → Type 0 where
    want_statement : SameWanted at from Statement Statement
    want_equals : (s e p q : ℕ) → SameName s e p q → SameWanted at from (Equals s e) (Equals p q)
    want_value : (f : Option ℕ) → Begun at from → SameWanted at from (Value f) (Value f)
    want_semicolon : (f : Option ℕ) (p q : ℕ) → SamePlace p q → SameWanted at from (Semicolon f p) (Semicolon f q)
    want_none : SameWanted at from NoMore NoMore

  -- the same was noted
  pub record SameNotes (n m : Notes) : Type 0 where
    pub namespace : SamePlace n.namespace m.namespace
    pub counts : n.counts ≡ m.counts
    pub found : n.found ≡ m.found
    pub kind : n.kind ≡ m.kind

  -- the same scope, the same notes, and the same `n` tokens to come
  pub record SameBase (n : ℕ) (p q : Parse) : Type 0 where
    pub scope : p.scope ≡ q.scope
    pub notes : SameNotes p.notes q.notes
    pub tokens : SameFirst n a p.at b q.at

  pub record SameParse (n : ℕ) (p q : Parse) : Type 0 where
    pub base : SameBase n p q
    pub wanted : SameWanted p.at q.at p.wanted q.wanted
    pub check : SameCheck p.check q.check

  -- two tokens that do the same, and `n` behind them
  pub record SameToken (n : ℕ) (t u : Token) : Type 0 where
    pub form : (form_of t) ≡ (form_of u)
    pub named : is_identifier a t ≡ is_identifier b u
    pub name : SameName t.start t.end u.start u.end
    pub read : SameReading a b (token_read a t) (token_read b u)
    pub begun : word_form ≤ (form_of t) → Begun t.next u.next
    pub next : SameFirst n a t.next b u.next
