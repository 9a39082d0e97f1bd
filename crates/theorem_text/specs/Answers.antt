-- Two texts have the same answers but for places (02, W-206): strings have the same bytes and are absent in both or
-- in neither, and faults have the same number. Assumes nothing.
use Rattle.std.specs.Prelude.{ℕ, Bool, ◌&&◌, List, ◌≡◌, eqb, ℤ, get_or, Ok, Err}
use Rattle.refusal.specs.declared.Refusal.{Refusal}
use Rattle.refusal.specs.Checks.{Check}
use Rattle.refusal.specs.Table.{number_of}
use Rattle.text_token.specs.Tokens.{bytes_of}
use Rattle.text_reader.specs.Texts.{Stand}
use Rattle.text_record.specs.declared.given.Places.{Places}
use Rattle.text_record.specs.Fields.{value_at, whole_or, decimal_or, string_or, flag_or}
use Rattle.text_map.specs.Answers.{block_check, opened_check, namespace_of}

-- both pass, or both are refused with one number
pub data SameCheck : Check → Check → Type 0 where
  both_pass : SameCheck (Ok tt) (Ok tt)
  both_refused : (r q : Refusal) → number_of r ≡ number_of q → SameCheck (Err r) (Err q)

-- the bytes of a string
abbrev pub string_bytes : List ℕ → Places → List ℕ
string_bytes text at = bytes_of text at.start at.end

-- a string is absent if both of its places are 0; an empty string that is given stands behind its opening quote
abbrev pub is_absent : Places → Bool
is_absent at = eqb at.start 0 && eqb at.end 0

-- the values at two places are the same, whatever a field holds
pub record SameValue (a : List ℕ) (at : ℕ) (b : List ℕ) (from : ℕ) : Type 0 where
  pub whole : (default : ℤ) → whole_or default (value_at a at) ≡ whole_or default (value_at b from)
  pub decimal : decimal_or (value_at a at) ≡ decimal_or (value_at b from)
  pub flag : flag_or (value_at a at) ≡ flag_or (value_at b from)
  pub string : string_bytes a (string_or (value_at a at)) ≡ string_bytes b (string_or (value_at b from))
  pub absent : is_absent (string_or (value_at a at)) ≡ is_absent (string_or (value_at b from))

-- two texts that are read to their ends have the same fault, open block by its kind, namespace by its bytes and
-- presence, counts, and asked block with all of its values
pub record SameStand (a b : List ℕ) (s t : Stand) : Type 0 where
  pub check : SameCheck s.parse.check t.parse.check
  pub opened : SameCheck (opened_check s.parse) (opened_check t.parse)
  pub scope : s.parse.scope ≡ t.parse.scope
  pub asked : SameCheck (block_check s.parse) (block_check t.parse)
  pub namespace : string_bytes a (namespace_of a s.parse) ≡ string_bytes b (namespace_of b t.parse)
  pub absent : is_absent (namespace_of a s.parse) ≡ is_absent (namespace_of b t.parse)
  pub counts : s.parse.notes.counts ≡ t.parse.notes.counts
  pub kind : s.parse.notes.kind ≡ t.parse.notes.kind
  pub values : (k : ℕ) → SameValue a (get_or s.kept k 0) b (get_or t.kept k 0)
