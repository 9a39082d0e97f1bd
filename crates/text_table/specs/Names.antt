-- A word among the known names (02, W-206): identifiers ignore the case of letters. Assumes nothing.
use Rattle.std.specs.Prelude.{ℕ, zero, suc, Bool, true, false, ◌&&◌, cond, Option, List, eqb, length, get_or, position}
use Rattle.std.specs.List.{list_any}
use Rattle.text_byte.specs.Bytes.{lower_at}
use Rattle.text_table.specs.declared.scope.Scope.{Scope}
use Rattle.text_table.specs.Scopes.{scope_of}
use Rattle.text_table.specs.Table.{kind_names, zero_id_names, fields_of}

-- the test holds of 0 to `n - 1`
unfoldable pub every : (ℕ → Bool) → ℕ → Bool
every test zero = true
every test (suc n) = every test n && test n

-- byte `k` of a word, small unless it is compared as it stands
abbrev pub letter_at : List ℕ → Bool → ℕ → ℕ
letter_at word exact k = cond exact (get_or word k 0) (lower_at word k)

-- the word is a name: as long, and the same letter by letter
abbrev pub is_name : List ℕ → Bool → List ℕ → Bool
is_name word exact name =
    eqb (length word) (length name) && every (λ k. eqb (letter_at word exact k) (get_or name k 0)) (length word)

-- which name of a scope the word is, if any
abbrev pub field_named : Scope → List ℕ → Option ℕ
field_named scope word = position (λ r. is_name word false r.name) (fields_of scope)

-- the kind of block that a word names
abbrev pub kind_named : List ℕ → Scope
kind_named word = scope_of (position (is_name word false) kind_names)

-- the namespace's bytes, case and all, are one of those whose linedefs have id 0 by default
abbrev pub zero_ids : List ℕ → Bool
zero_ids namespace = list_any (is_name namespace true) zero_id_names
