-- The code's fields of a scope against the rows of the table. Assumes nothing.
use Prim.Native.Nat.{ℕ, ◌<◌}
use mathlib.Core.List.{List, map}
use mathlib.Core.Path.{◌≡◌, refl, sym, ap, ◌∙◌}
use denote.Enum.Bare.{sameb}
use lib.ListN.{length, get_or}
use Rattle.std.proofs.lemmas.List.{get_or-map, length-map}
use Rattle.text_table.specs.contracts.field.Fallback.{the_type}
use Rattle.text_table.specs.declared.field.Field.{Field}
use Rattle.text_table.specs.declared.field.Fallback.{Fallback}
use Rattle.text_table.specs.declared.field.Fallback.TheVariants.{Required, Zero, MinusOne, Light, ByNamespace}
use Rattle.text_table.specs.declared.scope.Scope.{Scope}
use Rattle.text_table.specs.Table.{Row, fields_of, no_row, is_none, is_required}
use Rattle.text_table.specs.Rows.{row_of}

-- the code's test whether a field has no default
pub none-same : (d : Fallback) → sameb the_type d Required ≡ is_none d
none-same Required = refl
none-same Zero = refl
none-same MinusOne = refl
none-same Light = refl
none-same ByNamespace = refl

module _ (fields : List Field) (scope : Scope) (rows : map row_of fields ≡ fields_of scope) where
  pub fields-long : length (fields_of scope) ≡ length fields
  fields-long = sym (ap length rows) ∙ length-map fields row_of

  pub field-row : (k : ℕ) (d : Field) → k < length fields → row_of (get_or fields k d) ≡ get_or (fields_of scope) k no_row
  field-row k d h = sym (get_or-map row_of fields k d no_row h) ∙ ap (λ (xs : List Row). get_or xs k no_row) rows

  pub required-same : (k : ℕ) (d : Field) → k < length fields → sameb the_type (get_or fields k d).default Required ≡ is_required (fields_of scope) k
  required-same k d h = none-same (get_or fields k d).default ∙ ap (λ (r : Row). is_none r.default) (field-row k d h)
