-- A whole number among a record's fields: what its reading asks, and the number as it is kept in 32 bits. Assumes nothing.
use Prim.Native.Nat.{ℕ, ◌<◌, ◌^◌}
use mathlib.Core.List.{List}
use mathlib.Core.Path.{◌≡◌, ap, ◌∙◌}
use lib.IntN.{ℤ}
use lib.Signed.{mag}
use mir.Syntax.{w32}
use mir.Val.{to_z, of_z, hbits}
use mir.ValLaws.{to_z-of_z}
use Rattle.text_table.specs.declared.field.Fallback.{Fallback}
use Rattle.text_record.specs.Fields.{whole_field}

-- a number that was answered
pub whole : {r z : ℤ} → mag r < 2 ^ hbits w32 → r ≡ z → to_z w32 (of_z w32 r) ≡ z
whole {r} fits e = to_z-of_z w32 r (record { sfits = fits }) ∙ e

-- field `k` of a linedef, whose default was kept so before
pub whole_by : (text places : List ℕ) (defaults : ℕ → Fallback) (k : ℕ) {r d z : ℤ} → mag r < 2 ^ hbits w32
    → r ≡ whole_field text places defaults d k → d ≡ z
    → to_z w32 (of_z w32 r) ≡ whole_field text places defaults z k
whole_by text places defaults k fits e default = whole fits (e ∙ ap (λ (x : ℤ). whole_field text places defaults x k) default)
