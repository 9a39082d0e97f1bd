-- The record of a refused block is all 0: none of its fields has a value, and without rows every default is 0. Assumes nothing.
use Prim.Native.Nat.{ℕ, zero, suc}
use mathlib.Core.Bool.{false}
use mathlib.Core.List.{List, []}
use mathlib.Core.Path.{◌≡◌, refl, ap}
use lib.IntN.{ℤ, pos}
use lib.ListN.{get_or, replicate}
use Rattle.text_table.specs.Table.{default_of}
use Rattle.text_block.specs.Blocks.{no_places}
use Rattle.text_record.specs.Fields.{value_at, default_whole, whole_or, decimal_or, string_or, flag_or, between, zero_point, whole_field, decimal_field, string_field, flag_field}

get_d_zeros : (n k : ℕ) → ◌≡◌ {A = ℕ} (get_or (replicate n 0) k 0) 0
get_d_zeros zero k = refl
get_d_zeros (suc n) zero = refl
get_d_zeros (suc n) (suc k) = get_d_zeros n k

module _ (text : List ℕ) (k : ℕ) where
  -- no value of such a block is read
  unread : {A : Type 0} (f : ℕ → A) → f (get_or no_places k 0) ≡ f 0
  unread f = ap f (get_d_zeros 34 k)

  pub whole_field-none : (id : ℤ) → whole_field text no_places (default_of []) id k ≡ pos 0
  whole_field-none id =
      unread (λ (p : ℕ). whole_or (default_whole id (default_of [] k)) (value_at text p))

  pub decimal_field-none : decimal_field text no_places k ≡ zero_point
  decimal_field-none = unread (λ (p : ℕ). decimal_or (value_at text p))

  pub string_field-none : string_field text no_places k ≡ between 0 0
  string_field-none = unread (λ (p : ℕ). string_or (value_at text p))

  pub flag_field-none : flag_field text no_places k ≡ false
  flag_field-none = unread (λ (p : ℕ). flag_or (value_at text p))
