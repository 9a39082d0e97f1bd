-- One comparison of two keys tells whether a name is above another, and whether it is equal. Assumes nothing.
use Prim.Native.Nat.{ℕ, ◌<◌}
use mathlib.Core.Bool.{Bool, true, false, cond}
use mathlib.Core.List.{List}
use mathlib.Core.Logic.{◌⊎◌, inl, inr}
use mathlib.Core.Path.{◌≡◌, refl, sym, ap, ◌∙◌}
use native.Mathlib.Omega.{arith}
use borrow.Author.Tests.{lt-ltb, le-ltb, eq-eqb, ne_eqb}
use lib.Dec.{ltb, eqb}
use lib.ListN.{length}
use Rattle.std.specs.Cmp.{ranks}
use Rattle.std.specs.Ordering.{nat_cmp, is_gt, is_eq, MatchOrdering}
use Rattle.std.specs.declared.cmp.Ordering.{Ordering}
use Rattle.std.specs.declared.cmp.Ordering.TheVariants.{Less, Equal, Greater}
use Rattle.endian.specs.Unsigned.{Bytes}
use Rattle.name.specs.Names.{same_bytes}
use Rattle.name.proofs.Bytes.{same_equal, equal_same}
use Rattle.index.specs.Records.{below_from}
use Rattle.index.specs.Keys.{key_of}
use Rattle.index.proofs.Orders.{three}
use Rattle.index.proofs.NameKeys.{key_same, key_below, key_above, key_equal}

module _ (xs ys : List ℕ) (low : Bytes xs) (low' : Bytes ys) where
  pub above_key : ltb (key_of 8 xs) (key_of 8 ys) ≡ below_from 8 0 xs ys false
  above_key = by (three (key_of 8 xs) (key_of 8 ys))
    where
      by : (key_of 8 xs < key_of 8 ys) ⊎ ((key_of 8 xs ≡ key_of 8 ys) ⊎ (key_of 8 ys < key_of 8 xs)) → ltb (key_of 8 xs) (key_of 8 ys) ≡ below_from 8 0 xs ys false
      by (inl h) = lt-ltb (key_of 8 xs) (key_of 8 ys) h ∙ sym (key_below xs ys low low' 8 false h)
      by (inr (inl e)) = le-ltb (key_of 8 xs) (key_of 8 ys) (omega (arith, e)) ∙ sym (key_same xs ys low low' 8 false e)
      by (inr (inr h)) = le-ltb (key_of 8 xs) (key_of 8 ys) (omega (arith, h)) ∙ sym (key_above xs ys low low' 8 false h)

  module _ (long : length xs ≡ 8) (long' : length ys ≡ 8) where
    pub equal_key : eqb (key_of 8 xs) (key_of 8 ys) ≡ same_bytes xs ys
    equal_key = by (same_bytes xs ys) refl
      where
        by : (b : Bool) → same_bytes xs ys ≡ b → eqb (key_of 8 xs) (key_of 8 ys) ≡ b
        by true e = eq-eqb (key_of 8 xs) (key_of 8 ys) (ap (key_of 8) (same_equal xs ys e))
        by false e =
            ne_eqb (key_of 8 xs) (key_of 8 ys)
            (λ k.
            let same : same_bytes xs ys ≡ true = ap (same_bytes xs) (sym (key_equal xs ys low low' long long' k)) ∙ equal_same xs in
            let z : ◌≡◌ {A = ℕ} 0 1 = cc in
            absurd (omega arith))

-- the order of two keys, by whether the second is below and whether they are equal
pub order_by : (x y : ℕ) → nat_cmp x y ≡ cond (ltb y x) Greater (cond (eqb x y) Equal Less)
order_by x y = by (nat_cmp x y) (ranks x y)
  where
    by : (r : Ordering) → MatchOrdering r (x < y) (x ≡ y) (y < x) → r ≡ cond (ltb y x) Greater (cond (eqb x y) Equal Less)
    by Less h = rw (le-ltb y x (omega (arith, h)), ne_eqb x y (λ e. absurd (omega (arith, h, e)))) refl
    by Equal h = rw (le-ltb y x (omega (arith, h)), eq-eqb x y h) refl
    by Greater h = rw (lt-ltb y x h) refl

-- what a comparison tells
module _ (b e : Bool) {t : Bool} {o : Ordering} (q : o ≡ cond b Greater (cond e Equal Less)) where
  pub told_above : t ≡ is_gt o → b ≡ t
  told_above p = by b e ∙ sym (ap is_gt q) ∙ sym p
    where
      by : (b e : Bool) → b ≡ is_gt (cond b Greater (cond e Equal Less))
      by true e = refl
      by false true = refl
      by false false = refl

  pub told_equal : b ≡ false → t ≡ is_eq o → e ≡ t
  told_equal f p = by e ∙ sym (ap is_eq (q ∙ ap (λ (c : Bool). cond c Greater (cond e Equal Less)) f)) ∙ sym p
    where
      by : (e : Bool) → e ≡ is_eq (cond e Equal Less)
      by true = refl
      by false = refl
