-- Laws of lists in which a number is, or is twice: two lists joined. Assumes nothing.
use Prim.Native.Nat.{ℕ, zero, suc, ◌<◌}
use mathlib.Core.Bool.{Bool, true, false, ◌||◌}
use mathlib.Core.List.{List, [], ◌∷◌, ◌++◌}
use mathlib.Core.Logic.{◌⊎◌, inl, inr, ⊎_elim}
use mathlib.Core.Path.{◌≡◌, refl}
use native.Mathlib.Nat.{le_of_suc-le-suc}
use native.Mathlib.Omega.{arith}
use borrow.Author.Tests.{eqb-true, eq-eqb}
use lib.Dec.{eqb}
use lib.ListN.{length, get_or}
use Rattle.node_route.specs.Heights.{member, repeats}

-- ---- one of two tests

pub or_left : (a b : Bool) → a ≡ true → (a || b) ≡ true
or_left true b e = refl
or_left false b e = let z : ◌≡◌ {A = ℕ} 0 1 = cc in absurd (omega arith)

pub or_right : (a b : Bool) → b ≡ true → (a || b) ≡ true
or_right true b e = refl
or_right false b e = e

pub or_either : (a b : Bool) → (a || b) ≡ true → (a ≡ true) ⊎ (b ≡ true)
or_either true b e = inl refl
or_either false b e = inr e

pub or_neither : (a b : Bool) → (a || b) ≡ false → (a ≡ false) × (b ≡ false)
or_neither true b e = let z : ◌≡◌ {A = ℕ} 0 1 = cc in absurd (omega arith)
or_neither false b e = (refl, e)

-- ---- in a list

pub member_head : (x y : ℕ) (ys : List ℕ) → x ≡ y → member x (y ∷ ys) ≡ true
member_head x y ys e = or_left (eqb x y) (member x ys) (eq-eqb x y e)

pub member_tail : (x y : ℕ) (ys : List ℕ) → member x ys ≡ true → member x (y ∷ ys) ≡ true
member_tail x y ys e = or_right (eqb x y) (member x ys) e

pub member_cons : (x y : ℕ) (ys : List ℕ) → member x (y ∷ ys) ≡ true → (x ≡ y) ⊎ (member x ys ≡ true)
member_cons x y ys e =
    ⊎_elim (λ (h : eqb x y ≡ true). inl (eqb-true x y h)) (λ (h : member x ys ≡ true). inr h) (or_either (eqb x y) (member x ys) e)

pub member-left : (x : ℕ) (xs ys : List ℕ) → member x xs ≡ true → member x (xs ++ ys) ≡ true
member-left x [] ys e = let z : ◌≡◌ {A = ℕ} 0 1 = cc in absurd (omega arith)
member-left x (y ∷ xs) ys e =
    ⊎_elim (λ (h : x ≡ y). member_head x y (xs ++ ys) h) (λ (h : member x xs ≡ true). member_tail x y (xs ++ ys) (member-left x xs ys h))
    (member_cons x y xs e)

pub member_right : (x : ℕ) (xs ys : List ℕ) → member x ys ≡ true → member x (xs ++ ys) ≡ true
member_right x [] ys e = e
member_right x (y ∷ xs) ys e = member_tail x y (xs ++ ys) (member_right x xs ys e)

pub member_append : (x : ℕ) (xs ys : List ℕ) → member x (xs ++ ys) ≡ true → (member x xs ≡ true) ⊎ (member x ys ≡ true)
member_append x [] ys e = inr e
member_append x (y ∷ xs) ys e =
    ⊎_elim
    (λ (h : x ≡ y). inl (member_head x y xs h))
    (λ (h : member x (xs ++ ys) ≡ true).
    ⊎_elim (λ (k : member x xs ≡ true). inl (member_tail x y xs k)) (λ (k : member x ys ≡ true). inr k) (member_append x xs ys h))
    (member_cons x y (xs ++ ys) e)

pub at_member : (xs : List ℕ) (j : ℕ) → j < length xs → member (get_or xs j 0) xs ≡ true
at_member [] j h = absurd (omega arith)
at_member (x ∷ xs) zero h = member_head x x xs refl
at_member (x ∷ xs) (suc j) h = member_tail (get_or xs j 0) x xs (at_member xs j (le_of_suc-le-suc h))

-- ---- twice in a list

pub repeats_head : (x : ℕ) (xs : List ℕ) → member x xs ≡ true → repeats (x ∷ xs) ≡ true
repeats_head x xs e = or_left (member x xs) (repeats xs) e

pub repeats_tail : (x : ℕ) (xs : List ℕ) → repeats xs ≡ true → repeats (x ∷ xs) ≡ true
repeats_tail x xs e = or_right (member x xs) (repeats xs) e

pub repeats-left : (xs ys : List ℕ) → repeats xs ≡ true → repeats (xs ++ ys) ≡ true
repeats-left [] ys e = let z : ◌≡◌ {A = ℕ} 0 1 = cc in absurd (omega arith)
repeats-left (x ∷ xs) ys e =
    ⊎_elim
    (λ (h : member x xs ≡ true). repeats_head x (xs ++ ys) (member-left x xs ys h))
    (λ (h : repeats xs ≡ true). repeats_tail x (xs ++ ys) (repeats-left xs ys h))
    (or_either (member x xs) (repeats xs) e)

pub repeats_right : (xs ys : List ℕ) → repeats ys ≡ true → repeats (xs ++ ys) ≡ true
repeats_right [] ys e = e
repeats_right (x ∷ xs) ys e = repeats_tail x (xs ++ ys) (repeats_right xs ys e)

-- once in each of two lists
pub repeats_across : (x : ℕ) (xs ys : List ℕ) → member x xs ≡ true → member x ys ≡ true → repeats (xs ++ ys) ≡ true
repeats_across x [] ys e q = let z : ◌≡◌ {A = ℕ} 0 1 = cc in absurd (omega arith)
repeats_across x (y ∷ xs) ys e q =
    ⊎_elim
    (λ (h : x ≡ y). repeats_head y (xs ++ ys) (rw h at (member_right x xs ys q)))
    (λ (h : member x xs ≡ true). repeats_tail y (xs ++ ys) (repeats_across x xs ys h q))
    (member_cons x y xs e)

-- what it is that two lists joined repeat
pub data Repeated (xs ys : List ℕ) : Type 0 where
  in_first : repeats xs ≡ true → Repeated xs ys
  in_second : repeats ys ≡ true → Repeated xs ys
  in_both : (x : ℕ) → member x xs ≡ true → member x ys ≡ true → Repeated xs ys

repeated_more : (x : ℕ) (xs ys : List ℕ) → Repeated xs ys → Repeated (x ∷ xs) ys
repeated_more x xs ys (in_first e) = in_first (repeats_tail x xs e)
repeated_more x xs ys (in_second e) = in_second e
repeated_more x xs ys (in_both v e q) = in_both v (member_tail v x xs e) q

pub repeats_append : (xs ys : List ℕ) → repeats (xs ++ ys) ≡ true → Repeated xs ys
repeats_append [] ys e = in_second e
repeats_append (x ∷ xs) ys e =
    ⊎_elim
    (λ (h : member x (xs ++ ys) ≡ true).
    ⊎_elim
    (λ (k : member x xs ≡ true). in_first (repeats_head x xs k))
    (λ (k : member x ys ≡ true). in_both x (member_head x x xs refl) k)
    (member_append x xs ys h))
    (λ (h : repeats (xs ++ ys) ≡ true). repeated_more x xs ys (repeats_append xs ys h))
    (or_either (member x (xs ++ ys)) (repeats (xs ++ ys)) e)
