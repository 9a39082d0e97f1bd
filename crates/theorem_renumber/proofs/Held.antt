-- Laws of lists of numbers: where one stands, what a list of all of another one's numbers holds, and what stands at the end. Assumes
-- nothing.
use Prim.Native.Nat.{ℕ, zero, suc, ◌≤◌, ◌<◌, zero-le, suc-le-suc}
use mathlib.Core.Bool.{Bool, true, false, cond}
use mathlib.Core.List.{List, [], ◌∷◌, ◌++◌}
use mathlib.Core.Logic.{◌⊎◌, inl, inr, ⊎_elim}
use mathlib.Core.Path.{◌≡◌, refl, sym, ap, ◌∙◌}
use native.Mathlib.Nat.{le_of_suc-le-suc, le_antisymm}
use native.Mathlib.Omega.{arith}
use borrow.Author.Tests.{eqb-true, eq-eqb, ne_eqb}
use lib.Dec.{eqb}
use lib.ListN.{length, get_or}
use Rattle.refusal.proofs.Checks.{both, not_both}
use Rattle.node_route.specs.Heights.{member, repeats}
use Rattle.node_route.specs.Reach.{HoldsOnce}
use Rattle.node_route.proofs.Repeats.{or_neither, member_head, member_tail, member_cons, at_member}
use Rattle.renumber_order.specs.Orders.{index_in, all_among, last_ok}
use Rattle.renumber_order.proofs.Members.{no_more}

-- ---- in the list or not

pub in_or_not : (v : ℕ) (xs : List ℕ) → (member v xs ≡ true) ⊎ (member v xs ≡ false)
in_or_not v xs = by (member v xs) refl
  where
    by : (b : Bool) → member v xs ≡ b → (member v xs ≡ true) ⊎ (member v xs ≡ false)
    by true e = inl e
    by false e = inr e

-- no test both holds and does not
pub clash : {b : Bool} → b ≡ true → b ≡ false → ⊥
clash {b} = not_both b

-- ---- where a number stands

pub place_in : (xs : List ℕ) (v : ℕ) → member v xs ≡ true → index_in xs v < length xs
place_in [] v m = absurd (clash m refl)
place_in (x ∷ xs) v m =
    ⊎_elim
    (λ (h : v ≡ x). rw (eq-eqb x v (sym h)) (omega arith))
    (λ (h : member v xs ≡ true). by (eqb x v) (place_in xs v h))
    (member_cons v x xs m)
  where
    by : (b : Bool) → index_in xs v < length xs → cond b 0 (suc (index_in xs v)) < suc (length xs)
    by true h = omega arith
    by false h = suc-le-suc h

pub at_place : (xs : List ℕ) (v : ℕ) → index_in xs v < length xs → get_or xs (index_in xs v) 0 ≡ v
at_place [] v h = absurd (omega arith)
at_place (x ∷ xs) v h = by (eqb x v) refl h (at_place xs v)
  where
    by : (b : Bool) → eqb x v ≡ b → cond b 0 (suc (index_in xs v)) < suc (length xs)
        → (index_in xs v < length xs → get_or xs (index_in xs v) 0 ≡ v) → get_or (x ∷ xs) (cond b 0 (suc (index_in xs v))) 0 ≡ v
    by true e l rest = eqb-true x v e
    by false e l rest = rest (le_of_suc-le-suc l)

-- it stands nowhere before its place
pub place-least : (xs : List ℕ) (j : ℕ) → j < length xs → index_in xs (get_or xs j 0) ≤ j
place-least [] j h = absurd (omega arith)
place-least (x ∷ xs) zero h = rw (eq-eqb x x refl) zero-le
place-least (x ∷ xs) (suc j) h = by (eqb x (get_or xs j 0)) (place-least xs j (le_of_suc-le-suc h))
  where
    by : (b : Bool) → index_in xs (get_or xs j 0) ≤ j → cond b 0 (suc (index_in xs (get_or xs j 0))) ≤ suc j
    by true l = zero-le
    by false l = suc-le-suc l

-- and where no number is twice, at no other place
pub place_at : (xs : List ℕ) → repeats xs ≡ false → (j : ℕ) → j < length xs → index_in xs (get_or xs j 0) ≡ j
place_at [] once j h = absurd (omega arith)
place_at (x ∷ xs) once zero h = rw (eq-eqb x x refl)
place_at (x ∷ xs) once (suc j) h =
    let p = or_neither (member x xs) (repeats xs) once in
    let low = le_of_suc-le-suc h in
    let apart : eqb x (get_or xs j 0) ≡ false =
    ne_eqb x (get_or xs j 0) (λ e. clash (at_member xs j low) (ap (λ (v : ℕ). member v xs) (sym e) ∙ p.0)) in
    rw apart (ap suc (place_at xs p.1 j low))

-- ---- as many numbers

-- two lists that hold the same numbers once have one length
pub same_length : (P : ℕ → Type 0) (xs ys : List ℕ) → HoldsOnce P xs → HoldsOnce P ys → length xs ≡ length ys
same_length P xs ys a b =
    le_antisymm (no_more xs ys a.once (λ v m. b.every v (a.only v m))) (no_more ys xs b.once (λ v m. a.every v (b.only v m)))

-- and one of different numbers of the other that is as long holds them all
pub holds-all : (xs ys : List ℕ) → repeats xs ≡ false → ((v : ℕ) → member v xs ≡ true → member v ys ≡ true) → length xs ≡ length ys
    → (v : ℕ) → member v ys ≡ true → member v xs ≡ true
holds-all xs ys once all long v m =
    ⊎_elim
    (λ (h : member v xs ≡ true). h)
    (λ (h : member v xs ≡ false).
    let more = no_more (v ∷ xs) ys (rw (h, once))
    (λ u k. ⊎_elim (λ (e : u ≡ v). ap (λ (w : ℕ). member w ys) e ∙ m) (all u) (member_cons u v xs k)) in
    absurd (omega arith))
    (in_or_not v xs)

-- ---- all of one list in another

pub all-member : (xs ys : List ℕ) → all_among xs ys ≡ true → (v : ℕ) → member v xs ≡ true → member v ys ≡ true
all-member [] ys e v m = absurd (clash m refl)
all-member (x ∷ xs) ys e v m =
    let p = both (member x ys) (all_among xs ys) e in
    ⊎_elim (λ (h : v ≡ x). ap (λ (w : ℕ). member w ys) h ∙ p.0) (all-member xs ys p.1 v) (member_cons v x xs m)

pub member-all : (xs ys : List ℕ) → ((v : ℕ) → member v xs ≡ true → member v ys ≡ true) → all_among xs ys ≡ true
member-all [] ys all = refl
member-all (x ∷ xs) ys all =
    rw (all x (member_head x x xs refl), member-all xs ys (λ v m. all v (member_tail v x xs m)))

-- ---- the last

pub last-ends : (v : ℕ) (xs : List ℕ) → last_ok v xs ≡ true → (xs ≡ []) ⊎ ((before : List ℕ) × (xs ≡ before ++ (v ∷ [])))
last-ends v [] e = inl refl
last-ends v (x ∷ []) e = inr ([], ap (λ (w : ℕ). w ∷ []) (eqb-true x v e))
last-ends v (x ∷ y ∷ ys) e =
    ⊎_elim
    (λ (h : y ∷ ys ≡ []). let z : ◌≡◌ {A = ℕ} 0 1 = cc in absurd (omega arith))
    (λ (h : (before : List ℕ) × (y ∷ ys ≡ before ++ (v ∷ []))). inr (x ∷ h.0, ap (λ (zs : List ℕ). x ∷ zs) h.1))
    (last-ends v (y ∷ ys) e)

pub ends_last : (v : ℕ) (before : List ℕ) → last_ok v (before ++ (v ∷ [])) ≡ true
ends_last v [] = eq-eqb v v refl
ends_last v (x ∷ []) = eq-eqb v v refl
ends_last v (x ∷ y ∷ ys) = ends_last v (y ∷ ys)
