-- Laws of lists of numbers: two lists without repeats of the same numbers are equally long, and what it is, place by place, that all
-- numbers of a list pass a test, and that none is there twice. Assumes nothing.
use Prim.Native.Nat.{ℕ, zero, suc, ◌≤◌, ◌<◌, zero-le, suc-le-suc}
use mathlib.Core.Bool.{Bool, true, false, ◌&&◌, cond}
use mathlib.Core.List.{List, [], ◌∷◌}
use mathlib.Core.Logic.{⊎_elim}
use mathlib.Core.Path.{◌≡◌, refl, sym, ap, ◌∙◌}
use native.Mathlib.Nat.{not-suc-le-zero, le_of_suc-le-suc}
use native.Mathlib.Omega.{arith}
use borrow.Author.Tests.{eqb-true, eqb-false}
use lib.Dec.{eqb}
use lib.ListN.{length, get_or}
use Rattle.refusal.proofs.Checks.{not_both}
use Rattle.node_route.specs.Heights.{member, repeats}
use Rattle.node_route.proofs.Repeats.{or_neither, member_head, member_tail, member_cons, at_member}

-- ---- tests

pub not_held : (b : Bool) → (b ≡ true → ⊥) → b ≡ false
not_held true h = absurd (h refl)
not_held false h = refl

pub held_both : {a b : Bool} → a ≡ true → b ≡ true → (a && b) ≡ true
held_both p q = rw (p, q)

-- ---- as many

-- the list without the first `x`
abbrev without : ℕ → List ℕ → List ℕ
without x [] = []
without x (y ∷ ys) = cond (eqb x y) ys (y ∷ without x ys)

without_less : (x : ℕ) (ys : List ℕ) → member x ys ≡ true → length ys ≡ suc (length (without x ys))
without_less x [] e = absurd (not_both false e refl)
without_less x (y ∷ ys) e = by (eqb x y) refl (without_less x ys)
  where
    by : (b : Bool) → eqb x y ≡ b → (member x ys ≡ true → length ys ≡ suc (length (without x ys)))
        → suc (length ys) ≡ suc (length (cond b ys (y ∷ without x ys)))
    by true t rec = refl
    by false t rec =
        ⊎_elim (λ (h : x ≡ y). absurd (eqb-false x y t h)) (λ (h : member x ys ≡ true). ap suc (rec h)) (member_cons x y ys e)

without-others : (x v : ℕ) (ys : List ℕ) → (v ≡ x → ⊥) → member v ys ≡ true → member v (without x ys) ≡ true
without-others x v [] n e = e
without-others x v (y ∷ ys) n e = by (eqb x y) refl (without-others x v ys n)
  where
    by : (b : Bool) → eqb x y ≡ b → (member v ys ≡ true → member v (without x ys) ≡ true) → member v (cond b ys (y ∷ without x ys)) ≡ true
    by true t rec =
        ⊎_elim (λ (h : v ≡ y). absurd (n (h ∙ sym (eqb-true x y t)))) (λ (h : member v ys ≡ true). h) (member_cons v y ys e)
    by false t rec =
        ⊎_elim (λ (h : v ≡ y). member_head v y (without x ys) h) (λ (h : member v ys ≡ true). member_tail v y (without x ys) (rec h))
        (member_cons v y ys e)

pub no_more : (xs ys : List ℕ) → repeats xs ≡ false → ((v : ℕ) → member v xs ≡ true → member v ys ≡ true) → length xs ≤ length ys
no_more [] ys e h = zero-le
no_more (x ∷ xs) ys e h =
    let p = or_neither (member x xs) (repeats xs) e in
    let less = without_less x ys (h x (member_head x x xs refl)) in
    let rest = no_more xs (without x ys) p.1
    (λ v m. without-others x v ys (λ (q : v ≡ x). not_both (member x xs) (rw q at m) p.0) (h v (member_tail v x xs m))) in
    omega arith

pub as_many : (xs ys : List ℕ) → repeats xs ≡ false → repeats ys ≡ false → ((v : ℕ) → member v xs ≡ member v ys) → length xs ≡ length ys
as_many xs ys e f same =
    let a = no_more xs ys e (λ v m. sym (same v) ∙ m) in
    let b = no_more ys xs f (λ v m. same v ∙ m) in
    omega arith

-- ---- by places

pub place-member : (v : ℕ) (xs : List ℕ) → member v xs ≡ true → (i : ℕ) × ((i < length xs) × (get_or xs i 0 ≡ v))
place-member v [] e = absurd (not_both false e refl)
place-member v (x ∷ xs) e =
    ⊎_elim
    (λ (h : v ≡ x). (0, (omega arith, sym h)))
    (λ (h : member v xs ≡ true). let (i, (l, q)) = place-member v xs h in (suc i, (omega arith, q)))
    (member_cons v x xs e)

-- no number stands at two places
abbrev pub Apart : List ℕ → Type 0
Apart xs = (i j : ℕ) → i < j → j < length xs → get_or xs i 0 ≡ get_or xs j 0 → ⊥

pub once-apart : (xs : List ℕ) → repeats xs ≡ false → Apart xs
once-apart [] e i j l h = absurd (not-suc-le-zero h)
once-apart (x ∷ xs) e zero zero l h = absurd (not-suc-le-zero l)
once-apart (x ∷ xs) e zero (suc j) l h =
    λ q. not_both (member x xs) (rw (sym q) at (at_member xs j (le_of_suc-le-suc h))) (or_neither (member x xs) (repeats xs) e).0
once-apart (x ∷ xs) e (suc i) zero l h = absurd (not-suc-le-zero l)
once-apart (x ∷ xs) e (suc i) (suc j) l h =
    once-apart xs (or_neither (member x xs) (repeats xs) e).1 i j (le_of_suc-le-suc l) (le_of_suc-le-suc h)

pub apart-once : (xs : List ℕ) → Apart xs → repeats xs ≡ false
apart-once [] a = refl
apart-once (x ∷ xs) a =
    let rest = apart-once xs (λ i j l h q. a (suc i) (suc j) (suc-le-suc l) (suc-le-suc h) q) in
    let new : member x xs ≡ false = not_held (member x xs)
    (λ (m : member x xs ≡ true). let (i, (l, q)) = place-member x xs m in a 0 (suc i) (omega arith) (omega arith) (sym q)) in
    rw (new, rest)
