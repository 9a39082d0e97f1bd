-- Names of eight bytes as rows of tests, byte by byte: what precedes the first zero is looked at one byte after the other.
-- Assumes nothing.
use Prim.Native.Nat.{ℕ, zero, suc, ◌+◌, ◌<◌}
use mathlib.Core.Bool.{Bool, true, false, ◌&&◌, ◌||◌}
use mathlib.Core.List.{List, [], ◌∷◌}
use mathlib.Core.Path.{◌≡◌, refl, sym, ◌∙◌}
use native.Mathlib.Omega.{arith}
use native.Mathlib.Numerals.{add-one}
use borrow.Author.Tests.{eqb-true, eqb-false, eq-eqb, ne_eqb, lt-ltb}
use lib.Dec.{ltb, eqb}
use lib.ListN.{length, drop, get_or}
use lib.Seq.{drop-cons, drop-length}
use Rattle.name.specs.Names.{name_of, character_ok, characters_ok, name_ok, same_name}

-- ---- a list of a known length has its elements

split : (n : ℕ) (P : List ℕ → Type 0) → ((c : ℕ) (cs : List ℕ) → length cs ≡ n → P (c ∷ cs)) → (xs : List ℕ) → length xs ≡ suc n → P xs
split n P f [] e = absurd (omega arith)
split n P f (c ∷ cs) e = f c cs (omega arith)

-- what holds of every eight bytes written out holds of a list of that length
eight : (P : List ℕ → Type 0) → ((a b c d e f g h : ℕ) → P (a ∷ b ∷ c ∷ d ∷ e ∷ f ∷ g ∷ h ∷ []))
    → (xs : List ℕ) → length xs ≡ 8 → P xs
eight P p =
    split 7 P λ a. split 6 (λ (x : List ℕ). P (a ∷ x)) λ b. split 5 (λ (x : List ℕ). P (a ∷ b ∷ x)) λ c.
    split 4 (λ (x : List ℕ). P (a ∷ b ∷ c ∷ x)) λ d. split 3 (λ (x : List ℕ). P (a ∷ b ∷ c ∷ d ∷ x)) λ e.
    split 2 (λ (x : List ℕ). P (a ∷ b ∷ c ∷ d ∷ e ∷ x)) λ f. split 1 (λ (x : List ℕ). P (a ∷ b ∷ c ∷ d ∷ e ∷ f ∷ x)) λ g.
    split 0 (λ (x : List ℕ). P (a ∷ b ∷ c ∷ d ∷ e ∷ f ∷ g ∷ x)) (λ h xs l. last a b c d e f g h xs l)
  where
    last : (a b c d e f g h : ℕ) (xs : List ℕ) → length xs ≡ 0 → P (a ∷ b ∷ c ∷ d ∷ e ∷ f ∷ g ∷ h ∷ xs)
    last a b c d e f g h [] l = p a b c d e f g h
    last a b c d e f g h (x ∷ xs) l = absurd (omega arith)

-- ---- one byte more

name-end : (c : ℕ) (cs : List ℕ) → eqb c 0 ≡ true → name_of (c ∷ cs) ≡ []
name-end c cs e = rw e

name_on : (c : ℕ) (cs : List ℕ) → eqb c 0 ≡ false → name_of (c ∷ cs) ≡ c ∷ name_of cs
name_on c cs e = rw e

-- the name ends at `c`, or goes on with it
characters_more : (c : ℕ) (cs : List ℕ) → characters_ok (name_of (c ∷ cs)) ≡ (eqb c 0 || (character_ok c && characters_ok (name_of cs)))
characters_more c cs = by (eqb c 0) refl
  where
    by : (b : Bool) → eqb c 0 ≡ b → characters_ok (name_of (c ∷ cs)) ≡ (b || (character_ok c && characters_ok (name_of cs)))
    by true e = rw (name-end c cs e)
    by false e = rw (name_on c cs e)

name-more : (c : ℕ) (cs : List ℕ) → name_ok (c ∷ cs) ≡ (character_ok c && characters_ok (name_of cs))
name-more c cs = by (eqb c 0) refl
  where
    by : (b : Bool) → eqb c 0 ≡ b → name_ok (c ∷ cs) ≡ (character_ok c && characters_ok (name_of cs))
    by true e = rw (eqb-true c 0 e)
    by false e = rw (name_on c cs e)

alike_by : (c d : ℕ) (cs ds : List ℕ) (a b : Bool) → eqb c 0 ≡ a → eqb d 0 ≡ b
    → same_name (c ∷ cs) (d ∷ ds) ≡ (eqb c d && (a || same_name cs ds))
alike_by c d cs ds true true e f = rw (eqb-true c 0 e, eqb-true d 0 f)
alike_by c d cs ds true false e f =
    rw (eqb-true c 0 e, name_on d ds f, ne_eqb 0 d (λ (q : 0 ≡ d). eqb-false d 0 f (sym q)))
alike_by c d cs ds false true e f = rw (eqb-true d 0 f, name_on c cs e, e)
alike_by c d cs ds false false e f = rw (name_on c cs e, name_on d ds f)

alike_more : (c d : ℕ) (cs ds : List ℕ) → same_name (c ∷ cs) (d ∷ ds) ≡ (eqb c d && (eqb c 0 || same_name cs ds))
alike_more c d cs ds = alike_by c d cs ds (eqb c 0) (eqb d 0) refl refl

-- names that begin with two bytes, which differ, are the name's end, or are one more character
pub same-differ : (c d : ℕ) (cs ds : List ℕ) → (c ≡ d → ⊥) → same_name (c ∷ cs) (d ∷ ds) ≡ false
same-differ c d cs ds h = alike_more c d cs ds ∙ rw (ne_eqb c d h)

pub same-end : (c d : ℕ) (cs ds : List ℕ) → c ≡ d → c ≡ 0 → same_name (c ∷ cs) (d ∷ ds) ≡ true
same-end c d cs ds h e = alike_more c d cs ds ∙ rw (eq-eqb c d h, eq-eqb c 0 e)

pub same-on : (c d : ℕ) (cs ds : List ℕ) → c ≡ d → (c ≡ 0 → ⊥) → same_name (c ∷ cs) (d ∷ ds) ≡ same_name cs ds
same-on c d cs ds h e = alike_more c d cs ds ∙ rw (eq-eqb c d h, ne_eqb c 0 e)

-- nothing is left of one, and so of both
pub same-done : (cs ds : List ℕ) → length cs ≡ length ds → length cs ≡ 0 → same_name cs ds ≡ true
same-done [] [] h e = refl
same-done [] (d ∷ ds) h e = absurd (omega arith)
same-done (c ∷ cs) ds h e = absurd (omega arith)

-- ---- the bytes from `i` on

module _ (n : List ℕ) (i : ℕ) (h : i < length n) where
  characters_at : characters_ok (name_of (drop i n))
      ≡ (eqb (get_or n i 0) 0 || (character_ok (get_or n i 0) && characters_ok (name_of (drop (i + 1) n))))
  characters_at = rw (drop-cons n i 0 h, add-one i) (characters_more (get_or n i 0) (drop (suc i) n))

  pub same_at_lem : (m : List ℕ) → i < length m
      → same_name (drop i n) (drop i m) ≡ (eqb (get_or n i 0) (get_or m i 0) && (eqb (get_or n i 0) 0 || same_name (drop (i + 1) n) (drop (i + 1) m)))
  same_at_lem m k =
      rw (drop-cons n i 0 h, drop-cons m i 0 k, add-one i) (alike_more (get_or n i 0) (get_or m i 0) (drop (suc i) n) (drop (suc i) m))

-- the first `i` bytes are good characters: the name is good where what follows is
abbrev pub GoodTo : List ℕ → ℕ → Type 0
GoodTo n i = 0 < i → name_ok n ≡ characters_ok (name_of (drop i n))

no_zero_lem : (c : ℕ) → character_ok c ≡ true → eqb c 0 ≡ false
no_zero_lem c e =
    ne_eqb c 0 (λ (q : c ≡ 0). let z : character_ok 0 ≡ true = rw q at e in let o : ◌≡◌ {A = ℕ} 0 1 = cc in omega arith)

first : (n : List ℕ) → 0 < length n → name_ok n ≡ (character_ok (get_or n 0 0) && characters_ok (name_of (drop 1 n)))
first [] h = absurd (omega arith)
first (c ∷ cs) h = name-more c cs

pub good_more : (n : List ℕ) (i : ℕ) → i < length n → GoodTo n i → character_ok (get_or n i 0) ≡ true → GoodTo n (i + 1)
good_more n zero h good e _ = first n h ∙ rw e
good_more n (suc i) h good e _ = good (omega arith) ∙ characters_at n (suc i) h ∙ rw (no_zero_lem (get_or n (suc i) 0) e, e)

or_none : (a : Bool) → (a || false) ≡ a
or_none true = refl
or_none false = refl

pub good-stop : (n : List ℕ) (i : ℕ) → i < length n → GoodTo n i → character_ok (get_or n i 0) ≡ false
    → (ltb 0 i && eqb (get_or n i 0) 0) ≡ name_ok n
good-stop n zero h good e = sym (first n h ∙ rw e)
good-stop n (suc i) h good e =
    rw (lt-ltb 0 (suc i) (omega arith)) (sym (good (omega arith) ∙ characters_at n (suc i) h ∙ rw e (or_none (eqb (get_or n (suc i) 0) 0))))

pub good-all : (n : List ℕ) → GoodTo n (length n) → 0 < length n → true ≡ name_ok n
good-all n good h = sym (good h ∙ rw (drop-length n))
