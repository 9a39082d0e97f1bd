-- A word in any case of its letters, against a name in small letters. Assumes nothing.
use Rattle.std.proofs.Common.{◌≡◌, ℕ, zero, suc, ◌<◌, List, [], ◌∷◌, length, get_or, map, refl, sym, ap, ◌∙◌, arith, Bool, true, false, ◌&&◌, eqb, ◌↔◌}
use mathlib.Core.Bool.{and-eq-true_iff}
use borrow.Author.Tests.{eqb-true, eq-eqb}
use Rattle.std.specs.Char.{to_ascii_lowercase}
use Rattle.std.proofs.lemmas.Grind.{common_steps}
use Rattle.std.proofs.lemmas.List.{ext_get_or, get_or-map, length-map}
use Rattle.text_byte.specs.Bytes.{lower, lower_at}

pub lower-same : (b : ℕ) → to_ascii_lowercase b ≡ lower b
lower-same b = grind (arith, common_steps)

-- the word is the name, letter by letter
pub record Same (word name : List ℕ) : Type 0 where
  pub long : length word ≡ length name
  pub letters : (k : ℕ) → k < length word → lower_at word k ≡ get_or name k 0

module _ (word name : List ℕ) (small : map to_ascii_lowercase name ≡ name) where
  letter : (k : ℕ) → k < length word → get_or (map to_ascii_lowercase word) k 0 ≡ lower_at word k
  letter k h = get_or-map to_ascii_lowercase word k 0 0 h ∙ lower-same (get_or word k 0)

  pub tells : map to_ascii_lowercase word ≡ map to_ascii_lowercase name → Same word name
  tells e =
      let same : map to_ascii_lowercase word ≡ name = e ∙ small in
      record {
        long = sym (length-map word to_ascii_lowercase) ∙ ap length same;
        letters = λ k h. sym (letter k h) ∙ ap (λ (xs : List ℕ). get_or xs k 0) same;
      }

  pub told : Same word name → map to_ascii_lowercase word ≡ map to_ascii_lowercase name
  told s =
      let n = length-map word to_ascii_lowercase in
      ext_get_or 0 (map to_ascii_lowercase word) name (n ∙ s.long)
      (λ k h. let l : k < length word = omega (arith, h, n) in letter k l ∙ s.letters k l) ∙ sym small

  -- a test that says the same of the letters
  pub as-named : {r b : Bool} → ((r ≡ true) ↔ (map to_ascii_lowercase word ≡ map to_ascii_lowercase name)) → (Same word name → b ≡ true) → (b ≡ true → Same word name)
      → r ≡ b
  as-named {r} {b} e f g = by r refl b refl
    where
      by : (x : Bool) → r ≡ x → (y : Bool) → b ≡ y → x ≡ y
      by true p true q = refl
      by true p false q = sym (f (tells (e.0 p))) ∙ q
      by false p true q = sym p ∙ e.1 (told (g q))
      by false p false q = refl

-- a test of one letter after the other
abbrev pub spelled : List ℕ → (ℕ → ℕ) → Bool
spelled [] f = true
spelled (c ∷ cs) f = eqb (f 0) c && spelled cs (λ k. f (suc k))

pub spelled-letters : (name : List ℕ) (f : ℕ → ℕ) → spelled name f ≡ true → (k : ℕ) → k < length name → f k ≡ get_or name k 0
spelled-letters [] f e k h = absurd (omega (arith, h))
spelled-letters (c ∷ cs) f e zero h = eqb-true (f 0) c ((and-eq-true_iff (eqb (f 0) c) (spelled cs (λ k. f (suc k)))).0 e).0
spelled-letters (c ∷ cs) f e (suc k) h =
    spelled-letters cs (λ k. f (suc k)) ((and-eq-true_iff (eqb (f 0) c) (spelled cs (λ k. f (suc k)))).0 e).1 k (omega (arith, h))

pub letters-spelled : (name : List ℕ) (f : ℕ → ℕ) → ((k : ℕ) → k < length name → f k ≡ get_or name k 0) → spelled name f ≡ true
letters-spelled [] f h = refl
letters-spelled (c ∷ cs) f h =
    λ i. eq-eqb (f 0) c (h 0 (omega arith)) i && letters-spelled cs (λ k. f (suc k)) (λ k l. h (suc k) (omega (arith, l))) i

-- a word of a name's length that is spelled so
pub same-spelled : (word name : List ℕ) → Same word name → (eqb (length word) (length name) && spelled name (lower_at word)) ≡ true
same-spelled word name s =
    let l = s.long in
    λ i. eq-eqb (length word) (length name) l i && letters-spelled name (lower_at word) (λ k h. s.letters k (omega (arith, h, l))) i

pub spelled-same : (word name : List ℕ) → (eqb (length word) (length name) && spelled name (lower_at word)) ≡ true → Same word name
spelled-same word name e =
    let p = (and-eq-true_iff (eqb (length word) (length name)) (spelled name (lower_at word))).0 e in
    let l = eqb-true (length word) (length name) p.0 in
    record { long = l; letters = λ k h. spelled-letters name (lower_at word) p.1 k (omega (arith, h, l)) }
