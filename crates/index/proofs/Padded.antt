-- A name's eight bytes say the name. Assumes nothing.
use Prim.Native.Nat.{ℕ, zero, suc, ◌≤◌}
use mathlib.Core.Bool.{Bool, true, false, cond}
use mathlib.Core.List.{List, [], ◌∷◌, ◌++◌}
use mathlib.Core.Path.{◌≡◌, refl, sym, ap, ◌∙◌}
use native.Mathlib.Nat.{le_of_suc-le-suc}
use native.Mathlib.Omega.{arith}
use lib.Dec.{eqb}
use lib.ListN.{length, take, replicate, length-append}
use lib.Seq.{length-take-le}
use Rattle.name.specs.Names.{name_of, same_bytes, same_name}
use Rattle.name.proofs.Bytes.{same_equal, equal_same}
use Rattle.index.specs.Records.{padded}

pub padded-length : (bytes : List ℕ) → length (padded bytes) ≡ 8
padded-length bytes =
    let e = length-append (name_of bytes) (replicate 8 0) in
    length-take-le 8 (name_of bytes ++ replicate 8 0) (omega arith)

zeros_name : (n m : ℕ) → name_of (take n (replicate m 0)) ≡ []
zeros_name zero m = refl
zeros_name (suc n) zero = refl
zeros_name (suc n) (suc m) = refl

-- the name of its first bytes, if all of it is among them
cut-name : (n m : ℕ) (bytes : List ℕ) → length bytes ≤ n → name_of (take n (name_of bytes ++ replicate m 0)) ≡ name_of bytes
cut-name n m [] h = zeros_name n m
cut-name zero m (c ∷ cs) h = absurd (omega arith)
cut-name (suc n) m (c ∷ cs) h = by (eqb c 0) refl (cut-name n m cs (le_of_suc-le-suc h))
  where
    by : (b : Bool) → eqb c 0 ≡ b → name_of (take n (name_of cs ++ replicate m 0)) ≡ name_of cs
        → name_of (take (suc n) (cond b [] (c ∷ name_of cs) ++ replicate m 0)) ≡ cond b [] (c ∷ name_of cs)
    by true e rest = zeros_name (suc n) m
    by false e rest = rw e (ap (λ (xs : List ℕ). c ∷ xs) rest)

pub padded-name : (bytes : List ℕ) → length bytes ≤ 8 → name_of (padded bytes) ≡ name_of bytes
padded-name bytes h = cut-name 8 8 bytes h

pub padded-same : (a b : List ℕ) → length a ≤ 8 → length b ≤ 8 → padded a ≡ padded b → same_name a b ≡ true
padded-same a b h k e =
    let names : name_of a ≡ name_of b = sym (padded-name a h) ∙ ap name_of e ∙ padded-name b k in
    ap (λ (xs : List ℕ). same_bytes (name_of a) xs) (sym names) ∙ equal_same (name_of a)

pub same-padded : (a b : List ℕ) → same_name a b ≡ true → padded a ≡ padded b
same-padded a b e = ap (λ (xs : List ℕ). take 8 (xs ++ replicate 8 0)) (same_equal (name_of a) (name_of b) e)
