-- Laws of runs of stores, `sets`: one after the other, and in either order where they are apart. None asks for bounds. Assumes
-- nothing.
use Prim.Native.Nat.{ℕ, suc, ◌+◌, ◌≤◌, ◌<◌}
use mathlib.Core.List.{List, [], ◌∷◌, ◌++◌}
use mathlib.Core.Path.{◌≡◌, refl, ap, ◌∙◌}
use native.Mathlib.Omega.{arith}
use lib.ListN.{length, set}
use lib.Seq.{sets, set_comm}

-- the stores of two rows of bytes are those of one behind the other
pub sets_append : (l : List ℕ) (i : ℕ) (vs ws : List ℕ) → sets (sets l i vs) (i + length vs) ws ≡ sets l i (vs ++ ws)
sets_append l i [] ws = let e : i + 0 ≡ i = omega arith in rw e
sets_append l i (a ∷ vs) ws =
    let e : i + suc (length vs) ≡ suc i + length vs = omega arith in
    rw e (sets_append (set l i a) (suc i) vs ws)

-- one byte more
pub sets_push : (l : List ℕ) (i : ℕ) (vs : List ℕ) (b n : ℕ) → n ≡ i + length vs → set (sets l i vs) n b ≡ sets l i (vs ++ (b ∷ []))
sets_push l i vs b n e = rw e (sets_append l i vs (b ∷ []))

set-sets : (l : List ℕ) (i j a : ℕ) (vs : List ℕ) → i < j → sets (set l i a) j vs ≡ set (sets l j vs) i a
set-sets l i j a [] h = refl
set-sets l i j a (b ∷ vs) h =
    ap (λ (x : List ℕ). sets x (suc j) vs) (set_comm l i j a b (λ e. omega arith)) ∙ set-sets (set l j b) i (suc j) a vs (omega arith)

-- stores behind others may come first
pub sets_comm : (l : List ℕ) (i j : ℕ) (vs ws : List ℕ) → i + length vs ≤ j → sets (sets l i vs) j ws ≡ sets (sets l j ws) i vs
sets_comm l i j [] ws h = refl
sets_comm l i j (a ∷ vs) ws h =
    sets_comm (set l i a) (suc i) j vs ws (omega arith)
    ∙ ap (λ (x : List ℕ). sets x (suc i) vs) (set-sets l i j a ws (omega arith))
