-- Steps, one after the other. Assumes nothing.
use Rattle.std.specs.Prelude.{ℕ, zero, suc, Bool, cond}

-- step after step while it goes on, at most `n` of them
unfoldable pub runs : {S : Type 0} → (S → Bool) → (S → S) → ℕ → S → S
runs going step zero s = s
runs going step (suc n) s = cond (going s) (runs going step n (step s)) s
