-- A name whose bytes are each 0, as `Default` makes it, is eight zeros. Assumes nothing.
use Rattle.std.proofs.Common.{◌≡◌, ◌∙◌, sym, ℕ, List, [], ◌∷◌, arith}
use Rattle.std.specs.Array.{AllOfLen}
use Rattle.record_field.proofs.FieldRows.{spelt_whole}

pub name-zeros : (xs : List ℕ) → AllOfLen (λ (x : ℕ). x ≡ 0) xs 8 → xs ≡ 0 ∷ 0 ∷ 0 ∷ 0 ∷ 0 ∷ 0 ∷ 0 ∷ 0 ∷ []
name-zeros xs a =
    sym (spelt_whole 0 xs a.long)
    ∙ (λ i. a.at 0 0 (omega arith) i ∷ a.at 1 0 (omega arith) i ∷ a.at 2 0 (omega arith) i ∷ a.at 3 0 (omega arith) i
    ∷ a.at 4 0 (omega arith) i ∷ a.at 5 0 (omega arith) i ∷ a.at 6 0 (omega arith) i ∷ a.at 7 0 (omega arith) i ∷ [])
