-- A lump that is refused is refused for one of its records, whose test fails: that is where its field is looked for. Assumes nothing.
use Prim.Native.Nat.{ℕ, zero, suc, ◌<◌}
use mathlib.Core.Bool.{Bool, true, false}
use mathlib.Core.Path.{◌≡◌, refl, sym, ◌∙◌}
use native.Mathlib.Omega.{arith}
use Rattle.refusal.specs.declared.Refusal.{Refusal}
use Rattle.refusal.specs.Checks.{Check}
use Rattle.std.specs.Prelude.{Ok, Err}
use Rattle.refusal.specs.Checks.{unless, ◌and_then◌, each}

-- of `n` records, each with its test and its refusal, record `index` is the one that is refused
pub record RefusedAt (ok : ℕ → Bool) (kind : ℕ → Refusal) (n : ℕ) (r : Refusal) : Type 0 where
  pub index : ℕ
  pub inside : index < n
  pub bad : ok index ≡ false
  pub named : ◌≡◌ {A = Check} (Err r) (Err (kind index))

module _ (ok : ℕ → Bool) (kind : ℕ → Refusal) where
  abbrev test : ℕ → Check
  test i = unless (ok i) (kind i)

  at_last : (n : ℕ) (b : Bool) (r : Refusal) → ok n ≡ b → unless b (kind n) ≡ Err r → RefusedAt ok kind (suc n) r
  at_last n true r q e = let z : ◌≡◌ {A = ℕ} 0 1 = cc in absurd (omega arith)
  at_last n false r q e = record { index = n; inside = omega arith; bad = q; named = sym e }

  one_more_lem : (n : ℕ) (r : Refusal) (x : Check) → each test n ≡ x → (each test n ≡ Err r → RefusedAt ok kind n r)
      → (x and_then test n) ≡ Err r → RefusedAt ok kind (suc n) r
  one_more_lem n r (Ok _) q before e = at_last n (ok n) r refl e
  one_more_lem n r (Err s) q before e =
      let p = before (q ∙ e) in
      let h = p.inside in
      record { index = p.index; inside = omega arith; bad = p.bad; named = p.named }

  pub refused_at : (n : ℕ) (r : Refusal) → each test n ≡ Err r → RefusedAt ok kind n r
  unfolding each
  refused_at zero r e = let z : ◌≡◌ {A = ℕ} 0 1 = cc in absurd (omega arith)
  refused_at (suc n) r e = one_more_lem n r (each test n) refl (refused_at n r) e
