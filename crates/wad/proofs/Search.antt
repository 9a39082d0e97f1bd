-- Laws of the search for a marker from the end: one entry at a time. Assumes nothing.
use Prim.Native.Nat.{ℕ, suc}
use mathlib.Core.Bool.{Bool, true, false, cond}
use mathlib.Core.List.{List}
use mathlib.Core.Path.{◌≡◌, refl, sym, ap, ◌∙◌}
use Rattle.refusal.specs.declared.Refusal.TheVariants.{EntryMissing}
use Rattle.std.specs.Prelude.{Ok, Err}
use Rattle.wad.specs.Entries.{entry_name}
use Rattle.name.specs.Names.{same_name}
use Rattle.wad.specs.Map.{find_marker}

module _ (dir name : List ℕ) where
  -- entry `n` has the name
  pub find_marker-found : (n k : ℕ) {b : Bool} → k ≡ suc n → b ≡ same_name (entry_name dir n) name → b ≡ true → find_marker dir name k ≡ Ok n
  unfolding find_marker
  find_marker-found n k e q t =
      ap (find_marker dir name) e ∙ ap (λ (x : Bool). cond x (Ok n) (find_marker dir name n)) (sym q ∙ t)

  -- it has not: the search goes on before it
  pub find_marker_on : (n k : ℕ) {b : Bool} → k ≡ suc n → b ≡ same_name (entry_name dir n) name → b ≡ false
      → find_marker dir name k ≡ find_marker dir name n
  unfolding find_marker
  find_marker_on n k e q t =
      ap (find_marker dir name) e ∙ ap (λ (x : Bool). cond x (Ok n) (find_marker dir name n)) (sym q ∙ t)

  pub find_marker-none : find_marker dir name 0 ≡ Err EntryMissing
  unfolding find_marker
  find_marker-none = refl
