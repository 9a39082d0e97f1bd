-- A scope is known by its number. Assumes nothing.
use Prim.Native.Nat.{ℕ, ◌-◌}
use Rattle.std.specs.Prelude.{Some}
use mathlib.Core.Path.{◌≡◌, refl, sym, ap, ◌∙◌}
use Rattle.text_table.specs.declared.scope.Scope.{Scope}
use Rattle.text_table.specs.declared.scope.Scope.TheVariants.{Top, Vertex, Linedef, Sidedef, Sector, Thing, Unknown}
use Rattle.text_table.specs.Scopes.{scope_number, scope_of}
use lib.Dec.{eqb}
use mathlib.Core.Bool.{cond}

-- the scope of a number, the top among them
scope_at : ℕ → Scope
scope_at n = cond (eqb n 0) Top (scope_of (Some (n - 1)))

scope-again : (k : Scope) → scope_at (scope_number k) ≡ k
unfolding scope_at
scope-again Top = refl
scope-again Vertex = refl
scope-again Linedef = refl
scope-again Sidedef = refl
scope-again Sector = refl
scope-again Thing = refl
scope-again Unknown = refl

pub number-tells : (a b : Scope) → scope_number a ≡ scope_number b → a ≡ b
number-tells a b e = sym (scope-again a) ∙ ap scope_at e ∙ scope-again b
