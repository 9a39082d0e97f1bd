-- The number of a kind. Assumes nothing.
use Prim.Native.Nat.{◌≤◌}
use native.Mathlib.Omega.{arith}
use Rattle.text_table.specs.declared.scope.Scope.{Scope}
use Rattle.text_table.specs.declared.scope.Scope.TheVariants.{Top, Vertex, Linedef, Sidedef, Sector, Thing, Unknown}
use Rattle.text_table.specs.Scopes.{scope_number}

pub scope_number-small : (kind : Scope) → scope_number kind ≤ 6
scope_number-small Top = omega arith
scope_number-small Vertex = omega arith
scope_number-small Linedef = omega arith
scope_number-small Sidedef = omega arith
scope_number-small Sector = omega arith
scope_number-small Thing = omega arith
scope_number-small Unknown = omega arith
