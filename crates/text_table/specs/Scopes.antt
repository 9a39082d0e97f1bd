-- Where a name stands in a text map (02, W-206): outside of blocks, or in a block of a kind. Assumes nothing.
use Rattle.std.specs.Prelude.{ℕ, cond, Option, Some, None, eqb}
use Rattle.text_table.specs.declared.scope.Scope.{Scope}
use Rattle.text_table.specs.declared.scope.Scope.TheVariants.{Top, Vertex, Linedef, Sidedef, Sector, Thing, Unknown}

-- a kind's number: 1 to 5, 0 for the top and 6 for a block of another name
abbrev pub scope_number : Scope → ℕ
scope_number Top = 0
scope_number Vertex = 1
scope_number Linedef = 2
scope_number Sidedef = 3
scope_number Sector = 4
scope_number Thing = 5
scope_number Unknown = 6

-- the kind of a place among the names of kinds, counted from 0
abbrev pub scope_of : Option ℕ → Scope
scope_of None = Unknown
scope_of (Some n) =
    cond (eqb n 0) Vertex (cond (eqb n 1) Linedef (cond (eqb n 2) Sidedef (cond (eqb n 3) Sector (cond (eqb n 4) Thing Unknown))))
