-- The blocks of a text map (02, W-206): how many of a kind there are, which one is asked for, and the places of their fields' values.
-- Assumes nothing.
use Rattle.std.specs.Prelude.{ℕ, ◌+◌, Bool, true, false, not, ◌&&◌, cond, Option, Some, None, List, eqb, leb, length, get_or, set, replicate}
use Rattle.text_token.specs.declared.Token.{Token}
use Rattle.text_token.specs.Tokens.{form_of}
use Rattle.text_byte.specs.Bytes.{semicolon, open_brace}
use Rattle.text_table.specs.declared.scope.Scope.{Scope}
use Rattle.text_table.specs.declared.scope.Scope.TheVariants.{Top, Vertex, Linedef, Sidedef, Sector, Thing, Unknown}
use Rattle.text_table.specs.Table.{fields_of, is_required}
use Rattle.text_table.specs.Scopes.{scope_number}
use Rattle.text_table.specs.Names.{every}
use Rattle.text_block.specs.declared.Counts.{Counts}
use Rattle.text_block.specs.declared.Asked.{Asked}
use Rattle.text_block.specs.declared.Asked.TheVariants.{Nothing, Numbered, First, Opening}
use Rattle.text_block.specs.declared.Wanted.{Wanted}
use Rattle.text_block.specs.declared.Wanted.TheVariants.{Statement, Equals, Value, Semicolon, NoMore}

-- how many blocks of each kind
abbrev pub counts : ℕ → ℕ → ℕ → ℕ → ℕ → Counts
counts vertices linedefs sidedefs sectors things =
    record { vertices = vertices; linedefs = linedefs; sidedefs = sidedefs; sectors = sectors; things = things }

-- how many of a kind; none of another name is counted
abbrev pub count_of : Counts → Scope → ℕ
count_of c Top = 0
count_of c Vertex = c.vertices
count_of c Linedef = c.linedefs
count_of c Sidedef = c.sidedefs
count_of c Sector = c.sectors
count_of c Thing = c.things
count_of c Unknown = 0

-- one more of a kind
abbrev pub counted : Counts → Scope → Counts
counted c Top = c
counted c Vertex = counts (c.vertices + 1) c.linedefs c.sidedefs c.sectors c.things
counted c Linedef = counts c.vertices (c.linedefs + 1) c.sidedefs c.sectors c.things
counted c Sidedef = counts c.vertices c.linedefs (c.sidedefs + 1) c.sectors c.things
counted c Sector = counts c.vertices c.linedefs c.sidedefs (c.sectors + 1) c.things
counted c Thing = counts c.vertices c.linedefs c.sidedefs c.sectors (c.things + 1)
counted c Unknown = c

-- the most blocks of a kind
abbrev pub most_blocks : ℕ
most_blocks = 65535

-- one more of a kind would be too many
abbrev pub is_full : Counts → Scope → Bool
is_full c kind = leb most_blocks (count_of c kind)

-- a block of a kind, with so many of its kind before it, is the one that is asked for
abbrev pub is_asked : Asked → Scope → ℕ → Bool
is_asked Nothing kind before = false
is_asked (Numbered asked number) kind before = eqb (scope_number asked) (scope_number kind) && eqb before number
is_asked (First asked) kind before = eqb (scope_number asked) (scope_number kind)
is_asked Opening kind before = false

-- nothing more is read behind it
abbrev pub stops_there : Asked → Bool
stops_there Nothing = false
stops_there (Numbered asked number) = false
stops_there (First asked) = true
stops_there Opening = false

-- a block of any known kind is asked for, and nothing behind its opening brace
abbrev pub stops_inside : Asked → Scope → Bool
stops_inside Nothing kind = false
stops_inside (Numbered asked number) kind = false
stops_inside (First asked) kind = false
stops_inside Opening kind = not (eqb (scope_number kind) 6)

-- the most fields of a kind
abbrev pub field_room : ℕ
field_room = 34

-- no field has a value yet
abbrev pub no_places : List ℕ
no_places = replicate field_room 0

-- a value at a place for a field; that of an unknown field is passed over
abbrev pub stored : List ℕ → Option ℕ → ℕ → List ℕ
stored places None place = places
stored places (Some i) place = set places i place

-- of each field of the open block the place of its last value, 0 where it has none, behind one more token
abbrev pub filed : Wanted → Token → List ℕ → List ℕ
filed Statement t places = places
filed (Equals start end) t places = cond (eqb (form_of t) open_brace) no_places places
filed (Value field) t places = places
filed (Semicolon field place) t places = cond (eqb (form_of t) semicolon) (stored places field place) places
filed NoMore t places = places

-- field `k` has a value, or need not have one
abbrev pub is_given : (ℕ → Bool) → List ℕ → ℕ → Bool
is_given required places k = not (required k && eqb (get_or places k 0) 0)

-- all fields of a kind: each has a value, or a default
abbrev pub all_given : Scope → List ℕ → Bool
all_given kind places = every (is_given (is_required (fields_of kind)) places) (length (fields_of kind))
