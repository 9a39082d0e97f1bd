-- The names of a text map (02, W-206; document 002, "Standardized Fields" and its last note): the kinds of block, the
-- global name, and the fields of each kind in the document's order, each with what it holds and what it is where no
-- value is given. Assumes nothing.
use Rattle.std.specs.Prelude.{ℕ, Bool, true, false, cond, Option, Some, None, List, [], ◌∷◌, ltb, length, get_or}
use Prim.Native.Char.{code}
use Prim.Native.String.{String, [] as []ˢ, ◌∷◌ as ◌∷ˢ◌}
use Rattle.text_table.specs.declared.field.Holds.{Holds}
use Rattle.text_table.specs.declared.field.Holds.TheVariants.{Whole, Decimal, String as StringHeld, Flag}
use Rattle.text_table.specs.declared.field.Fallback.{Fallback}
use Rattle.text_table.specs.declared.field.Fallback.TheVariants.{Required, Zero, MinusOne, Light, ByNamespace}
use Rattle.text_table.specs.declared.scope.Scope.{Scope}
use Rattle.text_table.specs.declared.scope.Scope.TheVariants.{Top, Vertex, Linedef, Sidedef, Sector, Thing, Unknown}

-- the bytes of a text of ASCII
abbrev pub bytes : String → List ℕ
bytes []ˢ = []
bytes (c ∷ˢ s) = code c ∷ bytes s

-- what a field holds
abbrev pub whole : Holds
whole = Whole

abbrev pub decimal : Holds
decimal = Decimal

abbrev pub string : Holds
string = StringHeld

abbrev pub flag : Holds
flag = Flag

-- what a field holds, as a number
abbrev pub holds_number : Holds → ℕ
holds_number Whole = 0
holds_number Decimal = 1
holds_number StringHeld = 2
holds_number Flag = 3

-- what a field is where no value is given: nothing, so that one must be given; 0, false or no string; -1; 160; 0 or -1
-- by the namespace
abbrev pub required : Fallback
required = Required

abbrev pub zero_value : Fallback
zero_value = Zero

abbrev pub minus_one : Fallback
minus_one = MinusOne

abbrev pub light : Fallback
light = Light

abbrev pub by_namespace : Fallback
by_namespace = ByNamespace

-- a row: the bytes of a name, what it holds, and what it is by default
pub record Row : Type 0 where
  pub name : List ℕ
  pub holds : Holds
  pub default : Fallback

abbrev pub row : String → Holds → Fallback → Row
row name holds default = record { name = bytes name; holds = holds; default = default }

-- the kinds of block
unfoldable pub kind_names : List (List ℕ)
kind_names =
    bytes "vertex"
    ∷ bytes "linedef"
    ∷ bytes "sidedef"
    ∷ bytes "sector"
    ∷ bytes "thing"
    ∷ []

-- the one global name
unfoldable pub global_names : List Row
global_names =
    row "namespace" string zero_value
    ∷ []

-- the fields of a vertex
unfoldable pub vertex_fields : List Row
vertex_fields =
    row "x" decimal required
    ∷ row "y" decimal required
    ∷ []

-- of a linedef
unfoldable pub linedef_fields : List Row
linedef_fields =
    row "id" whole by_namespace
    ∷ row "v1" whole required
    ∷ row "v2" whole required
    ∷ row "blocking" flag zero_value
    ∷ row "blockmonsters" flag zero_value
    ∷ row "twosided" flag zero_value
    ∷ row "dontpegtop" flag zero_value
    ∷ row "dontpegbottom" flag zero_value
    ∷ row "secret" flag zero_value
    ∷ row "blocksound" flag zero_value
    ∷ row "dontdraw" flag zero_value
    ∷ row "mapped" flag zero_value
    ∷ row "passuse" flag zero_value
    ∷ row "translucent" flag zero_value
    ∷ row "jumpover" flag zero_value
    ∷ row "blockfloaters" flag zero_value
    ∷ row "playercross" flag zero_value
    ∷ row "playeruse" flag zero_value
    ∷ row "monstercross" flag zero_value
    ∷ row "monsteruse" flag zero_value
    ∷ row "impact" flag zero_value
    ∷ row "playerpush" flag zero_value
    ∷ row "monsterpush" flag zero_value
    ∷ row "missilecross" flag zero_value
    ∷ row "repeatspecial" flag zero_value
    ∷ row "special" whole zero_value
    ∷ row "arg0" whole zero_value
    ∷ row "arg1" whole zero_value
    ∷ row "arg2" whole zero_value
    ∷ row "arg3" whole zero_value
    ∷ row "arg4" whole zero_value
    ∷ row "sidefront" whole required
    ∷ row "sideback" whole minus_one
    ∷ row "comment" string zero_value
    ∷ []

-- of a sidedef
unfoldable pub sidedef_fields : List Row
sidedef_fields =
    row "offsetx" whole zero_value
    ∷ row "offsety" whole zero_value
    ∷ row "texturetop" string zero_value
    ∷ row "texturebottom" string zero_value
    ∷ row "texturemiddle" string zero_value
    ∷ row "sector" whole required
    ∷ row "comment" string zero_value
    ∷ []

-- of a sector
unfoldable pub sector_fields : List Row
sector_fields =
    row "heightfloor" whole zero_value
    ∷ row "heightceiling" whole zero_value
    ∷ row "texturefloor" string required
    ∷ row "textureceiling" string required
    ∷ row "lightlevel" whole light
    ∷ row "special" whole zero_value
    ∷ row "id" whole zero_value
    ∷ row "comment" string zero_value
    ∷ []

-- of a thing
unfoldable pub thing_fields : List Row
thing_fields =
    row "id" whole zero_value
    ∷ row "x" decimal required
    ∷ row "y" decimal required
    ∷ row "height" decimal zero_value
    ∷ row "angle" whole zero_value
    ∷ row "type" whole required
    ∷ row "skill1" flag zero_value
    ∷ row "skill2" flag zero_value
    ∷ row "skill3" flag zero_value
    ∷ row "skill4" flag zero_value
    ∷ row "skill5" flag zero_value
    ∷ row "ambush" flag zero_value
    ∷ row "single" flag zero_value
    ∷ row "dm" flag zero_value
    ∷ row "coop" flag zero_value
    ∷ row "friend" flag zero_value
    ∷ row "dormant" flag zero_value
    ∷ row "class1" flag zero_value
    ∷ row "class2" flag zero_value
    ∷ row "class3" flag zero_value
    ∷ row "standing" flag zero_value
    ∷ row "strifeally" flag zero_value
    ∷ row "translucent" flag zero_value
    ∷ row "invisible" flag zero_value
    ∷ row "special" whole zero_value
    ∷ row "arg0" whole zero_value
    ∷ row "arg1" whole zero_value
    ∷ row "arg2" whole zero_value
    ∷ row "arg3" whole zero_value
    ∷ row "arg4" whole zero_value
    ∷ row "comment" string zero_value
    ∷ []

-- the namespaces whose linedefs have id 0 by default
unfoldable pub zero_id_names : List (List ℕ)
zero_id_names =
    bytes "Doom"
    ∷ bytes "Heretic"
    ∷ bytes "Strife"
    ∷ []

-- the names of a scope: at the top the global name, in a block the fields of its kind
abbrev pub fields_of : Scope → List Row
fields_of Top = global_names
fields_of Vertex = vertex_fields
fields_of Linedef = linedef_fields
fields_of Sidedef = sidedef_fields
fields_of Sector = sector_fields
fields_of Thing = thing_fields
fields_of Unknown = []

-- past the last row
abbrev pub no_row : Row
no_row = record { name = []; holds = Whole; default = Zero }

-- what the field of row `i` holds, nothing past the last
abbrev pub holds_of : List Row → ℕ → Option Holds
holds_of rows i = cond (ltb i (length rows)) (Some (get_or rows i no_row).holds) None

-- what it is by default, 0 past the last
abbrev pub default_of : List Row → ℕ → Fallback
default_of rows i = (get_or rows i no_row).default

-- a field without default
abbrev pub is_none : Fallback → Bool
is_none Required = true
is_none Zero = false
is_none MinusOne = false
is_none Light = false
is_none ByNamespace = false

-- the field of row `i` has no default
abbrev pub is_required : List Row → ℕ → Bool
is_required rows i = is_none (default_of rows i)
