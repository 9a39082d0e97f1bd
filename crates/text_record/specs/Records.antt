-- The five records of a text map (02, W-206; document 002, "Standardized Fields"), fields in the document's order: of a
-- block whose values stand at `places`, each field by its name. `defaults` has the default of each row of the kind.
-- Assumes nothing.
use Rattle.std.specs.Prelude.{ℕ, Bool, unwrap_or, List, ℤ, pos, Float, length}
use Prim.Native.String.{String}
use Rattle.text_table.specs.declared.field.Fallback.{Fallback}
use Rattle.text_table.specs.declared.scope.Scope.{Scope}
use Rattle.text_table.specs.declared.scope.Scope.TheVariants.{Vertex, Linedef, Sidedef, Sector, Thing}
use Rattle.text_table.specs.Table.{bytes, fields_of}
use Rattle.text_table.specs.Names.{field_named}
use Rattle.text_record.specs.declared.given.Places.{Places}
use Rattle.text_record.specs.Fields.{whole_field, decimal_field, string_field, flag_field}
use Rattle.text_record.specs.declared.TextVertex.{TextVertex}
use Rattle.text_record.specs.declared.TextLinedef.{TextLinedef}
use Rattle.text_record.specs.declared.TextSidedef.{TextSidedef}
use Rattle.text_record.specs.declared.TextSector.{TextSector}
use Rattle.text_record.specs.declared.TextThing.{TextThing}

-- the row of a field, found by its name as a text's own words are; behind the last row for a name that the kind does not have
abbrev pub row_of : Scope → String → ℕ
row_of kind name = unwrap_or (field_named kind (bytes name)) (length (fields_of kind))

abbrev pub text_vertex_of : List ℕ → List ℕ → TextVertex
text_vertex_of text places =
    let decimal : String → Float = λ name. decimal_field text places (row_of Vertex name) in
    record {
      x = decimal "x";
      y = decimal "y";
    }

-- a linedef, whose id is `id` by default
abbrev pub text_linedef_of : List ℕ → List ℕ → (ℕ → Fallback) → ℤ → TextLinedef
text_linedef_of text places defaults id =
    let whole : String → ℤ = λ name. whole_field text places defaults id (row_of Linedef name) in
    let flag : String → Bool = λ name. flag_field text places (row_of Linedef name) in
    let string : String → Places = λ name. string_field text places (row_of Linedef name) in
    record {
      id = whole "id";
      v1 = whole "v1";
      v2 = whole "v2";
      blocking = flag "blocking";
      blockmonsters = flag "blockmonsters";
      twosided = flag "twosided";
      dontpegtop = flag "dontpegtop";
      dontpegbottom = flag "dontpegbottom";
      secret = flag "secret";
      blocksound = flag "blocksound";
      dontdraw = flag "dontdraw";
      mapped = flag "mapped";
      passuse = flag "passuse";
      translucent = flag "translucent";
      jumpover = flag "jumpover";
      blockfloaters = flag "blockfloaters";
      playercross = flag "playercross";
      playeruse = flag "playeruse";
      monstercross = flag "monstercross";
      monsteruse = flag "monsteruse";
      impact = flag "impact";
      playerpush = flag "playerpush";
      monsterpush = flag "monsterpush";
      missilecross = flag "missilecross";
      repeatspecial = flag "repeatspecial";
      special = whole "special";
      arg0 = whole "arg0";
      arg1 = whole "arg1";
      arg2 = whole "arg2";
      arg3 = whole "arg3";
      arg4 = whole "arg4";
      sidefront = whole "sidefront";
      sideback = whole "sideback";
      comment = string "comment";
    }

abbrev pub text_sidedef_of : List ℕ → List ℕ → (ℕ → Fallback) → TextSidedef
text_sidedef_of text places defaults =
    let whole : String → ℤ = λ name. whole_field text places defaults (pos 0) (row_of Sidedef name) in
    let string : String → Places = λ name. string_field text places (row_of Sidedef name) in
    record {
      offsetx = whole "offsetx";
      offsety = whole "offsety";
      texturetop = string "texturetop";
      texturebottom = string "texturebottom";
      texturemiddle = string "texturemiddle";
      sector = whole "sector";
      comment = string "comment";
    }

abbrev pub text_sector_of : List ℕ → List ℕ → (ℕ → Fallback) → TextSector
text_sector_of text places defaults =
    let whole : String → ℤ = λ name. whole_field text places defaults (pos 0) (row_of Sector name) in
    let string : String → Places = λ name. string_field text places (row_of Sector name) in
    record {
      heightfloor = whole "heightfloor";
      heightceiling = whole "heightceiling";
      texturefloor = string "texturefloor";
      textureceiling = string "textureceiling";
      lightlevel = whole "lightlevel";
      special = whole "special";
      id = whole "id";
      comment = string "comment";
    }

-- a thing; `kind` is the field `type`, a word of the language
abbrev pub text_thing_of : List ℕ → List ℕ → (ℕ → Fallback) → TextThing
text_thing_of text places defaults =
    let whole : String → ℤ = λ name. whole_field text places defaults (pos 0) (row_of Thing name) in
    let decimal : String → Float = λ name. decimal_field text places (row_of Thing name) in
    let flag : String → Bool = λ name. flag_field text places (row_of Thing name) in
    let string : String → Places = λ name. string_field text places (row_of Thing name) in
    record {
      id = whole "id";
      x = decimal "x";
      y = decimal "y";
      height = decimal "height";
      angle = whole "angle";
      kind = whole "type";
      skill1 = flag "skill1";
      skill2 = flag "skill2";
      skill3 = flag "skill3";
      skill4 = flag "skill4";
      skill5 = flag "skill5";
      ambush = flag "ambush";
      single = flag "single";
      dm = flag "dm";
      coop = flag "coop";
      friend = flag "friend";
      dormant = flag "dormant";
      class1 = flag "class1";
      class2 = flag "class2";
      class3 = flag "class3";
      standing = flag "standing";
      strifeally = flag "strifeally";
      translucent = flag "translucent";
      invisible = flag "invisible";
      special = whole "special";
      arg0 = whole "arg0";
      arg1 = whole "arg1";
      arg2 = whole "arg2";
      arg3 = whole "arg3";
      arg4 = whole "arg4";
      comment = string "comment";
    }
