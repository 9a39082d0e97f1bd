-- A record of THINGS: fields by document 004's two tables, Doom's and Hexen's (01, "One map"; W-205). An angle of 0 is east.
-- Assumes nothing.
use Rattle.std.specs.Prelude.{ℕ, Bool, true, false, ◌&&◌, ◌||◌, cond, List, ◌++◌, ◌≡◌, eqb, pos, get_or, replicate, Result}
use Rattle.endian.specs.Unsigned.{u16_at, u16_bytes}
use Rattle.endian.specs.Signed.{i16_at, between}
use Rattle.refusal.specs.declared.Refusal.{Refusal}
use Rattle.record_field.specs.Fields.{i16_bytes, args_at, no_args, args_zero, action_bytes, Int16, Args}
use Rattle.record_field.specs.Records.{record_at}
use Rattle.record_thing.specs.declared.Thing.{Thing}

-- a record's bytes by its game, and the place of its lump
abbrev pub thing_size : Bool → ℕ
thing_size hexen = cond hexen 20 10

abbrev pub thing_place : ℕ
thing_place = 1

-- the fields of a Doom record's bytes: id, height, action and arguments are 0
abbrev pub doom_thing : List ℕ → Thing
doom_thing bytes =
    record {
      hexen = false;
      id = pos 0;
      x = i16_at bytes 0;
      y = i16_at bytes 2;
      height = pos 0;
      angle = u16_at bytes 4;
      kind = u16_at bytes 6;
      flags = u16_at bytes 8;
      action = 0;
      args = no_args;
    }

-- of a Hexen record's
abbrev pub hexen_thing : List ℕ → Thing
hexen_thing bytes =
    record {
      hexen = true;
      id = i16_at bytes 0;
      x = i16_at bytes 2;
      y = i16_at bytes 4;
      height = i16_at bytes 6;
      angle = u16_at bytes 8;
      kind = u16_at bytes 10;
      flags = u16_at bytes 12;
      action = get_or bytes 14 0;
      args = args_at bytes 15;
    }

-- of a record's, by its game
abbrev pub thing_of : Bool → List ℕ → Thing
thing_of hexen bytes = cond hexen (hexen_thing bytes) (doom_thing bytes)

-- what the record's game lacks is 0
abbrev pub thing_fields_ok : Thing → Bool
thing_fields_ok t = t.hexen || (between t.id 0 0 && between t.height 0 0 && eqb t.action 0 && args_zero t.args)

-- the bytes of a record's fields in Doom's layout, in Hexen's, and by the game
abbrev pub doom_thing_bytes : Thing → List ℕ
doom_thing_bytes t =
    i16_bytes t.x
    ++ i16_bytes t.y
    ++ u16_bytes t.angle
    ++ u16_bytes t.kind
    ++ u16_bytes t.flags

abbrev pub hexen_thing_bytes : Thing → List ℕ
hexen_thing_bytes t =
    i16_bytes t.id
    ++ i16_bytes t.x
    ++ i16_bytes t.y
    ++ i16_bytes t.height
    ++ u16_bytes t.angle
    ++ u16_bytes t.kind
    ++ u16_bytes t.flags
    ++ action_bytes t.action t.args

abbrev pub thing_bytes : Bool → Thing → List ℕ
thing_bytes hexen t = cond hexen (hexen_thing_bytes t) (doom_thing_bytes t)

-- a record of the game that a write accepts, its fields as wide as they may be; it is read back as it was written
pub record ThingFits (hexen : Bool) (t : Thing) : Type 0 where
  pub game : t.hexen ≡ hexen
  pub fields : thing_fields_ok t ≡ true
  pub id : Int16 t.id
  pub x : Int16 t.x
  pub y : Int16 t.y
  pub height : Int16 t.height
  pub args : Args t.args

-- record `index` of a lump of the game, or the refusal
abbrev pub thing_at : Bool → List ℕ → ℕ → Result Thing Refusal
thing_at hexen lump index = record_at (thing_size hexen) (thing_of hexen) lump index

-- what stands beside a refusal: all 0, the game too
abbrev pub no_thing : Thing
no_thing = thing_of false (replicate 10 0)
