-- A record of LINEDEFS: fields by document 004's two tables, Doom's and Hexen's (01, "One map"; W-205). Where 004 has the two
-- sidedefs signed and -1 for none, 01 reads them unsigned and 65,535 is none. Assumes nothing.
use Rattle.std.specs.Prelude.{ℕ, ◌%◌, Bool, true, false, ◌&&◌, cond, List, ◌++◌, ◌≡◌, leb, eqb, get_or, replicate, Result}
use Rattle.endian.specs.Unsigned.{u16_at, u16_bytes}
use Rattle.refusal.specs.declared.Refusal.{Refusal}
use Rattle.record_field.specs.Fields.{args_at, no_args, args_zero, action_bytes, Args}
use Rattle.record_field.specs.Records.{record_at}
use Rattle.record_linedef.specs.declared.Linedef.{Linedef}

-- a record's bytes by its game, and the place of its lump
abbrev pub linedef_size : Bool → ℕ
linedef_size hexen = cond hexen 16 14

abbrev pub linedef_place : ℕ
linedef_place = 2

-- where its right and its left sidedef stand, by its game
abbrev pub right_offset : Bool → ℕ
right_offset hexen = cond hexen 12 10

abbrev pub left_offset : Bool → ℕ
left_offset hexen = cond hexen 14 12

-- as a sidedef's number: none
abbrev pub no_sidedef : ℕ
no_sidedef = 65535

-- the fields of a record's bytes, by its game: Doom has no arguments, Hexen has no tag and a byte of special
abbrev pub linedef_of : Bool → List ℕ → Linedef
linedef_of hexen bytes =
    record {
      hexen = hexen;
      start = u16_at bytes 0;
      end = u16_at bytes 2;
      flags = u16_at bytes 4;
      special = cond hexen (get_or bytes 6 0) (u16_at bytes 6);
      tag = cond hexen 0 (u16_at bytes 8);
      args = cond hexen (args_at bytes 7) no_args;
      right = u16_at bytes (right_offset hexen);
      left = u16_at bytes (left_offset hexen);
    }

-- what the record's game lacks is 0, and Hexen's special is a byte
abbrev pub linedef_fields_ok : Linedef → Bool
linedef_fields_ok l = cond l.hexen (leb l.special 255 && eqb l.tag 0) (args_zero l.args)

-- the bytes of special, tag and arguments, by the game
abbrev pub special_bytes : Bool → Linedef → List ℕ
special_bytes hexen l = cond hexen (action_bytes (l.special % 256) l.args) (u16_bytes l.special ++ u16_bytes l.tag)

-- the bytes of a record's fields, by the game
abbrev pub linedef_bytes : Bool → Linedef → List ℕ
linedef_bytes hexen l =
    u16_bytes l.start
    ++ u16_bytes l.end
    ++ u16_bytes l.flags
    ++ special_bytes hexen l
    ++ u16_bytes l.right
    ++ u16_bytes l.left

-- a record of the game that a write accepts, with five arguments; it is read back as it was written
pub record LinedefFits (hexen : Bool) (l : Linedef) : Type 0 where
  pub game : l.hexen ≡ hexen
  pub fields : linedef_fields_ok l ≡ true
  pub args : Args l.args

-- record `index` of a lump of the game, or the refusal
abbrev pub linedef_at : Bool → List ℕ → ℕ → Result Linedef Refusal
linedef_at hexen lump index = record_at (linedef_size hexen) (linedef_of hexen) lump index

-- what stands beside a refusal: all 0, the game too
abbrev pub no_linedef : Linedef
no_linedef = linedef_of false (replicate 14 0)
