-- A field of a record or of a lump, with the range that 01 allows there, and the first of a row of fields that is out
-- of its range (W-211). A range whose least is above its most is empty. Assumes nothing.
use Rattle.std.specs.Prelude.{ℕ, ◌≤◌, ◌<◌, Bool, true, false, ◌&&◌, cond, List, [], ◌∷◌, ◌++◌, ◌≡◌, leb, length, drop, ⊤, Result, Ok, Err}
use Rattle.std.specs.Result.{result_and}
use Rattle.endian.specs.Unsigned.{u16_at, u32_at, put_u32}
use Rattle.reason_range.specs.declared.Field.{Field}

-- the number of two bytes at `at`, where `least` to `most` is allowed
abbrev pub field_at : List ℕ → ℕ → ℕ → ℕ → Field
field_at bytes at least most = record { offset = at; number = u16_at bytes at; least = least; most = most }

abbrev pub in_range : Field → Bool
in_range f = leb f.least f.number && leb f.number f.most

-- all of a row are in their ranges
unfoldable pub all_in : List Field → Bool
all_in [] = true
all_in (f ∷ fs) = in_range f && all_in fs

-- what is named where no field is out of its range
abbrev pub no_field : Field
no_field = record { offset = 0; number = 0; least = 0; most = 0 }

-- `f` where it is out of its range, else `g`
abbrev pub first_of : Field → Field → Field
first_of f g = cond (in_range f) g f

-- the first of a row that is out of its range
unfoldable pub first_out : List Field → Field
first_out [] = no_field
first_out (f ∷ fs) = first_of f (first_out fs)

-- refused with the field itself, unless it is in its range
abbrev pub field_check : Field → Result ⊤ Field
field_check f = cond (in_range f) (Ok tt) (Err f)

-- the fields of a row in turn
abbrev pub fields_check : List Field → Result ⊤ Field
fields_check [] = Ok tt
fields_check (f ∷ fs) = result_and (field_check f) (fields_check fs)

-- the field that a check names
abbrev pub named_by : Result ⊤ Field → Field
named_by (Ok _) = no_field
named_by (Err f) = f

-- `f` stands in the row `fs`, out of its range, and every field before it is in its range
pub record FirstOut (fs : List Field) (f : Field) : Type 0 where
  pub before : List Field
  pub after : List Field
  pub stands : fs ≡ before ++ (f ∷ after)
  pub good : all_in before ≡ true
  pub out : in_range f ≡ false

-- each of its numbers fits 32 bits
pub record FieldFits (f : Field) : Type 0 where
  pub offset : f.offset < 4294967296
  pub number : f.number < 4294967296
  pub least : f.least < 4294967296
  pub most : f.most < 4294967296

-- `out` with offset, number, least and most in its first 16 bytes
abbrev pub put_field : List ℕ → Field → List ℕ
put_field out f = put_u32 (put_u32 (put_u32 (put_u32 out 0 f.offset) 4 f.number) 8 f.least) 12 f.most

-- what `left` is after `f` was written into the front of `out`: it says the four numbers, and the rest is as found
pub record FieldSaid (out : List ℕ) (f : Field) (left : List ℕ) : Type 0 where
  pub offset : u32_at left 0 ≡ f.offset
  pub number : u32_at left 4 ≡ f.number
  pub least : u32_at left 8 ≡ f.least
  pub most : u32_at left 12 ≡ f.most
  pub rest : drop 16 left ≡ drop 16 out
  pub long : length left ≡ length out

-- this holds if there is room
abbrev pub FieldsSaid : Type 0
FieldsSaid = (out : List ℕ) (f : Field) → 16 ≤ length out → FieldSaid out f (put_field out f)
