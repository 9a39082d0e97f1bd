-- What document 004's tables are made of beside unsigned numbers: signed numbers of two bytes, four of these in a row, names
-- of eight bytes, and actions with their arguments. Assumes nothing.
use Rattle.std.specs.Prelude.{ℕ, ◌+◌, ◌<◌, Bool, ◌&&◌, List, [], ◌∷◌, ◌++◌, ◌≡◌, eqb, ℤ, pos, length, get_or, set}
use Rattle.std.proofs.Math.Seq.{paste}
use Rattle.std.specs.Int.Signed.{mag}
use Rattle.endian.specs.Unsigned.{u16_bytes, put_u16}
use Rattle.endian.specs.Signed.{i16_at, bits_of}

-- the two bytes of a signed number
abbrev pub i16_bytes : ℤ → List ℕ
i16_bytes z = u16_bytes (bits_of 32768 z)

-- the eight bytes of a name at `at`
abbrev pub name_at : List ℕ → ℕ → List ℕ
name_at xs at =
    get_or xs at 0 ∷ get_or xs (at + 1) 0 ∷ get_or xs (at + 2) 0 ∷ get_or xs (at + 3) 0
    ∷ get_or xs (at + 4) 0 ∷ get_or xs (at + 5) 0 ∷ get_or xs (at + 6) 0 ∷ get_or xs (at + 7) 0 ∷ []

-- `z` is -32,768 to 32,767
abbrev pub Int16 : ℤ → Type 0
Int16 z = mag z < 32768

-- `xs` has eight bytes
abbrev pub Name : List ℕ → Type 0
Name xs = length xs ≡ 8

-- four signed numbers at `at`, as a bounding box: top, bottom, left, right
abbrev pub four_at : List ℕ → ℕ → List ℤ
four_at bytes at = i16_at bytes at ∷ i16_at bytes (at + 2) ∷ i16_at bytes (at + 4) ∷ i16_at bytes (at + 6) ∷ []

-- their bytes
abbrev pub four_bytes : List ℤ → List ℕ
four_bytes zs =
    i16_bytes (get_or zs 0 (pos 0)) ++ i16_bytes (get_or zs 1 (pos 0)) ++ i16_bytes (get_or zs 2 (pos 0)) ++ i16_bytes (get_or zs 3 (pos 0))

-- `xs` with the bytes of four signed numbers at `at`
abbrev pub put_four : List ℕ → ℕ → List ℤ → List ℕ
put_four xs at zs =
    let bits : ℕ → ℕ = λ i. bits_of 32768 (get_or zs i (pos 0)) in
    put_u16 (put_u16 (put_u16 (put_u16 xs at (bits 0)) (at + 2) (bits 1)) (at + 4) (bits 2)) (at + 6) (bits 3)

-- four numbers that fit their width
pub record FourFits (zs : List ℤ) : Type 0 where
  pub four : length zs ≡ 4
  pub each : (i : ℕ) → Int16 (get_or zs i (pos 0))

-- the five arguments of an action at `at`, a byte each
abbrev pub args_at : List ℕ → ℕ → List ℕ
args_at xs at =
    get_or xs at 0 ∷ get_or xs (at + 1) 0 ∷ get_or xs (at + 2) 0 ∷ get_or xs (at + 3) 0 ∷ get_or xs (at + 4) 0 ∷ []

-- those of a record whose game has none
abbrev pub no_args : List ℕ
no_args = 0 ∷ 0 ∷ 0 ∷ 0 ∷ 0 ∷ []

-- all five are 0
abbrev pub args_zero : List ℕ → Bool
args_zero args =
    eqb (get_or args 0 0) 0 && eqb (get_or args 1 0) 0 && eqb (get_or args 2 0) 0 && eqb (get_or args 3 0) 0 && eqb (get_or args 4 0) 0

-- the six bytes of an action and its arguments
abbrev pub action_bytes : ℕ → List ℕ → List ℕ
action_bytes action args = action ∷ args_at args 0

-- `xs` with these at `at`
abbrev pub put_action : List ℕ → ℕ → ℕ → List ℕ → List ℕ
put_action xs at action args = paste (set xs at action) (at + 1) (args_at args 0) 5

-- `xs` has five bytes
abbrev pub Args : List ℕ → Type 0
Args xs = length xs ≡ 5
