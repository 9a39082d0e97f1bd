-- Names of eight bytes (01, "File and directory", "One map", and W-204; document 004, "Directory"). Only this file
-- says which names are good, and which are the same. Assumes nothing.
use Rattle.std.specs.Prelude.{ℕ, Bool, true, false, not, ◌&&◌, ◌||◌, cond, List, [], ◌∷◌, leb, eqb, length}

-- a name is what precedes the first zero of its bytes
abbrev pub name_of : List ℕ → List ℕ
name_of [] = []
name_of (c ∷ cs) = cond (eqb c 0) [] (c ∷ name_of cs)

-- `c` is a byte from `least` to `most`
abbrev pub within : ℕ → ℕ → ℕ → Bool
within least most c = leb least c && leb c most

-- A-Z, 0-9, `[`, `\`, `]`, `-`, `_`
abbrev pub character_ok : ℕ → Bool
character_ok c = within 65 90 c || within 48 57 c || within 91 93 c || eqb c 45 || eqb c 95

-- there are no characters
abbrev pub is_empty : List ℕ → Bool
is_empty [] = true
is_empty (c ∷ cs) = false

-- all characters are good ones
abbrev pub characters_ok : List ℕ → Bool
characters_ok [] = true
characters_ok (c ∷ cs) = character_ok c && characters_ok cs

-- a good name has one character or more, all of them good
abbrev pub name_ok : List ℕ → Bool
name_ok bytes = not (is_empty (name_of bytes)) && characters_ok (name_of bytes)

-- two rows of bytes are the same
abbrev pub same_bytes : List ℕ → List ℕ → Bool
same_bytes [] [] = true
same_bytes [] (d ∷ ds) = false
same_bytes (c ∷ cs) [] = false
same_bytes (c ∷ cs) (d ∷ ds) = eqb c d && same_bytes cs ds

-- two names are the same
abbrev pub same_name : List ℕ → List ℕ → Bool
same_name bytes bytes' = same_bytes (name_of bytes) (name_of bytes')

-- as many characters as tests, each passing its own
abbrev pub fits : List (ℕ → Bool) → List ℕ → Bool
fits [] [] = true
fits [] (c ∷ cs) = false
fits (ok ∷ oks) [] = false
fits (ok ∷ oks) (c ∷ cs) = ok c && fits oks cs

-- the digits 1-9, and with the 0
abbrev pub digit : ℕ → Bool
digit = within 49 57

abbrev pub digit_or_zero : ℕ → Bool
digit_or_zero = within 48 57

-- one character alone
abbrev pub is : ℕ → ℕ → Bool
is character c = eqb c character

-- `E`, 1-9, `M`, 1-9
abbrev pub episode_name : List ℕ → Bool
episode_name = fits (is 69 ∷ digit ∷ is 77 ∷ digit ∷ [])

-- `MAP` and 01 to 09
abbrev pub low_name : List ℕ → Bool
low_name = fits (is 77 ∷ is 65 ∷ is 80 ∷ is 48 ∷ digit ∷ [])

-- `MAP` and 10 to 99
abbrev pub high_name : List ℕ → Bool
high_name = fits (is 77 ∷ is 65 ∷ is 80 ∷ digit ∷ digit_or_zero ∷ [])

-- an asked name is a map's: eight bytes, with a name of one of these forms
abbrev pub map_name_ok : List ℕ → Bool
map_name_ok bytes =
    eqb (length bytes) 8 && (episode_name (name_of bytes) || low_name (name_of bytes) || high_name (name_of bytes))
