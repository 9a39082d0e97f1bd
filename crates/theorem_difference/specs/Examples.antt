-- Small lumps, computed: which records of the new one are listed. Assumes nothing.
use Rattle.std.specs.Prelude.{ℕ, true, false, List, [], ◌∷◌, ◌++◌, ◌≡◌, replicate}
use Rattle.difference.specs.Records.{changes}
use Rattle.difference.specs.Differences.{changes_in, change_counts}
use Rattle.theorem_difference.specs.Promises.{copied, without, listed_at}

-- two records of four bytes, as VERTEXES has them
abbrev pub first : List ℕ
first = 1 ∷ 0 ∷ 2 ∷ 0 ∷ []

abbrev pub second : List ℕ
second = 3 ∷ 0 ∷ 4 ∷ 255 ∷ []

-- the second one with another last byte
abbrev pub moved : List ℕ
moved = 3 ∷ 0 ∷ 4 ∷ 0 ∷ []

-- lumps of a map, from place 0 on, of which only THINGS, VERTEXES and SECTORS have records
abbrev pub lumps_of : List ℕ → List ℕ → List ℕ → List (List ℕ)
lumps_of things vertexes sectors = [] ∷ things ∷ [] ∷ [] ∷ vertexes ∷ [] ∷ [] ∷ [] ∷ sectors ∷ []

abbrev pub old : List (List ℕ)
old = lumps_of (replicate 20 1) (first ++ second) (replicate 26 5)

-- its last vertex moved, and a sector more
abbrev pub new : List (List ℕ)
new = lumps_of (replicate 20 1) (first ++ moved) (replicate 52 5)

pub record Examples : Type 0 where
  pub same : changes 4 (first ++ second) (first ++ second) ≡ []
  pub changed : changes 4 (first ++ second) (first ++ moved) ≡ 1 ∷ []
  -- a record that only the new lump has, though its bytes are those of another
  pub added : changes 4 (first ++ second) (first ++ second ++ first) ≡ 2 ∷ []
  pub all : changes 4 [] (first ++ second) ≡ 0 ∷ 1 ∷ []
  -- one that only the old lump has, alone and behind a changed one
  pub dropped : changes 4 (first ++ second ++ first) (first ++ second) ≡ []
  pub dropped_after : changes 4 (first ++ second ++ first) (first ++ moved) ≡ 1 ∷ []
  pub none : changes 4 (first ++ second) [] ≡ []
  -- two that changed their places
  pub exchanged : changes 4 (first ++ second) (second ++ first) ≡ 0 ∷ 1 ∷ []
  -- copying them gives the new lump; with number 1 left out the old record stays
  pub copies : copied 4 (first ++ second ++ replicate 4 9) (second ++ moved ++ first) (0 ∷ 1 ∷ 2 ∷ []) ≡ second ++ moved ++ first
  pub left_out : copied 4 (first ++ second) (second ++ moved) (without 1 (0 ∷ 1 ∷ [])) ≡ second ++ second
  -- the lumps one after the other, by the sizes of the game: two things of Doom are one of Hexen
  pub list_of_map : changes_in false old new ≡ 1 ∷ 1 ∷ []
  pub counts_of_map : change_counts false old new ≡ 0 ∷ 0 ∷ 0 ∷ 1 ∷ 0 ∷ 0 ∷ 0 ∷ 1 ∷ []
  -- one word of the list belongs to VERTEXES, and the two behind it to SECTORS
  pub words_of_vertexes : listed_at (0 ∷ 0 ∷ 0 ∷ 1 ∷ 0 ∷ 0 ∷ 0 ∷ 2 ∷ []) (1 ∷ 4 ∷ 5 ∷ 65535 ∷ []) 4 ≡ 1 ∷ []
  pub words_of_sectors : listed_at (0 ∷ 0 ∷ 0 ∷ 1 ∷ 0 ∷ 0 ∷ 0 ∷ 2 ∷ []) (1 ∷ 4 ∷ 5 ∷ 65535 ∷ []) 8 ≡ 4 ∷ 5 ∷ []
  pub doom_things : change_counts false old (lumps_of (replicate 20 2) [] []) ≡ 2 ∷ 0 ∷ 0 ∷ 0 ∷ 0 ∷ 0 ∷ 0 ∷ 0 ∷ []
  pub hexen_things : change_counts true old (lumps_of (replicate 20 2) [] []) ≡ 1 ∷ 0 ∷ 0 ∷ 0 ∷ 0 ∷ 0 ∷ 0 ∷ 0 ∷ []
