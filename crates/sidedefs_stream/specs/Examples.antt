-- Small lumps in scraps, computed: two sidedefs of sectors 1 and 258, cut between a sector's bytes too. Assumes nothing.
use Rattle.std.specs.Prelude.{ℕ, true, List, [], ◌∷◌, ◌++◌, ◌≡◌, replicate, Ok, Err}
use Rattle.refusal.specs.declared.Refusal.TheVariants.{RecordSize, RecordCount, SidedefReference, StreamSectors}
use Rattle.sidedefs_stream.specs.Scraps.{started, stream_verdict}
use Rattle.sidedefs_stream.specs.Whole.{fed_all}

-- a sidedef up to the low byte of its sector
abbrev pub up_to : ℕ → List ℕ
up_to low = replicate 28 7 ++ (low ∷ [])

-- sector 1 and sector 258, each cut between its bytes, and a scrap of no bytes
abbrev pub scraps : List (List ℕ)
scraps = up_to 1 ∷ (0 ∷ up_to 2) ∷ [] ∷ (1 ∷ []) ∷ []

pub record Examples : Type 0 where
  -- 259 sectors: both are there
  pub accepted : stream_verdict (fed_all (started 259) scraps) ≡ Ok tt
  -- 258: sidedef 1 is refused
  pub second : stream_verdict (fed_all (started 258) scraps) ≡ Err (SidedefReference 1)
  -- 1: both are not there, the first is told
  pub first : stream_verdict (fed_all (started 1) scraps) ≡ Err (SidedefReference 0)
  -- a byte more is 20, before 24
  pub cut : stream_verdict (fed_all (started 1) ((9 ∷ []) ∷ scraps)) ≡ Err (RecordSize 3)
  -- no scrap at all is the empty lump
  pub none : stream_verdict (fed_all (started 1) []) ≡ Err (RecordCount 3)
  -- no sector is 80, before all else
  pub sectorless : stream_verdict (fed_all (started 0) ((9 ∷ []) ∷ scraps)) ≡ Err StreamSectors
  -- a state of 16,777,217 bytes stays as it is
  pub full : fed_all (record { sectors = 1; bytes = 16777217; bad = 5; low = 6; found = true }) scraps
      ≡ record { sectors = 1; bytes = 16777217; bad = 5; low = 6; found = true }
