-- Not for the reader of promises: what only contracts of inner functions cite, a scrap gone through from sector to sector. A
-- sector's low byte is at `k` of the scrap where `bytes + k` is at 28 of a record. Assumes nothing.
use Rattle.std.specs.Prelude.{ℕ, zero, suc, ◌+◌, ◌%◌, ◌≤◌, ◌<◌, Bool, false, cond, List, ◌≡◌, eqb, length, get_or}
use Rattle.endian.specs.Unsigned.{u16_at}
use Rattle.record.specs.Sidedefs.{sidedef_size}
use Rattle.sidedefs_stream.specs.Scraps.{low_place}

-- the low byte of a sector is at `k`
abbrev pub Low : ℕ → ℕ → Type 0
Low bytes k = (bytes + k) % sidedef_size ≡ low_place

-- the first whole sector of a scrap that is not there is at `place`; there is none where that is not wholly inside, nor a need
-- to look for one where one was `found`
pub record FirstBad (found : Bool) (sectors bytes : ℕ) (scrap : List ℕ) (place : ℕ) : Type 0 where
  pub near : place ≤ length scrap + 28
  pub good : found ≡ false → (k : ℕ) → Low bytes k → k < place → u16_at scrap k < sectors
  pub bad : place + 1 < length scrap → Low bytes place × (sectors ≤ u16_at scrap place)

-- what is kept as the low byte of a divided sector behind the first bytes of a scrap
abbrev pub low_after : ℕ → ℕ → List ℕ → ℕ → ℕ
low_after low bytes scrap zero = low
low_after low bytes scrap (suc k) = cond (eqb ((bytes + k) % sidedef_size) low_place) (get_or scrap k 0) 0
