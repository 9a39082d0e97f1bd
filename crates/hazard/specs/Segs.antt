-- A seg that two subsectors have, reached or not. The engine draws a subsector's segs whenever it draws the subsector.
-- Assumes nothing.
use Rattle.std.specs.Prelude.{ℕ, zero, suc, ◌+◌, ◌/◌, Bool, false, not, ◌&&◌, ◌||◌, List, leb, ltb, length}
use Rattle.record_field.specs.Records.{record_bytes}
use Rattle.record.specs.declared.subsector.Subsector.{Subsector}
use Rattle.record.specs.Subsectors.{subsector_size, subsector_of}
use Rattle.hazard.specs.declared.Hazard.TheVariants.{SegTwice}
use Rattle.hazard.specs.Findings.{Finding, found_unless, each_of}

-- subsector `k` of a lump
abbrev pub subsector_in : List ℕ → ℕ → Subsector
subsector_in lump k = subsector_of (record_bytes lump subsector_size k)

-- the seg is one of the subsector's: `number` segs from `first` on
abbrev pub has_seg : Subsector → ℕ → Bool
has_seg s seg = leb s.first seg && ltb seg (s.first + s.number)

-- some subsector before `k` has the seg
unfoldable pub taken_below : List ℕ → ℕ → ℕ → Bool
taken_below lump zero seg = false
taken_below lump (suc k) seg = taken_below lump k seg || has_seg (subsector_in lump k) seg

-- the test holds of one of the `n` numbers from `first` on
unfoldable pub some_from : (ℕ → Bool) → ℕ → ℕ → Bool
some_from test first zero = false
some_from test first (suc n) = some_from test first n || test (first + n)

-- subsector `k` has a seg which a subsector before it has too
abbrev pub takes_again : List ℕ → ℕ → Bool
takes_again lump k = some_from (taken_below lump k) (subsector_in lump k).first (subsector_in lump k).number

-- the hazard of subsector `k`
abbrev pub seg_twice_at : List ℕ → ℕ → Finding
seg_twice_at lump k = found_unless (not (takes_again lump k)) (SegTwice k)

-- the first such subsector of SSECTORS
abbrev pub seg_twice : List ℕ → Finding
seg_twice lump = each_of (seg_twice_at lump) (length lump / subsector_size)
