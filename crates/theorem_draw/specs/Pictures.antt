-- One picture is bounded: on an accepted map in which no seg is in two subsectors, the subsectors of a draw order list each seg at
-- most once. So what is drawn for one point is at most the map's segs, whatever the point. The proof is proofs/Pictures.antt.
-- Assumes nothing.
use Rattle.std.specs.Prelude.{ℕ, zero, suc, ◌≤◌, false, List, [], ◌∷◌, ◌++◌, ◌≡◌, ℤ, length, take}
use Rattle.refusal.specs.Status.{accepted}
use Rattle.wad.specs.Entries.{directory_of}
use Rattle.record.specs.Segs.{seg_size}
use Rattle.record_table.specs.Lumps.{SEGS, SSECTORS}
use Rattle.node_route.specs.Heights.{repeats}
use Rattle.map_lumps.specs.Lumps.{map_lumps, map_lump, record_count}
use Rattle.map_check.specs.Verdict.{accepted as judged_accepted, nodes_at, subsectors_at, verdict}
use Rattle.hazard.specs.Segs.{subsector_in}
use Rattle.export_maps.specs.declared.hazards.HazardAnswer.{HazardAnswer}
use Rattle.export_maps.specs.declared.OrderAnswer.{OrderAnswer}
use Rattle.export_maps.specs.Hazards.{HazardJudged}
use Rattle.export_maps.specs.Maps.{OrderDrawn}

-- `n` numbers from `first` on
abbrev pub numbers_on : ℕ → ℕ → List ℕ
numbers_on first zero = []
numbers_on first (suc n) = first ∷ numbers_on (suc first) n

-- the segs of the subsectors of a list, in turn
abbrev pub segs_drawn : List ℕ → List ℕ → List ℕ
segs_drawn lump [] = []
segs_drawn lump (k ∷ ks) = numbers_on (subsector_in lump k).first (subsector_in lump k).number ++ segs_drawn lump ks

-- what is drawn for the subsectors of a list: no seg twice, and no more segs than the map at entry `marker` has
pub record Bounded (wad : List ℕ) (marker : ℕ) (list : List ℕ) : Type 0 where
  pub once : repeats (segs_drawn (map_lump (map_lumps wad (directory_of wad) marker) SSECTORS) list) ≡ false
  pub most : length (segs_drawn (map_lump (map_lumps wad (directory_of wad) marker) SSECTORS) list)
      ≤ record_count (map_lumps wad (directory_of wad) marker) SEGS seg_size

-- whenever `meshpigeon_hazard` accepts a map and names another hazard than 1 or none, and `meshpigeon_draw_order` lists subsectors
-- of its NODES for a point, what is drawn for the listed words is bounded
abbrev pub PicturesBounded : Type 0
PicturesBounded =
    (wad name words : List ℕ) (answer : HazardAnswer) (after : List ℕ) → HazardJudged wad name words answer after
    → (answer.hazard ≡ 1 → ⊥)
    → (depth marker : ℕ) → verdict wad name words ≡ judged_accepted depth marker
    → (x y : ℤ) (lent : List ℕ) (order : OrderAnswer) (drawn : List ℕ)
    → OrderDrawn (nodes_at wad marker) (subsectors_at wad marker) x y lent order drawn → order.status ≡ accepted
    → Bounded wad marker (take order.count drawn)
