-- The lumps of a map and the table by places: what a loop over the places needs. Assumes nothing.
use Prim.Native.Nat.{ℕ, zero, suc, ◌+◌, ◌≤◌, ◌<◌}
use mathlib.Core.Bool.{Bool, true, false}
use mathlib.Core.List.{List}
use mathlib.Core.Path.{◌≡◌, refl, ap, sym, ◌∙◌}
use native.Mathlib.Numerals.{add-one}
use native.Mathlib.Omega.{arith}
use Rattle.refusal.specs.Checks.{Check}
use Rattle.std.specs.Prelude.{Ok}
use Rattle.refusal.proofs.Checks.{each_pass}
use Rattle.wad.specs.Lump.{lump_at}
use Rattle.record.specs.Subsectors.{subsector_size}
use Rattle.record.specs.Nodes.{node_size}
use Rattle.record.specs.Sectors.{sector_size}
use Rattle.record_table.specs.Lumps.{record_size, SSECTORS, NODES, SECTORS}
use Rattle.map_lumps.specs.Lumps.{map_lumps, map_lump, each_place}

module _ (P : ℕ → Type 0) (p1 : P 1) (p2 : P 2) (p3 : P 3) (p4 : P 4) (p5 : P 5) (p6 : P 6) (p7 : P 7) (p8 : P 8) (p9 : P 9) (p10 : P 10) where
  -- what holds of each of the ten places holds of every number from 1 to 10
  pub each-place : (place : ℕ) → 1 ≤ place → place ≤ 10 → P place
  each-place zero low high = absurd (omega arith)
  each-place (suc zero) low high = p1
  each-place (suc (suc zero)) low high = p2
  each-place (suc (suc (suc zero))) low high = p3
  each-place (suc (suc (suc (suc zero)))) low high = p4
  each-place (suc (suc (suc (suc (suc zero))))) low high = p5
  each-place (suc (suc (suc (suc (suc (suc zero)))))) low high = p6
  each-place (suc (suc (suc (suc (suc (suc (suc zero))))))) low high = p7
  each-place (suc (suc (suc (suc (suc (suc (suc (suc zero)))))))) low high = p8
  each-place (suc (suc (suc (suc (suc (suc (suc (suc (suc zero))))))))) low high = p9
  each-place (suc (suc (suc (suc (suc (suc (suc (suc (suc (suc zero)))))))))) low high = p10
  each-place (suc (suc (suc (suc (suc (suc (suc (suc (suc (suc (suc i))))))))))) low high = absurd (omega arith)

-- the lump at a place is the part that its entry names
pub map_lump-place : (wad dir : List ℕ) (marker place : ℕ) → 1 ≤ place → place ≤ 10
    → map_lump (map_lumps wad dir marker) place ≡ lump_at wad dir (marker + place)
map_lump-place wad dir marker =
    each-place (λ place. map_lump (map_lumps wad dir marker) place ≡ lump_at wad dir (marker + place))
    refl refl refl refl refl refl refl refl refl refl

-- records have a size above 0, in both games
pub record_size_positive : (hexen : Bool) (place : ℕ) → 1 ≤ place → place ≤ 8 → 0 < record_size hexen place
record_size_positive true place low high =
    each-place (λ (place : ℕ). place ≤ 8 → 0 < record_size true place)
    (λ h. omega arith) (λ h. omega arith) (λ h. omega arith) (λ h. omega arith) (λ h. omega arith)
    (λ h. omega arith) (λ h. omega arith) (λ h. omega arith) (λ h. omega arith) (λ h. omega arith)
    place low (omega arith) high
record_size_positive false place low high =
    each-place (λ (place : ℕ). place ≤ 8 → 0 < record_size false place)
    (λ h. omega arith) (λ h. omega arith) (λ h. omega arith) (λ h. omega arith) (λ h. omega arith)
    (λ h. omega arith) (λ h. omega arith) (λ h. omega arith) (λ h. omega arith) (λ h. omega arith)
    place low (omega arith) high

-- the records that the node graph and REJECT are about have one size
pub subsectors-size : (hexen : Bool) → record_size hexen SSECTORS ≡ subsector_size
subsectors-size true = refl
subsectors-size false = refl

pub nodes_size : (hexen : Bool) → record_size hexen NODES ≡ node_size
nodes_size true = refl
nodes_size false = refl

pub sectors_size : (hexen : Bool) → record_size hexen SECTORS ≡ sector_size
sectors_size true = refl
sectors_size false = refl

-- a scan of the places that passes says that the check of each passes
pub each_place_pass : (f : ℕ → Check) (n : ℕ) → each_place f n ≡ Ok tt → (place : ℕ) → 1 ≤ place → place ≤ n → f place ≡ Ok tt
each_place_pass f n e zero low high = absurd (omega arith)
each_place_pass f n e (suc i) low high = ap f (sym (add-one i)) ∙ each_pass (λ j. f (j + 1)) n e i (omega arith)
