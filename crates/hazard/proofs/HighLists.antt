-- On an accepted map a cell's list names a high linedef exactly if BLOCKMAP would be refused there with 32,768 linedefs.
-- Assumes nothing.
use Prim.Native.Nat.{ℕ, zero, suc, ◌+◌, ◌-◌, ◌≤◌, ◌<◌}
use mathlib.Core.Bool.{Bool, true, false, ◌&&◌}
use mathlib.Core.List.{List}
use mathlib.Core.Path.{◌≡◌, refl, sym, ap, ◌∙◌}
use native.Mathlib.Omega.{arith}
use lib.Dec.{leb, ltb, eqb}
use Rattle.refusal.specs.declared.Refusal.TheVariants.{Blockmap}
use Rattle.refusal.specs.Checks.{Check}
use Rattle.std.specs.Prelude.{⊤, Result, Ok, Err}
use Rattle.refusal.specs.Table.{record_of}
use Rattle.refusal.specs.Checks.{unless, ◌and_then◌, each}
use Rattle.refusal.proofs.Checks.{both, and_then_pass, unless_pass, each_none, each_pass}
use Rattle.map_blockmap.specs.Blockmap.{word_count, word_at, cells_of, header_ok, list_ends, linedefs_named, all_under, list_ok, cell_check, blockmap_check}
use Rattle.hazard.specs.declared.Hazard.TheVariants.{HighNumber}
use Rattle.hazard.specs.Findings.{Finding, found_unless, ◌or_else◌, each_of}
use Rattle.hazard.specs.Numbers.{list_high}
use Rattle.hazard.specs.Inner.{ListsPass}

-- BLOCKMAP's refusal as a hazard
abbrev pub as_finding : Check → Finding
as_finding (Ok _) = Ok tt
as_finding (Err r) = Err (HighNumber 10 (record_of r))

as_then : (a b : Check) → as_finding (a and_then b) ≡ as_finding a or_else as_finding b
as_then (Ok _) b = refl
as_then (Err r) b = refl

as_unless : (b : Bool) (i : ℕ) → as_finding (unless b (Blockmap i)) ≡ found_unless b (HighNumber 10 i)
as_unless true i = refl
as_unless false i = refl

each_more : {E : Type 0} (f : ℕ → Result ⊤ E) (n : ℕ) → each f (suc n) ≡ each f n and_then f n
unfolding each
each_more f n = refl

-- a header that is good
pub header-good : (lump : List ℕ) → ListsPass lump → header_ok lump ≡ true
header-good lump (linedefs, e) =
    unless_pass (header_ok lump) (Blockmap 0) (and_then_pass (unless (header_ok lump) (Blockmap 0)) (each (cell_check lump linedefs) (cells_of lump)) e).0

module _ (lump : List ℕ) (linedefs : ℕ) (e : blockmap_check lump linedefs ≡ Ok tt) where
  -- the list of a cell is good but for its numbers, whatever these may be
  by_numbers : (offset n : ℕ) → list_ok lump linedefs offset ≡ true → list_ok lump n offset ≡ all_under n (linedefs_named lump offset)
  by_numbers offset n ok =
      let lies = leb (4 + cells_of lump) offset && ltb offset (word_count lump) && eqb (word_at lump offset) 0 in
      let ends = list_ends lump (word_count lump - (offset + 1)) in
      let p = both lies (ends && all_under linedefs (linedefs_named lump offset)) ok in
      let q = both ends (all_under linedefs (linedefs_named lump offset)) p.1 in
      ap (λ (b : Bool). b && (ends && all_under n (linedefs_named lump offset))) p.0
      ∙ ap (λ (b : Bool). b && all_under n (linedefs_named lump offset)) q.0

  cell : (i : ℕ) → i < cells_of lump → list_ok lump linedefs (word_at lump (4 + i)) ≡ true
  cell i h =
      let cells = (and_then_pass (unless (header_ok lump) (Blockmap 0)) (each (cell_check lump linedefs) (cells_of lump)) e).1 in
      unless_pass (list_ok lump linedefs (word_at lump (4 + i))) (Blockmap i) (each_pass (cell_check lump linedefs) (cells_of lump) cells i h)

  high-cell : (i : ℕ) → i < cells_of lump → list_high lump i ≡ as_finding (cell_check lump 32768 i)
  high-cell i h =
      sym
      (ap (λ (b : Bool). as_finding (unless b (Blockmap i))) (by_numbers (word_at lump (4 + i)) 32768 (cell i h))
      ∙ as_unless (all_under 32768 (linedefs_named lump (word_at lump (4 + i)))) i)

  high-cells : (n : ℕ) → n ≤ cells_of lump → each_of (list_high lump) n ≡ as_finding (each (cell_check lump 32768) n)
  high-cells zero h = each_none (list_high lump) ∙ ap as_finding (sym (each_none (cell_check lump 32768)))
  high-cells (suc n) h =
      each_more (list_high lump) n ∙ (λ i. high-cells n (omega arith) i or_else high-cell n (omega arith) i)
      ∙ sym (as_then (each (cell_check lump 32768) n) (cell_check lump 32768 n))
      ∙ ap as_finding (sym (each_more (cell_check lump 32768) n))

-- BLOCKMAP judged with 32,768 linedefs tells the first cell with a high linedef
pub high-lists : (lump : List ℕ) → ListsPass lump → as_finding (blockmap_check lump 32768) ≡ each_of (list_high lump) (cells_of lump)
high-lists lump (linedefs, e) =
    ap (λ (b : Bool). as_finding (unless b (Blockmap 0) and_then each (cell_check lump 32768) (cells_of lump))) (header-good lump (linedefs, e))
    ∙ sym (high-cells lump linedefs e (cells_of lump) (omega arith))
