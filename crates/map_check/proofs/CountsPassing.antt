-- What the counts of a map's records are known to be once 20 and 21 pass, and 30 as the code tests it. Assumes nothing.
use Prim.Native.Nat.{ℕ, ◌*◌, ◌/◌, ◌%◌, ◌≤◌, ◌<◌}
use mathlib.Core.Bool.{Bool, true, false, ◌&&◌, ◌||◌}
use mathlib.Core.List.{List}
use mathlib.Core.Path.{◌≡◌, refl, sym, subst}
use native.Mathlib.Omega.{arith}
use borrow.Author.Tests.{leb-true, leb-false, ltb-true, eqb-true, le-leb, lt-leb}
use lib.Dec.{leb, ltb, eqb}
use lib.ListN.{length}
use Rattle.std.specs.Prelude.{Ok}
use Rattle.refusal.specs.declared.Refusal.TheVariants.{RecordSize, RecordCount}
use Rattle.refusal.specs.Checks.{unless}
use Rattle.refusal.proofs.Checks.{both, and_then_pass, unless_pass}
use Rattle.record_table.specs.Lumps.{record_size, least_count, most_count, SSECTORS, NODES}
use Rattle.record.specs.Subsectors.{subsector_size}
use Rattle.record.specs.Nodes.{node_size}
use Rattle.node.specs.Nodes.{nodes_of}
use Rattle.map_lumps.specs.Lumps.{map_lump, record_count, each_place}
use Rattle.map_lumps.specs.Sizes.{whole_ok, alone_ok, record_count_ok, size_check}
use Rattle.map_lumps.proofs.Places.{each_place_pass, nodes_size}

-- ---- 20 and 21: sizes and counts

module _ (hexen : Bool) (lumps : List (List ℕ)) (e : each_place (size_check hexen lumps) 8 ≡ Ok tt) where
  module _ (place : ℕ) (low : 1 ≤ place) (high : place ≤ 8) where
    abbrev count : ℕ
    count = record_count lumps place (record_size hexen place)

    sized : (whole_ok hexen lumps place ≡ true) × (record_count_ok hexen lumps place ≡ true)
    sized =
        let p = and_then_pass (unless (whole_ok hexen lumps place) (RecordSize place)) (unless (record_count_ok hexen lumps place) (RecordCount place)) (each_place_pass (size_check hexen lumps) 8 e place low high) in
        (unless_pass (whole_ok hexen lumps place) (RecordSize place) p.0, unless_pass (record_count_ok hexen lumps place) (RecordCount place) p.1)

    limits : (leb (least_count place) count ≡ true) × (leb count (most_count place) ≡ true)
    limits =
        both (leb (least_count place) count) (leb count (most_count place))
        (both (leb (least_count place) count && leb count (most_count place)) (alone_ok lumps place) sized.1).0

    -- by the size that its records have
    module _ {size : ℕ} (same : record_size hexen place ≡ size) where
      pub count-least : least_count place ≤ record_count lumps place size
      count-least =
          subst (λ (n : ℕ). least_count place ≤ record_count lumps place n) same (leb-true (least_count place) count limits.0)

      pub count_most : record_count lumps place size ≤ most_count place
      count_most = subst (λ (n : ℕ). record_count lumps place n ≤ most_count place) same (leb-true count (most_count place) limits.1)

      pub count-whole : length (map_lump lumps place) % size ≡ 0
      count-whole =
          subst (λ (n : ℕ). length (map_lump lumps place) % n ≡ 0) same
          (eqb-true (length (map_lump lumps place) % record_size hexen place) 0 sized.0)

  pub nodes_whole : node_size * nodes_of (map_lump lumps NODES) ≡ length (map_lump lumps NODES)
  nodes_whole = let z = count-whole NODES (omega arith) (omega arith) (nodes_size hexen) in omega arith

  alone_by : (b c : Bool) → ltb 0 (nodes_of (map_lump lumps NODES)) ≡ b → (b || c) ≡ true → nodes_of (map_lump lumps NODES) ≡ 0 → c ≡ true
  alone_by true c q t z = let h : 0 < nodes_of (map_lump lumps NODES) = ltb-true 0 (nodes_of (map_lump lumps NODES)) q in absurd (omega arith)
  alone_by false c q t z = t

  -- without nodes there is one subsector
  pub nodes_alone : nodes_of (map_lump lumps NODES) ≡ 0 → record_count lumps SSECTORS subsector_size ≡ 1
  nodes_alone z =
      let n = count NODES (omega arith) (omega arith) in
      let counted = leb (least_count NODES) n && leb n (most_count NODES) in
      let alone = (both counted (alone_ok lumps NODES) (sized NODES (omega arith) (omega arith)).1).1 in
      eqb-true (record_count lumps SSECTORS subsector_size) 1
      (alone_by (ltb 0 (nodes_of (map_lump lumps NODES))) (eqb (record_count lumps SSECTORS subsector_size) 1) refl alone z)

-- ---- 30, as the code tests it

quarter_by : (n words : ℕ) (b : Bool) → leb n (words / 4) ≡ b → b ≡ leb (4 * n) words
quarter_by n words true e = let h = leb-true n (words / 4) e in sym (le-leb (4 * n) words (omega arith))
quarter_by n words false e = let h = leb-false n (words / 4) e in sym (lt-leb (4 * n) words (omega arith))

pub quarter : (n words : ℕ) → leb n (words / 4) ≡ leb (4 * n) words
quarter n words = quarter_by n words (leb n (words / 4)) refl
