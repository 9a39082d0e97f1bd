-- The counts that 21 lets pass, as the reasons of records ask for them, and how long a lump is. Assumes nothing.
use Prim.Native.Nat.{ℕ, ◌+◌, ◌≤◌}
use mathlib.Core.Bool.{Bool, true, false, cond}
use mathlib.Core.List.{List, []}
use mathlib.Core.Path.{◌≡◌, refl, ap, subst⁻¹, ◌∙◌}
use native.Mathlib.Omega.{arith}
use borrow.Author.Tests.{leb-true}
use lib.Dec.{leb}
use lib.ListN.{length}
use Rattle.std.specs.Prelude.{⊤, Result, Ok}
use Rattle.reason_range.specs.declared.Field.{Field}
use Rattle.reason_range.specs.Fields.{FieldFits, first_out, fields_check, named_by}
use Rattle.reason_range.proofs.Fields.{named-check}
use Rattle.wad.specs.Lump.{entry_size, entry_offset}
use Rattle.wad.specs.Slices.{part}
use Rattle.wad.proofs.Slices.{length_part}
use Rattle.record_linedef.specs.Linedefs.{linedef_size}
use Rattle.record.specs.Sidedefs.{sidedef_size}
use Rattle.record.specs.Vertexes.{vertex_size}
use Rattle.record.specs.Sectors.{sector_size}
use Rattle.record.specs.Segs.{seg_size}
use Rattle.record.specs.Subsectors.{subsector_size}
use Rattle.record.specs.Nodes.{node_size}
use Rattle.reason_record.specs.RecordFields.{Counted}
use Rattle.record_table.specs.Lumps.{record_size, least_count, most_count, LINEDEFS, SIDEDEFS, VERTEXES, SEGS, SSECTORS, NODES, SECTORS, BLOCKMAP}
use Rattle.map_lumps.specs.Lumps.{map_lumps, map_lump, record_count, each_place}
use Rattle.map_lumps.proofs.Places.{subsectors-size, nodes_size, sectors_size}
use Rattle.map_lumps.specs.Sizes.{size_check}
use Rattle.map_check.proofs.CountsPassing.{count-least, count_most}

linedefs_size : (hexen : Bool) → record_size hexen LINEDEFS ≡ linedef_size hexen
linedefs_size true = refl
linedefs_size false = refl

sidedefs_size : (hexen : Bool) → record_size hexen SIDEDEFS ≡ sidedef_size
sidedefs_size true = refl
sidedefs_size false = refl

vertices_size : (hexen : Bool) → record_size hexen VERTEXES ≡ vertex_size
vertices_size true = refl
vertices_size false = refl

segs_size : (hexen : Bool) → record_size hexen SEGS ≡ seg_size
segs_size true = refl
segs_size false = refl

module _ (hexen : Bool) (lumps : List (List ℕ)) (e : each_place (size_check hexen lumps) 8 ≡ Ok tt) where
  counted : (place : ℕ) → 1 ≤ place → place ≤ 8 → {size : ℕ} → record_size hexen place ≡ size → 1 ≤ least_count place → most_count place ≤ 65535
      → Counted (record_count lumps place size)
  counted place low high same least most =
      let a = count-least hexen lumps e place low high same in
      let b = count_most hexen lumps e place low high same in
      (omega arith, omega arith)

  pub linedefs_counted : Counted (record_count lumps LINEDEFS (linedef_size hexen))
  linedefs_counted = counted LINEDEFS (omega arith) (omega arith) (linedefs_size hexen) (omega arith) (omega arith)

  pub sidedefs_counted : Counted (record_count lumps SIDEDEFS sidedef_size)
  sidedefs_counted = counted SIDEDEFS (omega arith) (omega arith) (sidedefs_size hexen) (omega arith) (omega arith)

  pub vertices_counted : Counted (record_count lumps VERTEXES vertex_size)
  vertices_counted = counted VERTEXES (omega arith) (omega arith) (vertices_size hexen) (omega arith) (omega arith)

  pub segs_counted : Counted (record_count lumps SEGS seg_size)
  segs_counted = counted SEGS (omega arith) (omega arith) (segs_size hexen) (omega arith) (omega arith)

  pub subsectors-counted : Counted (record_count lumps SSECTORS subsector_size)
  subsectors-counted = counted SSECTORS (omega arith) (omega arith) (subsectors-size hexen) (omega arith) (omega arith)

  pub sectors_counted : Counted (record_count lumps SECTORS sector_size)
  sectors_counted = counted SECTORS (omega arith) (omega arith) (sectors_size hexen) (omega arith) (omega arith)

  pub nodes_few : record_count lumps NODES node_size ≤ 65535
  nodes_few = let b = count_most hexen lumps e NODES (omega arith) (omega arith) (nodes_size hexen) in omega arith

-- ---- a lump is no longer than its file

part-within : (xs : List ℕ) (at n : ℕ) (b : Bool) → leb (at + n) (length xs) ≡ b → length (cond b (part xs at n) []) ≤ length xs
part-within xs at n true e = let h = leb-true (at + n) (length xs) e in let k = length_part xs at n h in omega arith
part-within xs at n false e = omega arith

pub blockmap-within : (wad dir : List ℕ) (marker : ℕ) → length (map_lump (map_lumps wad dir marker) BLOCKMAP) ≤ length wad
blockmap-within wad dir marker =
    let i = marker + BLOCKMAP in
    part-within wad (entry_offset dir i) (entry_size dir i) (leb (entry_offset dir i + entry_size dir i) (length wad)) refl

-- ---- what a check names

pub told : {f : Field} {check : Result ⊤ Field} (fields : List Field) → f ≡ named_by check → check ≡ fields_check fields → FieldFits (named_by check)
    → (f ≡ first_out fields) × FieldFits f
told fields e c h = (e ∙ ap named_by c ∙ named-check fields, subst⁻¹ FieldFits e h)
