-- `reason_field::of_blockmap` meets its contract, from those of the functions that it calls, and from the counts that 21 lets pass. Assumes nothing.
use Prim.Native.Nat.{ℕ, ◌≤◌}
use mathlib.Core.List.{List}
use mathlib.Core.Path.{◌≡◌, ap, subst⁻¹, ◌∙◌}
use native.Mathlib.Omega.{arith}
use lib.ListN.{length}
use Rattle.reason_range.specs.Fields.{first_out}
use Rattle.record_linedef.specs.Linedefs.{linedef_size}
use Rattle.reason_blockmap.specs.Fields.{blockmap_fields}
use Rattle.record_table.specs.Lumps.{LINEDEFS}
use Rattle.map_lumps.specs.Lumps.{map_lumps, record_count}
use Rattle.reason_field.proofs.Counting.{linedefs_counted, told}
use Rattle.reason_field.proofs.of_blockmap.Goals as goal

pub returns : goal.returns
returns c =
    let lumps = map_lumps c.args.lumps.now.wad.now c.args.lumps.now.dir.now c.args.lumps.now.marker in
    let lump = c.lump.ensures in
    let many : c.record_count.result ≡ record_count lumps LINEDEFS (linedef_size c.args.hexen) =
    c.record_count.ensures ∙ ap (record_count lumps LINEDEFS) c.size.ensures in
    let few = linedefs_counted c.args.hexen lumps c.requires.counts in
    let check = c.offending.ensures in
    let t =
    told (blockmap_fields c.lump.result.now c.record_count.result c.args.i) c.named.ensures check.first
    (check.fits (subst⁻¹ (λ (l : List ℕ). length l ≤ 16777216) lump c.requires.marker_len_bound) (subst⁻¹ (λ (n : ℕ). n ≤ 65536) many (omega (arith, few.1)))) in
    (t.0 ∙ (λ j. first_out (blockmap_fields (lump j) (many j) c.args.i)), t.1)
