-- `reason_field::of_linedef` meets its contract, from those of the functions that it calls, and from the counts that 21 lets pass. Assumes nothing.
use Rattle.map_lumps.specs.Lumps.{map_lumps}
use Rattle.reason_field.proofs.Counting.{vertices_counted, sidedefs_counted}
use borrow.Author.Rules.{rules}
use mathlib.Core.Path.{◌∙◌}
use Rattle.reason_range.specs.Fields.{first_out}
use Rattle.record_field.specs.Records.{record_bytes}
use Rattle.record_linedef.specs.Linedefs.{linedef_size}
use Rattle.reason_record.specs.RecordFields.{linedef_fields}
use Rattle.reason_field.proofs.Counting.{told}
use Rattle.reason_field.proofs.of_linedef.Goals as goal

pub check_linedef-requires : goal.check_linedef-requires
check_linedef-requires c =
    let lumps = map_lumps c.args.lumps.now.wad.now c.args.lumps.now.dir.now c.args.lumps.now.marker in
    rw (c.record_count-2.ensures, c.record_count.ensures, c.lump.ensures) (
      search rules,
      vertices_counted c.args.hexen lumps c.requires.counts,
      sidedefs_counted c.args.hexen lumps c.requires.counts,
    )

pub returns : goal.returns
returns c =
    let check = c.check_linedef.ensures in
    let t = told (linedef_fields c.args.hexen (record_bytes c.lump.result.now (linedef_size c.args.hexen) c.args.i) c.record_count.result c.record_count-2.result) c.named.ensures check.first check.fits in
    (t.0 ∙ (λ j. first_out (linedef_fields c.args.hexen (record_bytes (c.lump.ensures j) (linedef_size c.args.hexen) c.args.i) (c.record_count.ensures j) (c.record_count-2.ensures j))), t.1)
