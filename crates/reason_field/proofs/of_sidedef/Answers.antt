-- `reason_field::of_sidedef` meets its contract, from those of the functions that it calls, and from the counts that 21 lets pass. Assumes nothing.
use Rattle.map_lumps.specs.Lumps.{map_lumps}
use Rattle.reason_field.proofs.Counting.{sectors_counted}
use borrow.Author.Rules.{rules}
use mathlib.Core.Path.{◌∙◌}
use Rattle.reason_range.specs.Fields.{first_out}
use Rattle.record_field.specs.Records.{record_bytes}
use Rattle.record.specs.Sidedefs.{sidedef_size}
use Rattle.reason_record.specs.RecordFields.{sidedef_fields}
use Rattle.reason_field.proofs.Counting.{told}
use Rattle.reason_field.proofs.of_sidedef.Goals as goal

pub check_sidedef-requires : goal.check_sidedef-requires
check_sidedef-requires c =
    let lumps = map_lumps c.args.lumps.now.wad.now c.args.lumps.now.dir.now c.args.lumps.now.marker in
    rw (c.record_count.ensures, c.lump.ensures) (
      search rules,
      sectors_counted c.args.hexen lumps c.requires.counts,
    )

pub returns : goal.returns
returns c =
    let check = c.check_sidedef.ensures in
    let t = told (sidedef_fields (record_bytes c.lump.result.now sidedef_size c.args.i) c.record_count.result) c.named.ensures check.first check.fits in
    (t.0 ∙ (λ j. first_out (sidedef_fields (record_bytes (c.lump.ensures j) sidedef_size c.args.i) (c.record_count.ensures j))), t.1)
