-- `reason_field::of_subsector` meets its contract, from those of the functions that it calls, and from the counts that 21 lets pass. Assumes nothing.
use Rattle.map_lumps.specs.Lumps.{map_lumps}
use Rattle.reason_field.proofs.Counting.{segs_counted}
use borrow.Author.Rules.{rules}
use mathlib.Core.Path.{◌∙◌}
use Rattle.reason_range.specs.Fields.{first_out}
use Rattle.record_field.specs.Records.{record_bytes}
use Rattle.record.specs.Subsectors.{subsector_size}
use Rattle.reason_record.specs.RecordFields.{subsector_fields}
use Rattle.reason_field.proofs.Counting.{told}
use Rattle.reason_field.proofs.of_subsector.Goals as goal

pub check_subsector-requires : goal.check_subsector-requires
check_subsector-requires c =
    let lumps = map_lumps c.args.lumps.now.wad.now c.args.lumps.now.dir.now c.args.lumps.now.marker in
    rw (c.record_count.ensures, c.lump.ensures) (
      search rules,
      segs_counted c.args.hexen lumps c.requires.counts,
    )

pub returns : goal.returns
returns c =
    let check = c.check_subsector.ensures in
    let t = told (subsector_fields (record_bytes c.lump.result.now subsector_size c.args.i) c.record_count.result) c.named.ensures check.first check.fits in
    (t.0 ∙ (λ j. first_out (subsector_fields (record_bytes (c.lump.ensures j) subsector_size c.args.i) (c.record_count.ensures j))), t.1)
