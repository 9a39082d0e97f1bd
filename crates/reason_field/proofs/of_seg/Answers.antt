-- `reason_field::of_seg` meets its contract, from those of the functions that it calls, and from the counts that 21 lets pass. Assumes nothing.
use Rattle.map_lumps.specs.Lumps.{map_lumps}
use Rattle.reason_field.proofs.Counting.{vertices_counted, linedefs_counted}
use borrow.Author.Rules.{rules}
use mathlib.Core.Path.{◌∙◌}
use Rattle.reason_range.specs.Fields.{first_out}
use Rattle.record_field.specs.Records.{record_bytes}
use Rattle.record.specs.Segs.{seg_size}
use Rattle.reason_record.specs.RecordFields.{seg_fields}
use Rattle.reason_field.proofs.Counting.{told}
use Rattle.reason_field.proofs.of_seg.Goals as goal

pub check_seg-requires : goal.check_seg-requires
check_seg-requires c =
    let lumps = map_lumps c.args.lumps.now.wad.now c.args.lumps.now.dir.now c.args.lumps.now.marker in
    rw (c.record_count.ensures, c.lump-2.ensures, c.lump.ensures) (
      search rules,
      vertices_counted c.args.hexen lumps c.requires.counts,
      linedefs_counted c.args.hexen lumps c.requires.counts,
    )

pub returns : goal.returns
returns c =
    let check = c.check_seg.ensures in
    let t = told (seg_fields c.args.hexen c.lump-2.result.now (record_bytes c.lump.result.now seg_size c.args.i) c.record_count.result) c.named.ensures check.first check.fits in
    (t.0 ∙ (λ j. first_out (seg_fields c.args.hexen (c.lump-2.ensures j) (record_bytes (c.lump.ensures j) seg_size c.args.i) (c.record_count.ensures j))), t.1)
