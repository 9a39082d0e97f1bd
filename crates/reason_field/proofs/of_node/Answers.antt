-- `reason_field::of_node` meets its contract, from those of the functions that it calls, and from the counts that 21 lets pass. Assumes nothing.
use Rattle.map_lumps.specs.Lumps.{map_lumps}
use Rattle.reason_field.proofs.Counting.{nodes_few, subsectors-counted}
use borrow.Author.Rules.{rules}
use mathlib.Core.Path.{◌∙◌}
use Rattle.reason_range.specs.Fields.{first_out}
use Rattle.record_field.specs.Records.{record_bytes}
use Rattle.record.specs.Nodes.{node_size}
use Rattle.node.specs.Nodes.{nodes_of}
use Rattle.reason_record.specs.RecordFields.{node_fields}
use Rattle.reason_field.proofs.Counting.{told}
use Rattle.reason_field.proofs.of_node.Goals as goal

pub check_node-requires : goal.check_node-requires
check_node-requires c =
    let lumps = map_lumps c.args.lumps.now.wad.now c.args.lumps.now.dir.now c.args.lumps.now.marker in
    rw (c.record_count.ensures, c.lump.ensures) (
      search rules,
      nodes_few c.args.hexen lumps c.requires.counts,
      subsectors-counted c.args.hexen lumps c.requires.counts,
    )

pub returns : goal.returns
returns c =
    let check = c.check_node.ensures in
    let t = told (node_fields (record_bytes c.lump.result.now node_size c.args.i) (nodes_of c.lump.result.now) c.record_count.result) c.named.ensures check.first check.fits in
    (t.0 ∙ (λ j. first_out (node_fields (record_bytes (c.lump.ensures j) node_size c.args.i) (nodes_of (c.lump.ensures j)) (c.record_count.ensures j))), t.1)
