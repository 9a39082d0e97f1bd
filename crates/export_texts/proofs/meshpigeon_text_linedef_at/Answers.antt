-- `export_texts::meshpigeon_text_linedef_at` meets its contract, by the answer of the layer below. Assumes nothing.
use mir.Syntax.{w32}
use mir.ValLaws.{to_z-of_z}
use Rattle.export_texts.proofs.meshpigeon_text_linedef_at.Goals as goal

pub returns : goal.returns
returns c = cc (to_z-of_z w32 c.id_by-id.result (record { sfits = c.id_by-id.type_inv }))
