-- `export_texts::meshpigeon_text_sector` meets its contract, by the answer of the layer below. Assumes nothing.
use Rattle.export_texts.proofs.meshpigeon_text_sector.Goals as goal

pub returns : goal.returns
returns c = cc
