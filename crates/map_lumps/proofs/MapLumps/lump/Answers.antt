-- `map_lumps::MapLumps::lump` meets its contract: the lump at a place is the part that its entry names. Assumes nothing.
use mathlib.Core.Path.{sym, ◌∙◌}
use Rattle.map_lumps.proofs.Places.{map_lump-place}
use Rattle.map_lumps.proofs.MapLumps.lump.Goals as goal

pub returns : goal.returns
returns c =
    c.lump_at.ensures ∙ sym (map_lump-place c.args.self.now.wad.now c.args.self.now.dir.now c.args.self.now.marker c.args.place c.requires.0 c.requires.1)
