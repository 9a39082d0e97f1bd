-- `map_blockmap::Lists::cell_ok` meets its contract: an offset that lies well is looked up in the notes. Assumes nothing.
use Prim.Native.Nat.{◌+◌, ◌≤◌}
use mathlib.Core.Path.{ap, ◌∙◌}
use native.Mathlib.Omega.{arith}
use Rattle.map_blockmap.specs.Blockmap.{cells_of, list_ok}
use Rattle.map_blockmap.proofs.Ending.{list_ok-noted}
use Rattle.map_blockmap.proofs.Lists.cell_ok.Goals as goal

pub returns : goal.returns
returns c =
    let word = c.word_at-offset in
    let lump = c.args.self.now.lump.now in
    let low : 4 + cells_of lump ≤ word.result = omega (arith, c.requires.cells_value.0) in
    list_ok-noted lump c.args.self.now.linedefs word.result low c.if-self-offset.false c.word_at.ensures.0
    (c.requires.noted.noted (word.result + 1) (omega arith) (omega arith))
    ∙ ap (list_ok lump c.args.self.now.linedefs) word.ensures.0
