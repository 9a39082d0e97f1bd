-- `index::precedes` meets its contract: the order of names is that of their keys. Assumes nothing.
use lib.Dec.{ltb}
use Rattle.index.proofs.NameKeys.{key_order}
use Rattle.index.proofs.precedes.Goals as goal

pub returns : goal.returns
returns c =
    let one = c.key_of-x.ensures in
    let two = c.key_of-y.ensures in
    let a = c.args in
    rw (one.0, two.0) (key_order a.a.name a.b.name one.1 two.1 8 (ltb a.a.number a.b.number))
