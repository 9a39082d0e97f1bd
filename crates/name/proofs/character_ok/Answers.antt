-- `name::character_ok` meets its contract: the table of bits agrees with the ranges on every byte. Assumes nothing.
use borrow.Author.Rules.{rules}
use borrow.Author.Tests.{le-ltb}
use Rattle.name.proofs.Characters.{table_is}
use Rattle.name.proofs.character_ok.Goals as goal

pub returns : goal.returns
returns c =
    let b = c.args.c in
    rw (← table_is b (search rules), le-ltb b 45 (search rules), le-ltb 95 b (search rules))
