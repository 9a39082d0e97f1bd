-- `text_value::is_true` meets its contract: the library's comparison says the same of each letter. Assumes nothing.
use Rattle.std.proofs.Common.{codes, refl}
use Rattle.text_byte.proofs.Letters.{as-named}
use Rattle.text_value.proofs.Keywords.{true-same, same-true}
use Rattle.text_value.proofs.is_true.Goals as goal

pub returns : goal.returns
returns c =
    let word = c.args.word.now in
    as-named word (codes "true") refl c.eq_ignore_ascii_case.ensures.test (true-same word) (same-true word)
