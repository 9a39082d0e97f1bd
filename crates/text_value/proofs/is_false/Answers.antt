-- `text_value::is_false` meets its contract: the library's comparison says the same of each letter. Assumes nothing.
use Rattle.std.proofs.Common.{codes, refl}
use Rattle.text_byte.proofs.Letters.{as-named}
use Rattle.text_value.proofs.Keywords.{false-same, same-false}
use Rattle.text_value.proofs.is_false.Goals as goal

pub returns : goal.returns
returns c =
    let word = c.args.word.now in
    as-named word (codes "false") refl c.eq_ignore_ascii_case.ensures.test (false-same word) (same-false word)
