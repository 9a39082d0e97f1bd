-- `text_token::token_at` meets its contract. Assumes nothing.
use mathlib.Core.Path.{◌≡◌}
use Rattle.text_token.specs.Tokens.{token_at}
use Rattle.text_token.proofs.Tokens.{placed_as}
use Rattle.text_token.proofs.token_at.Goals as goal

pub returns-clause-placed : goal.returns-clause-placed
returns-clause-placed c =
    let a = c.args in
    let e : c.token_behind.result ≡ token_at a.text.now a.at = rw (← c.gap_at.ensures) c.token_behind.ensures in
    placed_as a.text.now a.at e
