-- What stands between tokens (02, W-206): white space and comments, which do not nest. Assumes nothing.
use Rattle.std.specs.Prelude.{ℕ, zero, suc, ◌+◌, Bool, true, false, cond, List, eqb, get_or}
use Rattle.text_gap.specs.declared.Mode.{Mode}
use Rattle.text_gap.specs.declared.Mode.TheVariants.{Between, Line, Opening, Comment, Star, Stop}
use Rattle.text_gap.specs.declared.Gap.{Gap}
use Rattle.text_byte.specs.Bytes.{newline, star, slash, is_blank, opens_line, opens_comment}

-- between tokens a byte `b`, with `c` behind it, is white space, opens a comment, or is a token's first
abbrev pub between : ℕ → ℕ → Mode
between b c = cond (is_blank b) Between (cond (opens_line b c) Line (cond (opens_comment b c) Opening Stop))

-- how the reading goes on behind the byte `b`, with `c` behind it
abbrev pub mode_after : Mode → ℕ → ℕ → Mode
mode_after Between b c = between b c
mode_after Line b c = cond (eqb b newline) Between Line
mode_after Opening b c = Comment
mode_after Comment b c = cond (eqb b star) Star Comment
mode_after Star b c = cond (eqb b slash) Between (cond (eqb b star) Star Comment)
mode_after Stop b c = Stop

-- a token's first byte stands here
abbrev pub is_stop : Mode → Bool
is_stop Between = false
is_stop Line = false
is_stop Opening = false
is_stop Comment = false
is_stop Star = false
is_stop Stop = true

-- inside a comment that wants its closing star and slash
abbrev pub is_open : Mode → Bool
is_open Between = false
is_open Line = false
is_open Opening = true
is_open Comment = true
is_open Star = true
is_open Stop = false

-- a gap read so far: how its reading goes on, and from which place
abbrev pub gap : Mode → ℕ → Gap
gap mode at = record { mode = mode; at = at }

-- the first of the `n` places from `at` on that is neither white space nor in a comment, or the place behind them
unfoldable pub gap_from : List ℕ → Mode → ℕ → ℕ → Gap
gap_from text mode at zero = gap mode at
gap_from text mode at (suc n) =
    let after = mode_after mode (get_or text at 0) (get_or text (at + 1) 0) in
    cond (is_stop after) (gap after at) (gap_from text after (at + 1) n)
