-- What contracts of inner functions cite, and that of `blank_end`: a gap read comment by comment. Assumes nothing.
use Rattle.std.specs.Prelude.{ℕ, ◌-◌, ◌≤◌, ◌<◌, Bool, true, false, not, ◌&&◌, List, ◌≡◌, eqb, ltb, length, get_or}
use Rattle.text_byte.specs.Bytes.{slash, is_blank}
pub use Rattle.text_byte.specs.Spans.{other_at}
use Rattle.text_byte.specs.Spans.{span_end}
use Rattle.text_gap.specs.declared.Mode.{Mode}
use Rattle.text_gap.specs.declared.Mode.TheVariants.{Between, Line, Opening, Comment, Star, Stop}
use Rattle.text_gap.specs.declared.Gap.{Gap}
use Rattle.text_gap.specs.Gaps.{gap_from}

-- the byte at a place is white space
abbrev pub blank_at : List ℕ → ℕ → Bool
blank_at text i = is_blank (get_or text i 0)

-- the first place from `at` on that holds `b`, or the text's end
abbrev pub other_end : List ℕ → ℕ → ℕ → ℕ
other_end text b at = span_end (other_at text b) at (length text - at)

-- neither white space nor a slash stands at a place inside: a token's first byte, whatever follows
abbrev pub starts_token : List ℕ → ℕ → Bool
starts_token text at = ltb at (length text) && (not (is_blank (get_or text at 0)) && not (eqb (get_or text at 0) slash))

-- from `at` to `to` a gap is read in one mode
pub record Stays (text : List ℕ) (mode : Mode) (at to : ℕ) : Type 0 where
  pub same : gap_from text mode at (length text - at) ≡ gap_from text mode to (length text - to)
  pub onward : at ≤ to
  pub inside : to ≤ length text

-- between tokens
abbrev pub is_between : Mode → Bool
is_between Between = true
is_between Line = false
is_between Opening = false
is_between Comment = false
is_between Star = false
is_between Stop = false

-- a gap that was read up to `g` ends as it ends from `at` on: further on between tokens, or there
pub record Ends (text : List ℕ) (mode : Mode) (at : ℕ) (g : Gap) : Type 0 where
  pub same : gap_from text mode at (length text - at) ≡ gap_from text g.mode g.at (length text - g.at)
  pub onward : is_between g.mode ≡ true → at < g.at
  pub ended : is_between g.mode ≡ false → gap_from text g.mode g.at (length text - g.at) ≡ g
