-- A text map from a place on (02, W-206): token by token up to its end, its first fault, or the end of the block that is asked for.
-- Assumes nothing.
use Rattle.std.specs.Prelude.{ℕ, suc, Bool, true, false, not, ◌&&◌, cond, List, length, Ok}
use Rattle.text_token.specs.Tokens.{token_at}
use Rattle.text_table.specs.declared.scope.Scope.TheVariants.{Top}
use Rattle.text_block.specs.declared.Asked.{Asked}
use Rattle.text_block.specs.declared.Wanted.{Wanted}
use Rattle.text_block.specs.declared.Wanted.TheVariants.{Statement, Equals, Value, Semicolon, NoMore}
use Rattle.text_step.specs.declared.Parse.{Parse}
use Rattle.text_reader.specs.Runs.{runs}
use Rattle.text_block.specs.Blocks.{counts, no_places, filed}
use Rattle.text_step.specs.Steps.{notes, parse, step_by}

-- how far a text was read; of each field of the open block the place of its last value; and those of the block that was asked for
pub record Stand : Type 0 where
  pub parse : Parse
  pub places : List ℕ
  pub kept : List ℕ

abbrev pub stand : Parse → List ℕ → List ℕ → Stand
stand parse places kept = record { parse = parse; places = places; kept = kept }

-- more is wanted
abbrev pub is_more : Wanted → Bool
is_more Statement = true
is_more (Equals start end) = true
is_more (Value field) = true
is_more (Semicolon field place) = true
is_more NoMore = false

abbrev pub goes : Stand → Bool
goes s = is_more s.parse.wanted

-- the places are kept where the block that is asked for ends
abbrev pub kept_after : Parse → Parse → List ℕ → List ℕ → List ℕ
kept_after before after places kept = cond (not before.notes.found && after.notes.found) places kept

-- one token more
abbrev pub token_more : List ℕ → Asked → Stand → Stand
token_more text asked s =
    let t = token_at text s.parse.at in
    let after = step_by text asked s.places s.parse t s.parse.wanted in
    stand after (filed s.parse.wanted t s.places) (kept_after s.parse after s.places s.kept)

-- before the statements from a place on
abbrev pub start_at : ℕ → Parse
start_at from = parse Statement Top 0 from (Ok tt) (notes 0 (counts 0 0 0 0 0) false Top 0 0)

-- the text from a place on. A token takes a byte at least, so that it is read to its end
abbrev pub text_from : List ℕ → Asked → ℕ → Stand
text_from text asked from = runs goes (token_more text asked) (suc (length text)) (stand (start_at from) no_places no_places)
