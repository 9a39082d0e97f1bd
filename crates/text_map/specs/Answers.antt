-- What a text map answers (02, W-206): its namespace and counts; and the fields of a block, by its kind and number or from a place on.
-- Assumes nothing.
use Rattle.std.specs.Prelude.{ℕ, not, cond, List, [], ℤ, pos, negsuc, Result, Ok, Err}
use Rattle.refusal.specs.declared.Refusal.TheVariants.{TextMissing}
use Rattle.refusal.specs.Checks.{Check}
use Rattle.refusal.specs.Checks.{unless, ◌and_then◌}
use Rattle.text_token.specs.Tokens.{bytes_of}
use Rattle.text_table.specs.declared.scope.Scope.{Scope}
use Rattle.text_table.specs.Scopes.{scope_number}
use Rattle.text_table.specs.Table.{Row, fields_of}
use Rattle.text_table.specs.Names.{zero_ids}
use Rattle.text_block.specs.declared.Asked.TheVariants.{Nothing, Numbered, First, Opening}
use Rattle.text_step.specs.declared.Parse.{Parse}
use Rattle.text_block.specs.Blocks.{no_places}
use Rattle.text_step.specs.Steps.{is_top}
use Rattle.text_reader.specs.Texts.{Stand, text_from}
use Rattle.text_record.specs.declared.given.Places.{Places}
use Rattle.text_record.specs.Fields.{value_at, between, string_or}
use Rattle.text_map.specs.declared.BlockFields.{BlockFields}
use Rattle.text_map.specs.declared.TextSummary.{TextSummary}
use Rattle.text_map.specs.declared.TextBlock.{TextBlock}
use Rattle.refusal.specs.declared.Refusal.{Refusal}

-- the places of the last namespace's string, both 0 where the text has none
abbrev pub namespace_of : List ℕ → Parse → Places
namespace_of text s = string_or (value_at text s.notes.namespace)

-- the summary of a text that was read to its end
abbrev pub summary_by : List ℕ → Parse → Check → Result TextSummary Refusal
summary_by text s (Ok _) = Ok (record { namespace = namespace_of text s; counts = s.notes.counts })
summary_by text s (Err r) = Err r

-- 90 to 93 of the whole text, or its namespace and how many blocks of each kind it has
abbrev pub text_answer : List ℕ → Result TextSummary Refusal
text_answer text = let s = (text_from text Nothing 0).parse in summary_by text s s.check

-- 90 to 93 of what was read, then 94 where the block that is asked for did not come
abbrev pub block_check : Parse → Check
block_check s = s.check and_then unless s.notes.found TextMissing

-- 90 to 93 of what was read, then 94 where no block opened
abbrev pub opened_check : Parse → Check
opened_check s = s.check and_then unless (not (is_top s.scope)) TextMissing

-- an open block: its kind as its number, and the place of its name
abbrev pub block_by : Parse → Check → Result TextBlock Refusal
block_by s (Ok _) = Ok (record { kind = scope_number s.scope; start = s.block })
block_by s (Err r) = Err r

abbrev pub block_answer : Stand → Result TextBlock Refusal
block_answer s = block_by s.parse (opened_check s.parse)

-- what a block's record is read from: the check; the place behind the block; and the namespace of what was read
abbrev pub fields_by : List ℕ → Parse → Check → BlockFields
fields_by text s (Ok _) = record { check = Ok tt; next = s.notes.next; namespace = namespace_of text s }
fields_by text s (Err r) = record { check = Err r; next = 0; namespace = between 0 0 }

abbrev pub block_fields : List ℕ → Stand → BlockFields
block_fields text s = fields_by text s.parse (block_check s.parse)

-- of each of its fields the place of its last value, and the rows of its kind. Where it is refused there are none, so
-- that the record that is read from them is all 0
abbrev pub places_by : List ℕ → Check → List ℕ
places_by kept (Ok _) = kept
places_by kept (Err r) = no_places

abbrev pub block_places : Stand → List ℕ
block_places s = places_by s.kept (block_check s.parse)

abbrev pub rows_by : Scope → Check → List Row
rows_by kind (Ok _) = fields_of kind
rows_by kind (Err r) = []

-- block `number` of a kind, after the whole text was judged
abbrev pub numbered : List ℕ → Scope → ℕ → Stand
numbered text kind number = text_from text (Numbered kind number) 0

-- the first block of a kind among the statements from a place on, as if the text began there
abbrev pub first_from : List ℕ → Scope → ℕ → Stand
first_from text kind place = text_from text (First kind) place

-- the first block of any known kind among them, up to its opening brace
abbrev pub next_from : List ℕ → ℕ → Stand
next_from text place = text_from text Opening place

-- a linedef's id by default: 0 in the namespaces Doom, Heretic and Strife, else -1
abbrev pub id_by : List ℕ → ℤ
id_by namespace = cond (zero_ids namespace) (pos 0) (negsuc 0)

-- by the namespace between two places of a text, as a summary and a block's fields give them
abbrev pub id_of : List ℕ → Places → ℤ
id_of text at = id_by (bytes_of text at.start at.end)
