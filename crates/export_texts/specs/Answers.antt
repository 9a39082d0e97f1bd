-- Answers on a text map: its summary, the next block, and a block's record by its number or from a place on (W-206).
-- Where one is refused all its other fields are 0. Assumes nothing.
use Rattle.std.specs.Prelude.{ℕ, List, ◌≡◌, ℤ, Result, Ok, Err}
use Rattle.text_token.specs.Tokens.{bytes_of}
use Rattle.text_table.specs.declared.scope.Scope.TheVariants.{Vertex, Linedef, Sidedef, Sector, Thing}
use Rattle.text_table.specs.Table.{default_of}
use Rattle.text_record.specs.Records.{text_vertex_of, text_linedef_of, text_sidedef_of, text_sector_of, text_thing_of}
use Rattle.text_map.specs.declared.TextSummary.{TextSummary}
use Rattle.text_map.specs.declared.TextBlock.{TextBlock}
use Rattle.text_map.specs.declared.BlockFields.{BlockFields}
use Rattle.refusal.specs.declared.Refusal.{Refusal}
use Rattle.text_map.specs.Answers.{text_answer, block_answer, next_from, block_fields, block_places, rows_by, numbered, first_from, id_by, id_of}
use Rattle.refusal.specs.Status.{accepted, refused, status_of}
use Rattle.export_texts.specs.declared.TextMapAnswer.{TextMapAnswer}
use Rattle.export_texts.specs.declared.TextBlockAnswer.{TextBlockAnswer}
use Rattle.export_texts.specs.declared.records.TextVertexAnswer.{TextVertexAnswer}
use Rattle.export_texts.specs.declared.records.TextLinedefAnswer.{TextLinedefAnswer}
use Rattle.export_texts.specs.declared.records.TextSidedefAnswer.{TextSidedefAnswer}
use Rattle.export_texts.specs.declared.records.TextSectorAnswer.{TextSectorAnswer}
use Rattle.export_texts.specs.declared.records.TextThingAnswer.{TextThingAnswer}

-- the namespace's places and the counts
abbrev pub summary_out : Result TextSummary Refusal → TextMapAnswer
summary_out (Ok s) = record {
  status = accepted;
  namespace_start = s.namespace.start;
  namespace_end = s.namespace.end;
  vertices = s.counts.vertices;
  linedefs = s.counts.linedefs;
  sidedefs = s.counts.sidedefs;
  sectors = s.counts.sectors;
  things = s.counts.things;
}
summary_out (Err r) = record {
  status = refused r;
  namespace_start = 0;
  namespace_end = 0;
  vertices = 0;
  linedefs = 0;
  sidedefs = 0;
  sectors = 0;
  things = 0;
}

abbrev pub TextJudged : List ℕ → TextMapAnswer → Type 0
TextJudged text answer = answer ≡ summary_out (text_answer text)

-- a block's kind and the place of its name
abbrev pub block_out : Result TextBlock Refusal → TextBlockAnswer
block_out (Ok b) = record { status = accepted; kind = b.kind; start = b.start }
block_out (Err r) = record { status = refused r; kind = 0; start = 0 }

-- the first block of a known kind from a place on
abbrev pub BlockFound : List ℕ → ℕ → TextBlockAnswer → Type 0
BlockFound text place answer = answer ≡ block_out (block_answer (next_from text place))

-- the record of a block, and the place behind it
abbrev pub vertex_out : List ℕ → BlockFields → List ℕ → TextVertexAnswer
vertex_out text f places = record { status = status_of f.check; vertex = text_vertex_of text places; next = f.next }

-- of a linedef with its id's default
abbrev pub linedef_out : List ℕ → ℤ → BlockFields → List ℕ → TextLinedefAnswer
linedef_out text id f places =
    let defaults = default_of (rows_by Linedef f.check) in
    record { status = status_of f.check; linedef = text_linedef_of text places defaults id; next = f.next }

abbrev pub sidedef_out : List ℕ → BlockFields → List ℕ → TextSidedefAnswer
sidedef_out text f places =
    let defaults = default_of (rows_by Sidedef f.check) in
    record { status = status_of f.check; sidedef = text_sidedef_of text places defaults; next = f.next }

abbrev pub sector_out : List ℕ → BlockFields → List ℕ → TextSectorAnswer
sector_out text f places =
    let defaults = default_of (rows_by Sector f.check) in
    record { status = status_of f.check; sector = text_sector_of text places defaults; next = f.next }

abbrev pub thing_out : List ℕ → BlockFields → List ℕ → TextThingAnswer
thing_out text f places =
    let defaults = default_of (rows_by Thing f.check) in
    record { status = status_of f.check; thing = text_thing_of text places defaults; next = f.next }

-- block `number` of each kind, after the whole text was judged; a linedef's id is by the text's namespace
abbrev pub VertexNumbered : List ℕ → ℕ → TextVertexAnswer → Type 0
VertexNumbered text number answer = let s = numbered text Vertex number in answer ≡ vertex_out text (block_fields text s) (block_places s)

abbrev pub LinedefNumbered : List ℕ → ℕ → TextLinedefAnswer → Type 0
LinedefNumbered text number answer =
    let s = numbered text Linedef number in
    let f = block_fields text s in
    answer ≡ linedef_out text (id_of text f.namespace) f (block_places s)

abbrev pub SidedefNumbered : List ℕ → ℕ → TextSidedefAnswer → Type 0
SidedefNumbered text number answer = let s = numbered text Sidedef number in answer ≡ sidedef_out text (block_fields text s) (block_places s)

abbrev pub SectorNumbered : List ℕ → ℕ → TextSectorAnswer → Type 0
SectorNumbered text number answer = let s = numbered text Sector number in answer ≡ sector_out text (block_fields text s) (block_places s)

abbrev pub ThingNumbered : List ℕ → ℕ → TextThingAnswer → Type 0
ThingNumbered text number answer = let s = numbered text Thing number in answer ≡ thing_out text (block_fields text s) (block_places s)

-- the first block of each kind among the statements from a place on; a linedef's id is by the namespace that is named by its places
abbrev pub VertexFrom : List ℕ → ℕ → TextVertexAnswer → Type 0
VertexFrom text place answer = let s = first_from text Vertex place in answer ≡ vertex_out text (block_fields text s) (block_places s)

abbrev pub LinedefFrom : List ℕ → ℕ → ℕ → ℕ → TextLinedefAnswer → Type 0
LinedefFrom text place start end answer =
    let s = first_from text Linedef place in
    answer ≡ linedef_out text (id_by (bytes_of text start end)) (block_fields text s) (block_places s)

abbrev pub SidedefFrom : List ℕ → ℕ → TextSidedefAnswer → Type 0
SidedefFrom text place answer = let s = first_from text Sidedef place in answer ≡ sidedef_out text (block_fields text s) (block_places s)

abbrev pub SectorFrom : List ℕ → ℕ → TextSectorAnswer → Type 0
SectorFrom text place answer = let s = first_from text Sector place in answer ≡ sector_out text (block_fields text s) (block_places s)

abbrev pub ThingFrom : List ℕ → ℕ → TextThingAnswer → Type 0
ThingFrom text place answer = let s = first_from text Thing place in answer ≡ thing_out text (block_fields text s) (block_places s)
