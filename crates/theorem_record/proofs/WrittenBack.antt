-- Each kind's write promises a replacement, and `KindsLossless` says that it leaves the lump as it was. Assumes nothing.
use Prim.Native.Nat.{ℕ, ◌*◌}
use mathlib.Core.Bool.{Bool, true, false, cond}
use mathlib.Core.List.{List}
use mathlib.Core.Path.{◌≡◌, refl, sym, ap, subst, ◌∙◌}
use native.Mathlib.Omega.{arith}
use lib.ListN.{replicate}
use lib.Seq.{paste}
use Rattle.std.specs.Prelude.{Result, Ok, Err}
use Rattle.std.specs.Result.{result_and}
use Rattle.endian.specs.Unsigned.{Bytes}
use Rattle.refusal.specs.declared.Refusal.{Refusal}
use Rattle.refusal.specs.declared.Refusal.TheVariants.{RecordBounds, RecordFields}
use Rattle.refusal.specs.Checks.{unless, ◌and_then◌}
use Rattle.record_field.specs.Records.{inside, record_bytes, replaced}
use Rattle.record_field.specs.Lossless.{Lossless}
use Rattle.record_field.proofs.Records.{bytes-record_bytes}
use Rattle.record_thing.specs.Things.{thing_size, thing_of, thing_bytes, thing_fields_ok, ThingFits}
use Rattle.record_linedef.specs.Linedefs.{linedef_size, linedef_of, linedef_bytes, linedef_fields_ok, LinedefFits}
use Rattle.record_thing.specs.declared.Thing.{Thing}
use Rattle.record_linedef.specs.declared.Linedef.{Linedef}
use Rattle.record.specs.Sidedefs.{sidedef_of, sidedef_bytes, SidedefFits}
use Rattle.record.specs.Vertexes.{vertex_of, vertex_bytes, VertexFits}
use Rattle.record.specs.Segs.{seg_of, seg_bytes, SegFits}
use Rattle.record.specs.Subsectors.{subsector_of, subsector_bytes, SubsectorFits}
use Rattle.record.specs.Nodes.{node_of, node_bytes, NodeFits}
use Rattle.record.specs.Sectors.{sector_of, sector_bytes, SectorFits}
use Rattle.record_table.proofs.EightKinds.{kinds_lossless}
use Rattle.refusal.specs.declared.status.Status.{Status}
use Rattle.refusal.specs.Status.{accepted, refused, status_of}
use Rattle.export_records.specs.Records.{RecordWritten, RecordWrittenIf, ThingWritten, LinedefWritten, thing_out, linedef_out, sidedef_out, vertex_out, seg_out, subsector_out, node_out, sector_out}
use Rattle.theorem_record.specs.WrittenBack.{Unchanged, RecordsWrittenBack}

-- a refusal is no acceptance
not-accepted : refused RecordBounds ≡ accepted → ⊥
not-accepted e = let q : ◌≡◌ {A = ℕ} 60 0 = ap (λ (s : Status). s.number) e in omega arith

-- a kind of record, and an answer with its status and its record
module _ {R : Type 0} (size : ℕ) (decode : List ℕ → R) (encode : R → List ℕ) (Fits : R → Type 0)
    (kind : Lossless size decode encode Fits) (status : Result R Refusal → Status) (item : Result R Refusal → R)
    (passes : (r : R) → status (Ok r) ≡ accepted) (gives : (r : R) → item (Ok r) ≡ r)
    (falls : status (Err RecordBounds) ≡ refused RecordBounds)
    (lump : List ℕ) (index : ℕ) (answer : Status) (left : List ℕ) (h : Bytes lump) where
  -- the record's fields, and what a read answers by whether it is inside
  abbrev here : R
  here = decode (record_bytes lump size index)

  abbrev read_of : Bool → Result R Refusal
  read_of b = result_and (unless b RecordBounds) (Ok here)

  same_bytes : inside lump size index ≡ true → replaced lump size index (encode here) ≡ lump
  same_bytes e =
      subst
      (λ (b : Bool). replaced lump size index (encode (decode (cond b (record_bytes lump size index) (replicate size 0)))) ≡ lump)
      e
      (kind.write_back lump index h)

  written-back : (b : Bool) → inside lump size index ≡ b → RecordWritten lump size index (encode (item (read_of b))) answer left
      → Unchanged lump (status (read_of b)) answer left
  written-back true e w =
      record {
        status = w.answers ∙ ap (λ (b : Bool). status_of (unless b RecordBounds)) e ∙ sym (passes here);
        bytes = w.leaves ∙ ap (λ (r : R). replaced lump size index (encode r)) (gives here) ∙ same_bytes e;
      }
  written-back false e w =
      record {
        status = w.answers ∙ ap (λ (b : Bool). status_of (unless b RecordBounds)) e ∙ sym falls;
        bytes = w.leaves ∙ ap (λ (b : Bool). cond b (paste lump (size * index) (encode (item (Err RecordBounds))) size) lump) e;
      }

  -- a kind whose records are written only where they are good: what was read is
  written-back-good : (good : R → Bool) → good here ≡ true → inside lump size index ≡ true
      → RecordWrittenIf (good (item (Ok here))) lump size index (encode (item (Ok here))) answer left
      → Unchanged lump (status (Ok here)) answer left
  written-back-good good ok e w =
      let g : good (item (Ok here)) ≡ true = ap good (gives here) ∙ ok in
      record {
        status = w.answers ∙ (λ i. status_of (unless (e i) RecordBounds and_then unless (g i) RecordFields)) ∙ sym (passes here);
        bytes = w.leaves
            ∙ ap (λ (b : Bool). cond b (replaced lump size index (encode (item (Ok here)))) lump) g
            ∙ ap (λ (r : R). replaced lump size index (encode r)) (gives here)
            ∙ same_bytes e;
      }

module _ (lump : List ℕ) (index : ℕ) (answer : Status) (left : List ℕ) (h : Bytes lump) where
  abbrev thing_read : Bool → Bool → Result Thing Refusal
  thing_read hexen b = result_and (unless b RecordBounds) (Ok (thing_of hexen (record_bytes lump (thing_size hexen) index)))

  thing-back : (hexen b : Bool) → inside lump (thing_size hexen) index ≡ b → (thing_out (thing_read hexen b)).status ≡ accepted
      → ThingWritten lump index (thing_out (thing_read hexen b)).thing answer left
      → Unchanged lump (thing_out (thing_read hexen b)).status answer left
  thing-back true true e read w =
      written-back-good 20 (thing_of true) (thing_bytes true) (ThingFits true) (kinds_lossless.thing true)
      (λ r. (thing_out r).status) (λ r. (thing_out r).thing) (λ r. refl) (λ r. refl) refl lump index answer left h
      thing_fields_ok (kinds_lossless.thing_accepted true (record_bytes lump 20 index) (bytes-record_bytes lump 20 index h)) e w
  thing-back false true e read w =
      written-back-good 10 (thing_of false) (thing_bytes false) (ThingFits false) (kinds_lossless.thing false)
      (λ r. (thing_out r).status) (λ r. (thing_out r).thing) (λ r. refl) (λ r. refl) refl lump index answer left h
      thing_fields_ok (kinds_lossless.thing_accepted false (record_bytes lump 10 index) (bytes-record_bytes lump 10 index h)) e w
  thing-back hexen false e read w = absurd (not-accepted read)

  abbrev linedef_read : Bool → Bool → Result Linedef Refusal
  linedef_read hexen b = result_and (unless b RecordBounds) (Ok (linedef_of hexen (record_bytes lump (linedef_size hexen) index)))

  linedef-back : (hexen b : Bool) → inside lump (linedef_size hexen) index ≡ b → (linedef_out (linedef_read hexen b)).status ≡ accepted
      → LinedefWritten lump index (linedef_out (linedef_read hexen b)).linedef answer left
      → Unchanged lump (linedef_out (linedef_read hexen b)).status answer left
  linedef-back true true e read w =
      written-back-good 16 (linedef_of true) (linedef_bytes true) (LinedefFits true) (kinds_lossless.linedef true)
      (λ r. (linedef_out r).status) (λ r. (linedef_out r).linedef) (λ r. refl) (λ r. refl) refl lump index answer left h
      linedef_fields_ok (kinds_lossless.linedef_accepted true (record_bytes lump 16 index) (bytes-record_bytes lump 16 index h)) e w
  linedef-back false true e read w =
      written-back-good 14 (linedef_of false) (linedef_bytes false) (LinedefFits false) (kinds_lossless.linedef false)
      (λ r. (linedef_out r).status) (λ r. (linedef_out r).linedef) (λ r. refl) (λ r. refl) refl lump index answer left h
      linedef_fields_ok (kinds_lossless.linedef_accepted false (record_bytes lump 14 index) (bytes-record_bytes lump 14 index h)) e w
  linedef-back hexen false e read w = absurd (not-accepted read)

pub records_written-back : RecordsWrittenBack
records_written-back =
    record {
      thing = λ hexen lump index answer left h read w. thing-back lump index answer left h hexen (inside lump (thing_size hexen) index) refl read w;
      linedef = λ hexen lump index answer left h read w. linedef-back lump index answer left h hexen (inside lump (linedef_size hexen) index) refl read w;
      sidedef = λ lump index answer left h w.
          written-back 30 sidedef_of sidedef_bytes SidedefFits kinds_lossless.sidedef (λ r. (sidedef_out r).status) (λ r. (sidedef_out r).sidedef)
          (λ r. refl) (λ r. refl) refl lump index answer left h (inside lump 30 index) refl w;
      vertex = λ lump index answer left h w.
          written-back 4 vertex_of vertex_bytes VertexFits kinds_lossless.vertex (λ r. (vertex_out r).status) (λ r. (vertex_out r).vertex)
          (λ r. refl) (λ r. refl) refl lump index answer left h (inside lump 4 index) refl w;
      seg = λ lump index answer left h w.
          written-back 12 seg_of seg_bytes SegFits kinds_lossless.seg (λ r. (seg_out r).status) (λ r. (seg_out r).seg)
          (λ r. refl) (λ r. refl) refl lump index answer left h (inside lump 12 index) refl w;
      subsector = λ lump index answer left h w.
          written-back 4 subsector_of subsector_bytes SubsectorFits kinds_lossless.subsector (λ r. (subsector_out r).status) (λ r. (subsector_out r).subsector)
          (λ r. refl) (λ r. refl) refl lump index answer left h (inside lump 4 index) refl w;
      node = λ lump index answer left h w.
          written-back 28 node_of node_bytes NodeFits kinds_lossless.node (λ r. (node_out r).status) (λ r. (node_out r).node)
          (λ r. refl) (λ r. refl) refl lump index answer left h (inside lump 28 index) refl w;
      sector = λ lump index answer left h w.
          written-back 26 sector_of sector_bytes SectorFits kinds_lossless.sector (λ r. (sector_out r).status) (λ r. (sector_out r).sector)
          (λ r. refl) (λ r. refl) refl lump index answer left h (inside lump 26 index) refl w;
    }
