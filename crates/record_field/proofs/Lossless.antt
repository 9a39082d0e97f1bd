-- Reading and writing by number lose nothing, for every kind whose fields and bytes determine each other. Assumes nothing.
use Prim.Native.Nat.{ℕ}
use mathlib.Core.Bool.{Bool, true, false, cond}
use mathlib.Core.Path.{◌≡◌, refl, sym, ap, ◌∙◌}
use mathlib.Core.List.{List}
use lib.ListN.{replicate}
use Rattle.std.specs.Prelude.{Ok}
use Rattle.std.specs.Result.{result_and}
use Rattle.refusal.specs.declared.Refusal.TheVariants.{RecordBounds}
use Rattle.refusal.specs.Checks.{unless}
use Rattle.endian.specs.Unsigned.{Bytes}
use Rattle.record_field.specs.Records.{inside, record_bytes, record_at, replaced}
use Rattle.record_field.specs.Lossless.{Codec, Lossless}
use Rattle.record_field.proofs.Records.{inside-fits, length-record_bytes, bytes-record_bytes, replaced-same, length-replaced, take-replaced, drop-replaced, inside-replaced, record_bytes-replaced, bytes_or_zeros-replaced}

module _ {R : Type 0} (size : ℕ) (decode : List ℕ → R) (encode : R → List ℕ) (InRange : R → Type 0)
    (k : Codec size decode encode InRange) (lump : List ℕ) (index : ℕ) (r : R) where
  read_written : InRange r → inside lump size index ≡ true → record_at size decode (replaced lump size index (encode r)) index ≡ Ok r
  read_written h e =
      ap (λ (b : Bool). result_and (unless b RecordBounds) (Ok (decode (record_bytes (replaced lump size index (encode r)) size index))))
      (inside-replaced lump size index (encode r) (k.length_encode r) e)
      ∙ ap (λ (bytes : List ℕ). Ok (decode bytes)) (record_bytes-replaced lump size index (encode r) (k.length_encode r) e)
      ∙ ap (λ (x : R). Ok x) (k.decode_encode r h)

  -- an answer that is no refusal came from a record that lies inside
  of_answer : (b : Bool) → inside lump size index ≡ b → result_and (unless b RecordBounds) (Ok (decode (record_bytes lump size index))) ≡ Ok r
      → (inside lump size index ≡ true) × (decode (record_bytes lump size index) ≡ r)
  of_answer true e a = (e, cc)
  of_answer false e a = absurd (cc)

  written_read : Bytes lump → record_at size decode lump index ≡ Ok r → replaced lump size index (encode r) ≡ lump
  written_read h a =
      let got = of_answer (inside lump size index) refl a in
      replaced-same lump size index (encode r)
      (λ (e : inside lump size index ≡ true).
      ap encode (sym got.1)
      ∙ k.encode_decode (record_bytes lump size index)
      (length-record_bytes lump size index (inside-fits lump size index e)) (bytes-record_bytes lump size index h))

pub lossless : {R : Type 0} (size : ℕ) (decode : List ℕ → R) (encode : R → List ℕ) (InRange : R → Type 0)
    → Codec size decode encode InRange → Lossless size decode encode InRange
lossless {R} size decode encode InRange k =
    record {
      read_written = read_written size decode encode InRange k;
      written_read = written_read size decode encode InRange k;
      write_back = λ lump index h.
          replaced-same lump size index _
          (λ (e : inside lump size index ≡ true).
          ap (λ (b : Bool). encode (decode (cond b (record_bytes lump size index) (replicate size 0)))) e
          ∙ k.encode_decode (record_bytes lump size index)
          (length-record_bytes lump size index (inside-fits lump size index e)) (bytes-record_bytes lump size index h));
      read_back = λ lump index r h e.
          ap decode (bytes_or_zeros-replaced lump size index (encode r) (k.length_encode r) e) ∙ k.decode_encode r h;
      before = λ lump index r. take-replaced lump size index (encode r) (k.length_encode r);
      after = λ lump index r. drop-replaced lump size index (encode r) (k.length_encode r);
      same_length = λ lump index r. length-replaced lump size index (encode r) (k.length_encode r);
    }
