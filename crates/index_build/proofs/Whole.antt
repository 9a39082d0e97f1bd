-- What is built as a whole: the stores of the head and of the sorted records are the index in front of the output. Assumes nothing.
use Prim.Native.Nat.{ℕ, zero, suc, ◌+◌, ◌<◌}
use mathlib.Core.List.{List, ◌++◌, append_assoc, append-nil}
use mathlib.Core.Path.{◌≡◌, refl, sym, ap, ◌∙◌}
use native.Mathlib.Nat.{zero-add}
use native.Mathlib.Omega.{arith}
use lib.ListN.{length, get_or, drop, length-append}
use lib.Seq.{sets, sets-eq}
use Rattle.refusal.specs.Checks.{Check}
use Rattle.refusal.specs.declared.Refusal.{Refusal}
use Rattle.std.specs.Prelude.{Ok, Err}
use Rattle.layout.specs.Rows.{laid_out}
use Rattle.layout.specs.Buffers.{buffer_after}
use Rattle.layout.proofs.LaidOut.{laid_none, laid_suc, length_parts}
use Rattle.layout.proofs.Stores.{sets_append}
use Rattle.wad.specs.Header.{head_of, entry_count}
use Rattle.wad.specs.Entries.{directory_of}
use Rattle.index.specs.declared.IndexRecord.{IndexRecord}
use Rattle.index.specs.Records.{no_record}
use Rattle.index.specs.Index.{index_head_size, index_record_size, record_offset, index_head, index_record_bytes, sorted_records, index_bytes}
use Rattle.index.proofs.Bytes.{row-length, index_size}
use Rattle.index.proofs.Holds.{index_length}
use Rattle.index_build.specs.Building.{build_check, building_of, records_after, Builds}
use Rattle.index_build.specs.Inner.{written}
use Rattle.index_build.proofs.Bytes.{written_none, written-suc}
use Rattle.index_build.proofs.Rooms.{passed}

-- ---- records stored behind a head are laid out behind it

module _ (records : List IndexRecord) (head out : List ℕ) (eleven : length head ≡ index_head_size) where
  abbrev row : ℕ → List ℕ
  row i = index_record_bytes (get_or records i no_record)

  written_laid : (n : ℕ) → ((i : ℕ) → i < n → length (row i) ≡ index_record_size)
      → written records n (sets out 0 head) ≡ sets out 0 (head ++ laid_out row n)
  written_laid zero tens =
      sym (written_none records (sets out 0 head))
      ∙ ap (λ (l : List ℕ). sets out 0 l) (sym (append-nil head) ∙ ap (λ (l : List ℕ). head ++ l) (sym (laid_none row)))
  written_laid (suc n) tens =
      let before = written_laid n (λ i h. tens i (omega arith)) in
      let rows = length_parts row index_record_size n (λ i h. tens i (omega arith)) in
      let both = length-append head (laid_out row n) in
      let place : record_offset n ≡ 0 + length (head ++ laid_out row n) = omega (arith, both, rows, eleven) in
      written-suc records n (sets out 0 head)
      ∙ ap (λ (l : List ℕ). sets l (record_offset n) (row n)) before
      ∙ ap (λ (k : ℕ). sets (sets out 0 (head ++ laid_out row n)) k (row n)) place
      ∙ sets_append out 0 (head ++ laid_out row n) (row n)
      ∙ ap (λ (l : List ℕ). sets out 0 l) (append_assoc head (laid_out row n) (row n) ∙ ap (λ (l : List ℕ). head ++ l) (sym (laid_suc row n)))

-- ---- what is built

module _ (wad : List ℕ) (ys : List IndexRecord) (os : List ℕ) where
  abbrev pub count : ℕ
  count = entry_count (head_of wad)

  abbrev pub check : Check
  check = build_check wad (length ys) (length os)

  pub build_refused : {r : Refusal} → ◌≡◌ {A = Check} (Err r) check → Builds wad ys os (Err r) ys os
  build_refused e =
      record {
        answers = ap (λ (k : Check). building_of k (record_offset count)) e;
        sorts = ap (λ (k : Check). records_after k (sorted_records wad) ys) e;
        writes = ap (λ (k : Check). buffer_after k (index_bytes wad) os) e;
      }

  pub build_accepted : {zs : List IndexRecord} {out : List ℕ} → ◌≡◌ {A = Check} (Ok tt) check → zs ≡ sorted_records wad
      → out ≡ written zs count (sets os 0 (index_head wad)) → Builds wad ys os (Ok (record_offset count)) (zs ++ drop count ys) out
  build_accepted {zs} {out} e z o =
      let p = passed wad (length ys) (length os) (sym e) in
      let size = index_size wad in
      let long = sym (index_length (directory_of wad) count) in
      record {
        answers = ap (λ (k : Check). building_of k (record_offset count)) e;
        sorts = (λ i. z i ++ drop (long i) ys) ∙ ap (λ (k : Check). records_after k (sorted_records wad) ys) e;
        writes =
            o ∙ ap (λ (l : List IndexRecord). written l count (sets os 0 (index_head wad))) z
            ∙ written_laid (sorted_records wad) (index_head wad) os refl count (row-length wad)
            ∙ sets-eq (index_bytes wad) os 0 (omega (arith, size, p.fits))
            ∙ ap (λ (n : ℕ). index_bytes wad ++ drop n os) (zero-add (length (index_bytes wad)))
            ∙ ap (λ (k : Check). buffer_after k (index_bytes wad) os) e;
      }
