-- What stands where in an index. Assumes nothing.
use Prim.Native.Nat.{ℕ, ◌+◌, ◌*◌, ◌/◌, ◌%◌, ◌<◌}
use mathlib.Core.List.{List}
use mathlib.Core.Path.{◌≡◌, refl, sym, ap, ◌∙◌}
use native.Mathlib.Omega.{arith}
use lib.ListN.{length, get_or, take, drop, length-append}
use lib.Seq.{take-take, take_at, drop-append-add, get_or-take, get_or-drop, get_or-append-add}
use Rattle.endian.specs.Unsigned.{u16_at, u32_at, u16_bytes}
use Rattle.endian.proofs.Unsigned.{u16_whole}
use Rattle.layout.specs.Rows.{laid_out}
use Rattle.layout.proofs.LaidOut.{length_parts, part_at}
use Rattle.wad.specs.Slices.{part}
use Rattle.wad.specs.Header.{head_of, entry_count}
use Rattle.wad.specs.Entries.{directory_of, entry_name}
use Rattle.index.specs.declared.IndexRecord.{IndexRecord}
use Rattle.index.specs.Records.{no_record}
use Rattle.index.specs.Index.{index_mark, count_place, length_place, version_place, index_record_size, record_offset, index_head, index_record_bytes, sorted_records, index_bytes}
use Rattle.index.proofs.Padded.{padded-length}
use Rattle.index.proofs.Holds.{index_holds}

module _ (wad : List ℕ) where
  abbrev count : ℕ
  count = entry_count (head_of wad)

  abbrev at : ℕ → IndexRecord
  at i = get_or (sorted_records wad) i no_record

  abbrev rows : List ℕ
  rows = laid_out (λ i. index_record_bytes (at i)) count

  -- ---- the head

  pub index_mark_lem : take 3 (index_bytes wad) ≡ index_mark
  index_mark_lem = refl

  pub index_version_lem : u16_at (index_bytes wad) version_place ≡ 1
  index_version_lem = refl

  pub index_count : u16_at (index_bytes wad) count_place ≡ count
  index_count = u16_whole count

  pub index_of : u32_at (index_bytes wad) length_place ≡ length wad
  index_of =
      let low = u16_whole (length wad % 65536) in
      let high = u16_whole (length wad / 65536) in
      rw (low, high) (omega arith)

  -- ---- the records

  name-length : (i : ℕ) → i < count → length (at i).name ≡ 8
  name-length i h =
      let holds = index_holds (directory_of wad) count in
      let (k, (low, is)) = holds.entries i (omega (arith, holds.long, h)) in
      ap (λ (r : IndexRecord). length r.name) is ∙ padded-length (entry_name (directory_of wad) k)

  pub row-length : (i : ℕ) → i < count → length (index_record_bytes (at i)) ≡ index_record_size
  row-length i h =
      let e = length-append (at i).name (u16_bytes (at i).number) in
      let n = name-length i h in
      omega arith

  pub index_size : length (index_bytes wad) ≡ record_offset count
  index_size =
      let e = length-append (index_head wad) rows in
      let n = length_parts (λ i. index_record_bytes (at i)) index_record_size count row-length in
      omega arith

  row_at : (i : ℕ) → i < count → take 10 (drop (record_offset i) (index_bytes wad)) ≡ index_record_bytes (at i)
  row_at i h =
      ap (take 10) (drop-append-add (index_head wad) rows (index_record_size * i))
      ∙ part_at (λ i. index_record_bytes (at i)) index_record_size count row-length i h

  pub name-at : (i : ℕ) → i < count → part (index_bytes wad) (record_offset i) 8 ≡ (at i).name
  name-at i h =
      sym (take-take 8 10 (drop (record_offset i) (index_bytes wad)) (omega arith))
      ∙ ap (take 8) (row_at i h) ∙ take_at (at i).name (u16_bytes (at i).number) 8 (name-length i h)

  number-byte : (i k : ℕ) → i < count → k < 2 → get_or (index_bytes wad) (record_offset i + 8 + k) 0 ≡ get_or (u16_bytes (at i).number) k 0
  number-byte i k h l =
      let place : record_offset i + 8 + k ≡ record_offset i + (8 + k) = omega arith in
      let n = name-length i h in
      let behind : 8 + k ≡ length (at i).name + k = omega arith in
      ap (λ (p : ℕ). get_or (index_bytes wad) p 0) place
      ∙ sym (get_or-drop (record_offset i) (index_bytes wad) (8 + k) 0)
      ∙ sym (get_or-take 10 (drop (record_offset i) (index_bytes wad)) (8 + k) 0 (omega arith))
      ∙ ap (λ (xs : List ℕ). get_or xs (8 + k) 0) (row_at i h)
      ∙ ap (λ (p : ℕ). get_or (index_record_bytes (at i)) p 0) behind
      ∙ get_or-append-add (at i).name (u16_bytes (at i).number) k 0

  pub number-at : (i : ℕ) → i < count → u16_at (index_bytes wad) (record_offset i + 8) ≡ (at i).number
  number-at i h =
      let none : record_offset i + 8 ≡ record_offset i + 8 + 0 = omega arith in
      let low = ap (λ (p : ℕ). get_or (index_bytes wad) p 0) none ∙ number-byte i 0 h (omega arith) in
      let high = number-byte i 1 h (omega arith) in
      rw (low, high) (u16_whole (at i).number)
