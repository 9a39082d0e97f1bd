-- What is promised of every kind of record (01, "A write changes its record's bytes only, and reading it gives the written
-- fields"; a map record written back gives the bytes it was read from). A kind is its size, its fields read out of bytes
-- (`decode`), its bytes made of fields (`encode`), and which fields fit their widths (`InRange`). Assumes nothing.
use Rattle.std.specs.Prelude.{ℕ, ◌+◌, ◌*◌, true, List, ◌≡◌, Ok, length, take, drop}
use Rattle.endian.specs.Unsigned.{Bytes}
use Rattle.record_field.specs.Records.{inside, bytes_or_zeros, record_at, replaced}

-- a record's fields and its bytes determine each other
pub record Codec {R : Type 0} (size : ℕ) (decode : List ℕ → R) (encode : R → List ℕ) (InRange : R → Type 0) : Type 0 where
  pub length_encode : (r : R) → length (encode r) ≡ size
  pub decode_encode : (r : R) → InRange r → decode (encode r) ≡ r
  pub encode_decode : (bytes : List ℕ) → length bytes ≡ size → Bytes bytes → encode (decode bytes) ≡ bytes

-- reading and writing by number lose nothing. The first two fields say so of what a read answers and a write leaves, the next two
-- of the bytes themselves
pub record Lossless {R : Type 0} (size : ℕ) (decode : List ℕ → R) (encode : R → List ℕ) (InRange : R → Type 0) : Type 0 where
  -- a written record is read again: the read answers the written fields, and no refusal
  pub read_written : (lump : List ℕ) (index : ℕ) (r : R) → InRange r → inside lump size index ≡ true
      → record_at size decode (replaced lump size index (encode r)) index ≡ Ok r
  -- what a read answered, written back, leaves the lump as it was
  pub written_read : (lump : List ℕ) (index : ℕ) (r : R) → Bytes lump → record_at size decode lump index ≡ Ok r
      → replaced lump size index (encode r) ≡ lump
  -- a record written back as it was read leaves the very bytes
  pub write_back : (lump : List ℕ) (index : ℕ) → Bytes lump
      → replaced lump size index (encode (decode (bytes_or_zeros lump size index))) ≡ lump
  -- reading a written record gives the written fields
  pub read_back : (lump : List ℕ) (index : ℕ) (r : R) → InRange r → inside lump size index ≡ true
      → decode (bytes_or_zeros (replaced lump size index (encode r)) size index) ≡ r
  -- the bytes before it stay, and those after it, and the length
  pub before : (lump : List ℕ) (index : ℕ) (r : R)
      → take (size * index) (replaced lump size index (encode r)) ≡ take (size * index) lump
  pub after : (lump : List ℕ) (index : ℕ) (r : R)
      → drop (size * index + size) (replaced lump size index (encode r)) ≡ drop (size * index + size) lump
  pub same_length : (lump : List ℕ) (index : ℕ) (r : R) → length (replaced lump size index (encode r)) ≡ length lump
