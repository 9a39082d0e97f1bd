-- A field that was written is read back: each of its numbers stands before those that are written after it. Assumes nothing.
use Prim.Native.Nat.{ℕ, ◌+◌, ◌/◌, ◌%◌, ◌<◌}
use mathlib.Core.List.{List}
use mathlib.Core.Path.{◌≡◌, ◌∙◌}
use native.Mathlib.Omega.{arith}
use lib.ListN.{length, drop, length-set}
use lib.Seq.{drop-set-lt}
use Rattle.endian.specs.Unsigned.{u32_at, put_u16, put_u32}
use Rattle.endian.proofs.Unsigned.{u16_at-before, u32_at-put_u32}
use Rattle.reason_range.specs.Fields.{FieldsSaid}

-- four bytes before those that are written stay
before : (xs : List ℕ) (at n i : ℕ) → i + 3 < at → u32_at (put_u32 xs at n) i ≡ u32_at xs i
before xs at n i h =
    let ys = put_u16 xs at (n % 65536) in
    rw (
      u16_at-before ys (at + 2) (n / 65536) i (omega arith),
      u16_at-before ys (at + 2) (n / 65536) (i + 2) (omega arith),
      u16_at-before xs at (n % 65536) i (omega arith),
      u16_at-before xs at (n % 65536) (i + 2) (omega arith),
    )

length_put : (xs : List ℕ) (at n : ℕ) → length (put_u32 xs at n) ≡ length xs
length_put xs at n = simp length-set

-- what begins behind them stays
drop_put : (xs : List ℕ) (at n k : ℕ) → at + 3 < k → drop k (put_u32 xs at n) ≡ drop k xs
drop_put xs at n k h =
    rw (
      drop-set-lt k _ (at + 2 + 1) _ (omega arith),
      drop-set-lt k _ (at + 2) _ (omega arith),
      drop-set-lt k _ (at + 1) _ (omega arith),
      drop-set-lt k _ at _ (omega arith),
    )

pub fields_said : FieldsSaid
fields_said out f h =
    let a = put_u32 out 0 f.offset in
    let b = put_u32 a 4 f.number in
    let c = put_u32 b 8 f.least in
    let la = length_put out 0 f.offset in
    let lb = length_put a 4 f.number ∙ la in
    let lc = length_put b 8 f.least ∙ lb in
    record {
      offset = before c 12 f.most 0 (omega arith) ∙ before b 8 f.least 0 (omega arith) ∙ before a 4 f.number 0 (omega arith)
          ∙ u32_at-put_u32 out 0 f.offset (omega arith);
      number = before c 12 f.most 4 (omega arith) ∙ before b 8 f.least 4 (omega arith) ∙ u32_at-put_u32 a 4 f.number (omega arith);
      least = before c 12 f.most 8 (omega arith) ∙ u32_at-put_u32 b 8 f.least (omega arith);
      most = u32_at-put_u32 c 12 f.most (omega arith);
      rest = drop_put c 12 f.most 16 (omega arith) ∙ drop_put b 8 f.least 16 (omega arith) ∙ drop_put a 4 f.number 16 (omega arith)
          ∙ drop_put out 0 f.offset 16 (omega arith);
      long = length_put c 12 f.most ∙ lc;
    }
