-- The bytes of records, each at its place: one more. Assumes nothing.
use Prim.Native.Nat.{ℕ, suc, ◌+◌, ◌-◌, ◌≤◌}
use mathlib.Core.List.{List, ◌++◌, append_assoc}
use mathlib.Core.Path.{◌≡◌, refl, sym, ap, ◌∙◌}
use native.Mathlib.Omega.{arith}
use lib.ListN.{length, get_or, take, drop}
use lib.Seq.{sets, sets-eq}
use borrow.Rule.Slice.PartMut.{put_mid, Post-is}
use Rattle.layout.proofs.Stores.{sets_append}
use Rattle.endian.specs.Unsigned.{u16_bytes, put_u16}
use Rattle.index.specs.declared.IndexRecord.{IndexRecord}
use Rattle.index.specs.Records.{no_record}
use Rattle.index_build.specs.Inner.{put_record, written}

pub written_none : (records : List IndexRecord) (out : List ℕ) → out ≡ written records 0 out
unfolding written
written_none records out = refl

pub written-suc : (records : List IndexRecord) (n : ℕ) (out : List ℕ)
    → written records (suc n) out ≡ put_record (written records n out) n (get_or records n no_record)
unfolding written
written-suc records n out = refl

pub written-more : (records : List IndexRecord) (i : ℕ) (out : List ℕ)
    → put_record (written records i out) i (get_or records i no_record) ≡ written records (i + 1) out
unfolding written
written-more records i out = let one : suc i ≡ i + 1 = omega arith in ap (λ (k : ℕ). written records k out) one

-- eight bytes and a number of two, stored one after the other
pub stores_record : (out : List ℕ) (at : ℕ) (name : List ℕ) (number : ℕ) → length name ≡ 8 → at + 8 ≤ length out
    → put_u16 (put_mid at (at + 8 - at) out name) (at + 8) number ≡ sets out at (name ++ u16_bytes number)
stores_record out at name number long room =
    let next : at + 8 ≡ at + length name = omega (arith, long) in
    let one : at + 8 + 1 ≡ suc (at + 8) = omega arith in
    let stored : put_mid at (at + 8 - at) out name ≡ sets out at name =
    ap (λ (l : List ℕ). take at out ++ (name ++ l)) (Post-is at (at + 8) out (omega arith) ∙ ap (λ (n : ℕ). drop n out) next)
    ∙ sym (append_assoc (take at out) name (drop (at + length name) out)) ∙ sym (sets-eq name out at (omega (arith, long, room))) in
    rw one
    (ap (λ (l : List ℕ). sets l (at + 8) (u16_bytes number)) stored ∙ ap (λ (p : ℕ). sets (sets out at name) p (u16_bytes number)) next
    ∙ sets_append out at name (u16_bytes number))
