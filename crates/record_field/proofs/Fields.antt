-- Laws of a record's fields: signed ones as the code moves them, fields read out of the bytes that were made of them, and
-- bytes that are made field by field. Assumes nothing.
use Prim.Native.Nat.{ℕ, zero, suc, ◌+◌, ◌-◌, ◌*◌, ◌/◌, ◌%◌, ◌≤◌}
use mathlib.Core.Bool.{Bool, true, ◌&&◌}
use mathlib.Core.List.{List, [], ◌∷◌}
use mathlib.Core.Path.{◌≡◌, refl, sym, ap, ◌∙◌}
use native.Mathlib.Omega.{arith}
use borrow.Author.Tests.{eqb-true, ne_eqb, le-leb, lt-leb, leb-true}
use lib.Dec.{leb, eqb}
use lib.ListN.{get_or}
use lib.Seq.{paste}
use lib.IntN.{ℤ, pos, negsuc}
use mir.Syntax.{w16}
use mir.Val.{to_z, of_z}
use mir.ValLaws.{to_z-of_z}
use Rattle.endian.specs.Unsigned.{Bytes, put_u16}
use Rattle.endian.specs.Signed.{i16_at, bits_of, signed, between}
use Rattle.endian.proofs.Unsigned.{u16_whole}
use Rattle.endian.proofs.Signed.{signed-bits}
use Rattle.refusal.proofs.Checks.{both}
use Rattle.record_field.specs.Fields.{i16_bytes, name_at, four_at, four_bytes, put_four, args_at, no_args, args_zero, put_action, Int16, Name, FourFits, Args}
use Rattle.record_field.proofs.FieldRows.{spelt_whole}

-- ---- signed numbers, which the machine reads back from their bits

-- a signed answer of a call, put into a field
pub signed-field : {z x : ℤ} → Int16 z → z ≡ x → to_z w16 (of_z w16 z) ≡ x
signed-field {z} h e = to_z-of_z w16 z (record { sfits = h }) ∙ e

-- a signed field handed on
pub field-bits : (z : ℤ) → Int16 z → bits_of 32768 (to_z w16 (of_z w16 z)) ≡ bits_of 32768 z
field-bits z h = ap (bits_of 32768) (to_z-of_z w16 z (record { sfits = h }))

-- ---- a byte in a wider field

pub byte-whole : (n : ℕ) → n ≤ 255 → n % 256 ≡ n
byte-whole n h = omega arith

pub byte-most : (bytes : List ℕ) (i : ℕ) → Bytes bytes → get_or bytes i 0 ≤ 255
byte-most bytes i h = let small = h i in omega arith

-- ---- a field of the bytes that were made of it

pub name-whole : (xs : List ℕ) → Name xs → name_at xs 0 ≡ xs
name-whole xs h = spelt_whole 0 xs h

pub args-whole : (xs : List ℕ) → Args xs → args_at xs 0 ≡ xs
args-whole xs h = spelt_whole 0 xs h

-- five arguments that are all 0 are none
pub args_none : (xs : List ℕ) → Args xs → args_zero xs ≡ true → no_args ≡ xs
args_none xs h e =
    let z : ℕ → Bool = λ k. eqb (get_or xs k 0) 0 in
    let p4 = both (z 0 && z 1 && z 2 && z 3) (z 4) e in
    let p3 = both (z 0 && z 1 && z 2) (z 3) p4.0 in
    let p2 = both (z 0 && z 1) (z 2) p3.0 in
    let p1 = both (z 0) (z 1) p2.0 in
    let is : (k : ℕ) → z k ≡ true → 0 ≡ get_or xs k 0 = λ k t. sym (eqb-true (get_or xs k 0) 0 t) in
    (λ i. is 0 p1.0 i ∷ is 1 p1.1 i ∷ is 2 p2.1 i ∷ is 3 p3.1 i ∷ is 4 p4.1 i ∷ []) ∙ args-whole xs h

-- ---- signed numbers that must be 0

-- the test of the bits is that of the number
pub zero_bits : (z : ℤ) → Int16 z → eqb (of_z w16 z) 0 ≡ between z 0 0
zero_bits (pos zero) h = refl
zero_bits (pos (suc n)) h = rw (ne_eqb (suc n) 0 (λ e. omega arith), lt-leb (suc n) 0 (omega arith), le-leb 0 (suc n) (omega arith))
zero_bits (negsuc n) h = ne_eqb (65536 - suc n) 0 (λ e. omega arith)

pub zero_is : (z : ℤ) → between z 0 0 ≡ true → pos 0 ≡ z
zero_is (pos n) e =
    let low = leb-true n 0 (both (leb 0 n) (leb n 0) e).1 in
    let is : 0 ≡ n = omega arith in
    ap pos is
zero_is (negsuc n) e = let z : ◌≡◌ {A = ℕ} 0 1 = cc in absurd (omega arith)

pub i16_whole : (z : ℤ) → Int16 z → signed 32768 (bits_of 32768 z % 256 + 256 * (bits_of 32768 z / 256)) ≡ z
i16_whole z h = ap (signed 32768) (u16_whole (bits_of 32768 z)) ∙ signed-bits 32768 z h

pub four-whole : (box : List ℤ) → FourFits box → four_at (four_bytes box) 0 ≡ box
four-whole box h =
    let z : ℕ → ℤ = λ k. get_or box k (pos 0) in
    let same : (k : ℕ) → i16_at (i16_bytes (z k)) 0 ≡ z k = λ k. i16_whole (z k) (h.each k) in
    (λ i. same 0 i ∷ same 1 i ∷ same 2 i ∷ same 3 i ∷ []) ∙ spelt_whole (pos 0) box h.four

-- ---- bytes that are made field by field: the bytes after a store, from the bytes `z` before it

pub then_u16 : (at n : ℕ) {x y z : List ℕ} → y ≡ put_u16 x at n → x ≡ z → y ≡ put_u16 z at n
then_u16 at n e q = e ∙ ap (λ (l : List ℕ). put_u16 l at n) q

pub then_i16 : (at : ℕ) (v : ℤ) {x y z : List ℕ} → Int16 v → y ≡ put_u16 x at (bits_of 32768 (to_z w16 (of_z w16 v))) → x ≡ z
    → y ≡ put_u16 z at (bits_of 32768 v)
then_i16 at v {x} h e q = then_u16 at (bits_of 32768 v) (e ∙ ap (put_u16 x at) (field-bits v h)) q

pub then-name : (at : ℕ) (name : List ℕ) {x y z : List ℕ} → y ≡ paste x at (name_at name 0) 8 → x ≡ z
    → y ≡ paste z at (name_at name 0) 8
then-name at name e q = e ∙ ap (λ (l : List ℕ). paste l at (name_at name 0) 8) q

pub then-four : (at : ℕ) (zs : List ℤ) {x y z : List ℕ} → y ≡ put_four x at zs → x ≡ z → y ≡ put_four z at zs
then-four at zs e q = e ∙ ap (λ (l : List ℕ). put_four l at zs) q

pub then_action : (at action : ℕ) (args : List ℕ) {x y z : List ℕ} → y ≡ put_action x at action args → x ≡ z
    → y ≡ put_action z at action args
then_action at action args e q = e ∙ ap (λ (l : List ℕ). put_action l at action args) q
