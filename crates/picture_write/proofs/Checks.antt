-- Laws of encoding as a whole: the check's outcomes, what the stores leave, and what is promised from an outcome. Assumes nothing.
use Prim.Native.Nat.{ℕ, ◌+◌, ◌*◌, ◌≤◌, ◌<◌}
use mathlib.Core.Bool.{Bool, ◌&&◌}
use mathlib.Core.List.{List, ◌++◌}
use mathlib.Core.Path.{◌≡◌, sym, ap, ◌∙◌}
use native.Mathlib.Nat.{zero-add}
use native.Mathlib.Omega.{arith}
use borrow.Author.Tests.{leb-true, le-leb, lt-leb}
use lib.Dec.{leb}
use lib.ListN.{length, drop, length-append}
use lib.Seq.{sets, sets-eq}
use Rattle.refusal.specs.declared.Refusal.{Refusal}
use Rattle.refusal.specs.declared.Refusal.TheVariants.{EncodeRoom}
use Rattle.refusal.specs.Checks.{Check}
use Rattle.std.specs.Prelude.{Result, Ok, Err}
use Rattle.refusal.specs.Checks.{unless}
use Rattle.refusal.proofs.Checks.{both, pass_then}
use Rattle.picture_header.specs.declared.Picture.{Picture}
use Rattle.layout.specs.Buffers.{buffer_after}
use Rattle.picture_write.specs.Lump.{header_bytes, written_of, written_length}
use Rattle.picture_write.specs.Encoding.{given_check, encode_check, encoding_of, Encoded}
use Rattle.picture_write.proofs.Fits.{Fit}
use Rattle.layout.proofs.Stores.{sets_append, sets_comm}
use Rattle.picture_write.proofs.Lump.{offsets, columns, length_offsets, length-written}
use Rattle.picture_write.proofs.Inner.Columns.{stored}

module _ (picture : Picture) (colour cover : List ℕ) where
  -- 56 holds the width to 320
  pub narrow : Fit picture colour cover → picture.width ≤ 320
  narrow fit =
      let sides = both (leb 1 picture.width && leb picture.width 320) (leb 1 picture.height && leb picture.height 200) fit.size in
      leb-true _ _ (both (leb 1 picture.width) (leb picture.width 320) sides.0).1

  -- ---- the check's outcomes

  pub room-refused : (room : ℕ) → given_check picture colour cover ≡ Ok tt → room < written_length picture cover
      → encode_check picture colour cover room ≡ Err EncodeRoom
  room-refused room e h = sym (pass_then e (sym (ap (λ (b : Bool). unless b EncodeRoom) (lt-leb (written_length picture cover) room h))))

  pub room_passed : (room : ℕ) → given_check picture colour cover ≡ Ok tt → written_length picture cover ≤ room
      → encode_check picture colour cover room ≡ Ok tt
  room_passed room e h = sym (pass_then e (sym (ap (λ (b : Bool). unless b EncodeRoom) (le-leb (written_length picture cover) room h))))

  -- ---- the columns, then the header, are the lump

  pub lump-stored : (out : List ℕ) {mid last : List ℕ} → written_length picture cover ≤ length out
      → mid ≡ stored picture.width picture.height colour cover out picture.width
      → last ≡ sets mid 0 (header_bytes picture)
      → last ≡ written_of picture colour cover ++ drop (length (written_of picture colour cover)) out
  lump-stored out {mid} {last} room m e =
      let w = picture.width in
      let H = header_bytes picture in
      let O = offsets picture colour cover w in
      let C = columns picture colour cover w in
      let lump = written_of picture colour cover in
      let table : 8 + 4 * w ≡ 0 + length (H ++ O) = omega (arith, length-append H O, length_offsets picture colour cover w) in
      let long : 0 + length lump ≤ length out = omega (arith, room, length-written picture colour cover) in
      e
      ∙ ap (λ (x : List ℕ). sets x 0 H) m
      ∙ sym (sets_comm (sets out 8 O) 0 (8 + 4 * w) H C (omega arith))
      ∙ ap (λ (x : List ℕ). sets x (8 + 4 * w) C) (sym (sets_comm out 0 8 H O (omega arith)) ∙ sets_append out 0 H O)
      ∙ ap (λ (n : ℕ). sets (sets out 0 (H ++ O)) n C) table
      ∙ sets_append out 0 (H ++ O) C
      ∙ sets-eq lump out 0 long
      ∙ ap (λ (n : ℕ). lump ++ drop n out) (zero-add (length lump))

  -- ---- what encoding promises, from the check's outcome

  pub encoded_by : (out : List ℕ) (k : Check) {answer : (Result ℕ Refusal)} {out' : List ℕ} → encode_check picture colour cover (length out) ≡ k
      → answer ≡ encoding_of k (written_length picture cover) → out' ≡ buffer_after k (written_of picture colour cover) out
      → Encoded picture colour cover out answer out'
  encoded_by out k e a b =
      record {
        answered = a ∙ ap (λ (k : Check). encoding_of k (written_length picture cover)) (sym e);
        leaves = b ∙ ap (λ (k : Check). buffer_after k (written_of picture colour cover) out) (sym e);
      }
