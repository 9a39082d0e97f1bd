-- The round trip: what is written is accepted, and reading it gives back what was given. Assumes nothing.
use Prim.Native.Nat.{ℕ, ◌+◌, ◌*◌, ◌/◌, ◌%◌, ◌≤◌, ◌<◌}
use mathlib.Core.Bool.{Bool, true, false, cond}
use mathlib.Core.List.{List, ◌++◌}
use mathlib.Core.Path.{◌≡◌, refl, sym, ap, ◌∙◌, subst}
use native.Mathlib.Nat.{div-add-mod', zero-add}
use native.Mathlib.Omega.{arith}
use borrow.Author.Tests.{le-leb, eqb-true, eqb-false}
use lib.Dec.{eqb}
use lib.IntN.{ℤ}
use lib.ListN.{length, get_or, take, drop, length-append}
use lib.Seq.{take_at, ext_get_or, get_or-take, length-take-le}
use mir.Syntax.{w16}
use mir.Val.{SFits}
use Rattle.endian.specs.Unsigned.{u32_at, u32_bytes}
use Rattle.endian.specs.Signed.{signed, bits_of}
use Rattle.endian.proofs.Unsigned.{u16_whole}
use Rattle.endian.proofs.Signed.{signed-bits}
use Rattle.refusal.specs.Checks.{Check}
use Rattle.std.specs.Prelude.{Ok, Err}
use Rattle.refusal.proofs.Checks.{pass_then, and_then_pass}
use Rattle.picture_header.specs.declared.Picture.{Picture}
use Rattle.picture_header.specs.Layout.{picture_of, area_of, table_end, column_offset}
use Rattle.picture_header.specs.Headers.{picture_header_check}
use Rattle.picture.specs.Judging.{columns_check, picture_answer as picture_answer}
use Rattle.picture_paint.specs.Buffers.{room_check, paint_check}
use Rattle.layout.specs.Buffers.{buffer_after}
use Rattle.picture_paint.specs.Pixels.{by_colour, by_cover, list_of, plane_of}
use Rattle.picture_paint.proofs.Checks.{room_passed}
use Rattle.picture_paint.proofs.Planes.{length-list_of, get_d_list_of}
use Rattle.picture_write.specs.Lump.{pixels_of, column_of, column_start, header_bytes, written_of}
use Rattle.picture_write.specs.Pixels.{pixel_at, covered_at}
use Rattle.picture_write.specs.Encoding.{encoding_of, encode_check, given_check}
use Rattle.theorem_picture.specs.RoundTrip.{ReadBack, RoundTrip, OutputRoundTrip, PaintedRoundTrip}
use Rattle.picture_write.proofs.Lump.{offsets, columns, length_offsets, length-columns, length-written}
use Rattle.picture_write.proofs.Fits.{Fit, fit_of, cover_bit}
use Rattle.theorem_picture.proofs.Standing.{Stands, stands-whole, stands-left, stands_right, stands_u32}
use Rattle.theorem_picture.proofs.Posts.{stands_laid, column_reads}
use Rattle.theorem_picture.proofs.Columns.{Given, accepted, plane_given, list_of-same}

-- what the four bytes of a number say is the number
u32_whole : (n : ℕ) → u32_at (u32_bytes n) 0 ≡ n
u32_whole n = let low = u16_whole (n % 65536) in let high = u16_whole (n / 65536) in omega arith

-- a list's first elements, one by one
list_of-take : (xs : List ℕ) (n : ℕ) → n ≤ length xs → list_of (λ i. get_or xs i 0) 0 n ≡ take n xs
list_of-take xs n h =
    let f : (ℕ → ℕ) = λ i. get_or xs i 0 in
    let long = length-list_of f 0 n in
    ext_get_or 0 (list_of f 0 n) (take n xs) (long ∙ sym (length-take-le n xs h))
    (λ i l.
    let k : i < n = omega arith in
    get_d_list_of f 0 n i k ∙ ap f (zero-add i) ∙ sym (get_or-take n xs i 0 k))

-- a cover byte, as a plane shows it
bit-shown : (n : ℕ) → n ≤ 1 → cond (eqb n 1) 1 0 ≡ n
bit-shown n h = by (eqb n 1) refl
  where
    by : (b : Bool) → eqb n 1 ≡ b → cond b 1 0 ≡ n
    by true e = sym (eqb-true n 1 e)
    by false e = let k : (n ≡ 1 → ⊥) = eqb-false n 1 e in omega arith

module _ (picture : Picture) (colour cover : List ℕ) where
  abbrev lump : List ℕ
  lump = written_of picture colour cover

  abbrev wide : ℕ
  wide = picture.width

  -- ---- where the parts stand

  front : Stands lump 0 (header_bytes picture ++ offsets picture colour cover wide)
  front = stands-left _ (columns picture colour cover wide) (stands-whole lump)

  table : Stands lump 8 (offsets picture colour cover wide)
  table = stands_right (header_bytes picture) (offsets picture colour cover wide) front

  posts : Stands lump (table_end wide) (columns picture colour cover wide)
  posts =
      let first = header_bytes picture ++ offsets picture colour cover wide in
      let n : 0 + length first ≡ table_end wide =
      (let a = length-append (header_bytes picture) (offsets picture colour cover wide) in
      let b = length_offsets picture colour cover wide in omega arith) in
      subst (λ (at : ℕ). Stands lump at (columns picture colour cover wide)) n
      (stands_right first (columns picture colour cover wide) (stands-whole lump))

  offset_read : (column : ℕ) → column < wide → column_offset lump column ≡ column_start picture cover column
  offset_read column h =
      let here = stands_laid (λ column. u32_bytes (column_start picture cover column)) wide table column h in
      let n : 8 + 4 * column ≡ 8 + length (offsets picture colour cover column) + 0 =
      (let a = length_offsets picture colour cover column in omega arith) in
      ap (u32_at lump) n ∙ stands_u32 here 0 (omega arith) ∙ u32_whole (column_start picture cover column)

  column_stands : (column : ℕ) → column < wide → Stands lump (column_start picture cover column) (column_of picture colour cover column)
  column_stands column h =
      subst (λ (n : ℕ). Stands lump (table_end wide + n) (column_of picture colour cover column))
      (length-columns picture colour cover column)
      (stands_laid (column_of picture colour cover) wide posts column h)

  given : Fit picture colour cover → Given lump wide picture.height (covered_at cover wide) (pixel_at colour wide)
  given f =
      let low = f.low in
      record {
        wide = u16_whole wide;
        tall = u16_whole picture.height;
        size = f.size;
        table = (let p = posts.inside in omega arith);
        offset = λ column h. rw (offset_read column h) (omega arith);
        column = λ column h.
            rw (offset_read column h)
            (column_reads lump picture.height column (covered_at cover wide column) (pixel_at colour wide column) (omega arith)
            (column_start picture cover column) (column_stands column h));
      }

  -- ---- the planes

  plane_read : Fit picture colour cover → (by : ℕ → ℕ)
      → plane_of by lump ≡ list_of (λ i. cond (eqb (get_or cover i 0) 1) (by (get_or colour i 0)) 0) 0 (pixels_of picture)
  plane_read f by =
      plane_given lump wide picture.height (covered_at cover wide) (pixel_at colour wide) (given f) by
      ∙ list_of-same _ _ 0 (pixels_of picture)
      (λ i l m. ap (λ (k : ℕ). cond (eqb (get_or cover k 0) 1) (by (get_or colour k 0)) 0) (div-add-mod' i wide))

  cover_read : Fit picture colour cover → plane_of by_cover lump ≡ take (pixels_of picture) cover
  cover_read f =
      plane_read f by_cover
      ∙ list_of-same _ _ 0 (pixels_of picture)
      (λ i l m. bit-shown (get_or cover i 0) (cover_bit cover (pixels_of picture) i f.binary (omega arith)))
      ∙ list_of-take cover (pixels_of picture) f.covers

  header_read : SFits w16 picture.left → SFits w16 picture.top → picture_of lump ≡ picture
  header_read l t =
      let side : (z : ℤ) → SFits w16 z → signed 32768 (bits_of 32768 z % 256 + 256 * (bits_of 32768 z / 256)) ≡ z =
      λ (z : ℤ) (h : SFits w16 z). ap (signed 32768) (u16_whole (bits_of 32768 z)) ∙ signed-bits 32768 z h.sfits in
      λ i. record {
        width = u16_whole wide i;
        height = u16_whole picture.height i;
        left = side picture.left l i;
        top = side picture.top t i;
      }

pub round_trip : RoundTrip
round_trip picture colour cover l t e =
    let f = fit_of picture colour cover e in
    let width = picture.width in
    record {
      accepted = accepted _ width picture.height (covered_at cover width) (pixel_at colour width) (given picture colour cover f);
      header = header_read picture colour cover l t;
      covers = cover_read picture colour cover f;
      colours = plane_read picture colour cover f by_colour;
      long = length-written picture colour cover;
    }

-- ---- the same of an output

written_pass : (k : Check) {length count : ℕ} → Ok count ≡ encoding_of k length → (k ≡ Ok tt) × (count ≡ length)
written_pass (Ok _) e = (refl, cc)
written_pass (Err r) e = let z : ◌≡◌ {A = ℕ} 0 1 = cc in absurd (omega arith)

pub output_round_trip : OutputRoundTrip
output_round_trip picture colour cover out count out' l t w =
    let check = encode_check picture colour cover (length out) in
    let lump = written_of picture colour cover in
    let pass = written_pass check w.answered in
    let parts = and_then_pass (given_check picture colour cover) _ pass.0 in
    let holds : out' ≡ lump ++ drop (length lump) out = w.leaves ∙ ap (λ (k : Check). buffer_after k lump out) pass.0 in
    let first : take count out' ≡ lump =
    ap (take count) holds ∙ take_at lump _ count (length-written picture colour cover ∙ sym pass.1) in
    subst (ReadBack picture colour cover) (sym first) (round_trip picture colour cover l t parts.0)

-- ---- painted again

-- pixels of a plane, in front of what a buffer has behind its first `n` bytes
over : (n : ℕ) {plane pixels : List ℕ} (buffer : List ℕ) → length plane ≡ n → plane ≡ pixels
    → plane ++ drop (length plane) buffer ≡ pixels ++ drop n buffer
over n buffer h e = (λ i. e i ++ drop (h i) buffer)

pub painted_round_trip : PaintedRoundTrip
painted_round_trip picture colour cover lump colour₁ cover₁ answer colour₂ cover₂ r h k p =
    let n = pixels_of picture in
    let area : area_of lump ≡ n = ap (λ (p : Picture). p.height * p.width) r.header in
    let colour-room : area_of lump ≤ length colour₁ = rw area h in
    let cover-room : area_of lump ≤ length cover₁ = rw area k in
    let room : room_check lump (length colour₁) (length cover₁) ≡ Ok tt = simp (le-leb _ _ colour-room, le-leb _ _ cover-room) in
    let parts = and_then_pass (picture_header_check lump) (columns_check lump) r.accepted in
    let pass : paint_check lump (length colour₁) (length cover₁) ≡ Ok tt =
    room_passed lump (length colour₁) (length cover₁) (sym (pass_then parts.0 (sym room))) ∙ r.accepted in
    record {
      answered = p.answered ∙ ap (λ (k : Check). picture_answer k lump) pass ∙ ap Ok r.header;
      colours = p.colours
          ∙ ap (λ (k : Check). buffer_after k (plane_of by_colour lump) colour₁) pass
          ∙ over n colour₁ (length-list_of _ 0 (area_of lump) ∙ area) r.colours;
      covered = p.covered
          ∙ ap (λ (k : Check). buffer_after k (plane_of by_cover lump) cover₁) pass
          ∙ over n cover₁ (length-list_of _ 0 (area_of lump) ∙ area) r.covers;
    }
