-- Bytes, records and blocks of records compared. Assumes nothing.
use Rattle.std.proofs.Common.{ℕ, zero, suc, ◌+◌, ◌-◌, ◌*◌, ◌≤◌, ◌<◌, Bool, true, false, not, ◌&&◌, ◌||◌, cond, List, [], ◌∷◌, ◌++◌, length, take, drop, ◌≡◌, refl, sym, ap, ◌∙◌, leb, eqb, get_or, arith, append_assoc, length-append, drop-cons}
use Rattle.std.proofs.Math.Nat.{le_trans, mul-div-le, mul-suc, mul-add, mul-le-mul_left, le-div_iff_mul-le, mul_comm}
use Rattle.std.proofs.lemmas.Bool.{and_parts}
use Rattle.std.proofs.lemmas.List.{drop-take, take_rest}
use Rattle.std.specs.List.{range_with_len, filter}
use borrow.Author.Tests.{eqb-true, eq-eqb, lt-leb, leb-true}
use borrow.Rule.Slice.PartMut.{put_mid}
use lib.ListN.{set, length-drop, drop_of_length-le}
use mathlib.Core.List.{append-nil}
use lib.Seq.{drop-drop, take-take, take-append_seam, drop-append_seam, set-append_seam}
use Rattle.layout.proofs.LaidOut.{laid_none, laid_more, laid_same, length_laid_le}
use Rattle.layout.specs.Rows.{laid_out}
use Rattle.name.specs.Names.{same_bytes}
use Rattle.difference.specs.Records.{count_in, changed, changes_below, changes}
use Rattle.difference.specs.Inner.Changes.{NoneChanged, changes_from, begun_with}
use Rattle.difference.proofs.Laying.{laid_empty, length-split}

-- ---- a run of bytes

-- the same bytes are one row
alike : (xs ys : List ℕ) → same_bytes xs ys ≡ true → xs ≡ ys
alike [] [] e = refl
alike [] (y ∷ ys) e = cc
alike (x ∷ xs) [] e = cc
alike (x ∷ xs) (y ∷ ys) e =
    let both = and_parts (eqb x y) (same_bytes xs ys) e in
    let first = eqb-true x y both.0 in
    let rest = alike xs ys both.1 in
    λ i. first i ∷ rest i

itself : (xs : List ℕ) → same_bytes xs xs ≡ true
itself [] = refl
itself (x ∷ xs) = rw (eq-eqb x x refl) (itself xs)

-- from byte `i` on two rows are the same where that byte is, and the later ones
pub same_from : (old new : List ℕ) (i : ℕ) → i < length old → i < length new
    → same_bytes (drop i old) (drop i new) ≡ (eqb (get_or old i 0) (get_or new i 0) && same_bytes (drop (i + 1) old) (drop (i + 1) new))
same_from old new i h k = let next : i + 1 ≡ suc i = omega arith in rw (drop-cons old i 0 h, drop-cons new i 0 k, next) refl

pub same_ended : (old new : List ℕ) (i : ℕ) → length old ≤ i → length new ≤ i → same_bytes (drop i old) (drop i new) ≡ true
same_ended old new i h k = rw (drop_of_length-le old h, drop_of_length-le new k) refl

-- record `i + j` is in the run of the `n` records from `i` on
in_run : (size i j n : ℕ) (lump : List ℕ) → j < n
    → take size (drop (size * (i + j)) lump) ≡ take size (drop (size * j) (take (size * (i + n) - size * i) (drop (size * i) lump)))
in_run size i j n lump h =
    let last : size * suc j ≤ size * n = mul-le-mul_left size h in
    let one : size * suc j ≡ size * j + size = mul-suc size j in
    let sum : size * (i + j) ≡ size * i + size * j = mul-add size i j in
    let all : size * (i + n) ≡ size * i + size * n = mul-add size i n in
    let m = size * n - size * j in
    let long : size * (i + n) - size * i ≡ size * j + m = omega (arith, last, one, all) in
    let rest = drop (size * i) lump in
    ap (λ (k : ℕ). take size (drop k lump)) sum
    ∙ sym (take-take size m (drop (size * i + size * j) lump) (omega (arith, last, one)))
    ∙ sym (ap (λ (xs : List ℕ). take size (take m xs)) (drop-drop (size * j) (size * i) lump))
    ∙ sym (ap (take size) (drop-take (size * j) m rest))
    ∙ ap (λ (k : ℕ). take size (drop (size * j) (take k rest))) (sym long)

-- the records of a run are not changed
pub run_same : (size : ℕ) (old new : List ℕ) (i n : ℕ) → 0 < size
    → (leb (size * (i + n)) (length old)
    && same_bytes (take (size * (i + n) - size * i) (drop (size * i) old)) (take (size * (i + n) - size * i) (drop (size * i) new)))
    ≡ true
    → NoneChanged size old new i n
run_same size old new i n p e j l =
    let both = and_parts (leb (size * (i + n)) (length old))
    (same_bytes (take (size * (i + n) - size * i) (drop (size * i) old)) (take (size * (i + n) - size * i) (drop (size * i) new))) e in
    let n_bytes = size * (i + n) - size * i in
    let same : take n_bytes (drop (size * i) old) ≡ take n_bytes (drop (size * i) new) = alike _ _ both.1 in
    let last : size * suc (i + j) ≤ size * (i + n) = mul-le-mul_left size (omega arith) in
    let there : i + j < count_in size old =
    (le-div_iff_mul-le p).1 (omega (arith, leb-true _ _ both.0, last, mul_comm (suc (i + j)) size)) in
    let record_is : take size (drop (size * (i + j)) old) ≡ take size (drop (size * (i + j)) new) =
    in_run size i j n old l ∙ ap (λ (run : List ℕ). take size (drop (size * j) run)) same ∙ sym (in_run size i j n new l) in
    simp (lt-leb (count_in size old) (i + j) there, record_is, itself (take size (drop (size * (i + j)) new)))

-- a record of a lump ends in it
pub record_inside : (size : ℕ) (lump : List ℕ) (i : ℕ) → i < count_in size lump → size * i + size ≤ length lump
record_inside size lump i h =
    let all : size * suc i ≤ size * count_in size lump = mul-le-mul_left size h in
    rw (← mul-suc size i) (le_trans all (mul-div-le (length lump) size))

-- a record that the old lump has too
pub there_too : (size : ℕ) (old new : List ℕ) (i : ℕ) {row : List ℕ} {same : Bool} → 0 < size → size * i + size ≤ length old
    → row ≡ take (size * i + size - size * i) (drop (size * i) old)
    → same ≡ same_bytes row (take (size * i + size - size * i) (drop (size * i) new))
    → not same ≡ changed size old new i
there_too size old new i p there e t =
    let n : size * i + size - size * i ≡ size = omega arith in
    let last : size * suc i ≡ size * i + size = mul-suc size i in
    let kept : i < count_in size old = (le-div_iff_mul-le p).1 (omega (arith, there, last, mul_comm (suc i) size)) in
    let xs = take size (drop (size * i) old) in
    let ys = take size (drop (size * i) new) in
    ap not (t ∙ (λ k. same_bytes ((e ∙ ap (λ (m : ℕ). take m (drop (size * i) old)) n) k) (take (n k) (drop (size * i) new))))
    ∙ ap (λ (b : Bool). b || not (same_bytes xs ys)) (sym (lt-leb (count_in size old) i kept))

-- ---- the numbers of the changed records

one-most : (b : Bool) (n : ℕ) → length (cond b (n ∷ []) []) ≤ 1
one-most true n = omega arith
one-most false n = omega arith

length-first : (b : Bool) (x : ℕ) (xs : List ℕ) → length (cond b (x ∷ xs) xs) ≡ length (cond b (x ∷ []) []) + length xs
length-first true x xs = omega arith
length-first false x xs = omega arith

-- those that a test passes, counted, and laid out
pub counted : (p : ℕ → Bool) (i n : ℕ) → length (filter p (range_with_len i n)) ≡ length (laid_out (λ j. cond (p (i + j)) ((i + j) ∷ []) []) n)
counted p i zero = sym (ap length (laid_none (λ j. cond (p (i + j)) ((i + j) ∷ []) [])))
counted p i (suc n) =
    let one : ℕ → List ℕ = λ k. cond (p k) (k ∷ []) [] in
    let f : ℕ → List ℕ = λ j. one (i + j) in
    let rest = filter p (range_with_len (i + 1) n) in
    let shift : laid_out (λ j. one (i + 1 + j)) n ≡ laid_out (λ j. f (1 + j)) n =
    laid_same (λ j. one (i + 1 + j)) (λ j. f (1 + j)) n (λ j l. let e : i + 1 + j ≡ i + (1 + j) = omega arith in ap one e) in
    let next : 1 + n ≡ suc n = omega arith in
    let none : i + 0 ≡ i = omega arith in
    let first : length (laid_out f 1) ≡ length (one i) = ap length (laid_more f 0 ∙ ap (λ (xs : List ℕ). xs ++ f 0) (laid_none f) ∙ ap one none) in
    let all : length (laid_out f (1 + n)) ≡ length (laid_out f (suc n)) = ap (λ (k : ℕ). length (laid_out f k)) next in
    omega (arith, length-first (p i) i rest, counted p (i + 1) n, ap length shift, first, all, length-split f 1 n)

module _ (size : ℕ) (old new : List ℕ) where
  -- what one record adds
  abbrev pub number_of : ℕ → List ℕ
  number_of i = cond (changed size old new i) (i ∷ []) []

  pub number-few : (i : ℕ) → length (number_of i) ≤ 1
  number-few i = one-most (changed size old new i) i

  -- those of some records are no more than those of all
  pub below_all : (i : ℕ) → i ≤ count_in size new → length (changes_below size old new i) ≤ length (changes size old new)
  below_all i h = length_laid_le number_of i (count_in size new) h

  -- nothing of a block without a change
  pub from-none : (i n : ℕ) → NoneChanged size old new i n → changes_from size old new i n ≡ []
  from-none i n h = laid_empty (λ j. number_of (i + j)) n (λ j l. ap (λ (b : Bool). cond b ((i + j) ∷ []) []) (h j l))

-- ---- the front of a list

-- more numbers behind the first
pub begun_more : (first more list : List ℕ) (n : ℕ) → n ≡ length first → length first ≤ length list
    → take n (begun_with first list) ++ begun_with more (drop n (begun_with first list)) ≡ begun_with (first ++ more) list
begun_more first more list n e h =
    rw (e, take-append_seam first (drop (length first) list), drop-append_seam first (drop (length first) list), drop-drop (length more) (length first) list, length-append first more)
    (sym (append_assoc first more (drop (length first + length more) list)))

-- and so where they are written into what is left of the list
rest_written : (first more list : List ℕ) (n : ℕ) → n ≡ length first → length first ≤ length list
    → (let whole = begun_with first list in
    put_mid n (length whole - n) whole (begun_with more (take (length whole - n) (drop n whole))) ≡ begun_with (first ++ more) list)
rest_written first more list n e h =
    let whole = begun_with first list in
    let end : drop (length whole - n) (drop n whole) ≡ [] = drop_of_length-le (drop n whole) (omega (arith, length-drop n whole)) in
    ap (λ (xs : List ℕ). take n whole ++ (begun_with more xs ++ drop (length whole - n) (drop n whole))) (take_rest whole n)
    ∙ ap (λ (xs : List ℕ). take n whole ++ (begun_with more (drop n whole) ++ xs)) end
    ∙ ap (λ (xs : List ℕ). take n whole ++ xs) (append-nil (begun_with more (drop n whole)))
    ∙ begun_more first more list n e h

pub part_written : (first more whole list left : List ℕ) (n : ℕ) → n ≡ length first → length first ≤ length list → whole ≡ begun_with first list
    → left ≡ begun_with more (take (length whole - n) (drop n whole)) → put_mid n (length whole - n) whole left ≡ begun_with (first ++ more) list
part_written first more whole list left n e h w v =
    let written : List ℕ → List ℕ = λ xs. put_mid n (length xs - n) xs (begun_with more (take (length xs - n) (drop n xs))) in
    ap (put_mid n (length whole - n) whole) v ∙ ap written w ∙ rest_written first more list n e h

-- one number more
pub begun_one : (first list : List ℕ) (n x : ℕ) → n ≡ length first → length first < length list
    → set (begun_with first list) n x ≡ begun_with (first ++ (x ∷ [])) list
begun_one first list n x e h =
    let next : length first + 1 ≡ suc (length first) = omega arith in
    rw (e, drop-cons list (length first) 0 h, set-append_seam first (get_or list (length first) 0) (drop (suc (length first)) list) x, length-append first (x ∷ []), next)
    (sym (append_assoc first (x ∷ []) (drop (suc (length first)) list)))
