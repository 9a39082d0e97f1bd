-- Laws of bytes: a range as its two bounds, and which bytes end a word and which do not. Assumes nothing.
use Prim.Native.Nat.{ℕ, ◌≤◌}
use mathlib.Core.Bool.{Bool, true, false, ◌||◌, and-eq-true_iff, true≢false}
use mathlib.Core.Path.{◌≡◌, refl, sym, ap, ◌∙◌}
use borrow.Author.Tests.{leb-true, ne_eqb}
use lib.Dec.{leb, eqb}
use Rattle.text_byte.specs.Bytes.{newline, double_quote, slash, semicolon, equals_sign, open_brace, close_brace, within, is_blank, is_mark, opens_line, opens_comment, ends_word, is_name_byte}
use Rattle.text_byte.specs.WordBytes.{is_plain, stops_word}

pub within-true : (least most b : ℕ) → within least most b ≡ true → (least ≤ b) × (b ≤ most)
within-true least most b e =
    let p = (and-eq-true_iff (leb least b) (leb b most)).0 e in
    (leb-true least b p.0, leb-true b most p.1)

pub either : {A : Type 0} (x y : Bool) → (x || y) ≡ true → (x ≡ true → A) → (y ≡ true → A) → A
either true y e f g = f refl
either false y e f g = g e

-- a byte that passes a test is none that fails it
pub unlike : (test : ℕ → Bool) (b k : ℕ) → test b ≡ true → test k ≡ false → eqb b k ≡ false
unlike test b k e f = ne_eqb b k (λ q. true≢false (sym e ∙ ap test q ∙ f))

-- bytes that pass a test end no word, if those fail it at which a word can end
ends-none : (test : ℕ → Bool) → test 32 ≡ false → test 9 ≡ false → test newline ≡ false → test 13 ≡ false
    → test open_brace ≡ false → test close_brace ≡ false → test 40 ≡ false → test 41 ≡ false → test semicolon ≡ false → test equals_sign ≡ false → test 39 ≡ false
    → test double_quote ≡ false → test slash ≡ false → (b c : ℕ) → test b ≡ true → ends_word b c ≡ false
ends-none test f g h i j k l m n o p q r b c e =
    simp (off f, off g, off h, off i, off j, off k, off l, off m, off n, off o, off p, off q, off r)
  where
    off : {x : ℕ} → test x ≡ false → eqb b x ≡ false
    off = unlike test b _ e

pub plain-ends : (b c : ℕ) → is_plain b ≡ true → ends_word b c ≡ false
plain-ends = ends-none is_plain refl refl refl refl refl refl refl refl refl refl refl refl refl

-- a letter or a digit
pub name-ends : (b c : ℕ) → is_name_byte b ≡ true → ends_word b c ≡ false
name-ends = ends-none is_name_byte refl refl refl refl refl refl refl refl refl refl refl refl refl

-- where a word stops, it ends
pub stops-ends : (b c : ℕ) → stops_word b ≡ true → ends_word b c ≡ true
stops-ends b c e = ap (λ (x : Bool). x || (opens_line b c || opens_comment b c)) e

-- a mark is no white space
pub mark_blank : (b : ℕ) → is_mark b ≡ true → is_blank b ≡ false
mark_blank b e = simp (unlike is_mark b 32 e refl, unlike is_mark b 9 e refl, unlike is_mark b newline e refl, unlike is_mark b 13 e refl)
