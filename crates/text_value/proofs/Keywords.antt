-- The keywords, letter by letter. Assumes nothing.
use mathlib.Core.Bool.{◌&&◌, true, and_assoc, and-true}
use mathlib.Core.List.{List}
use mathlib.Core.Path.{◌≡◌, sym, ◌∙◌}
use Prim.Native.Nat.{ℕ}
use lib.Dec.{eqb}
use lib.ListN.{length}
use Rattle.std.specs.Prelude.{codes}
use Rattle.text_byte.specs.Bytes.{lower_at}
use Rattle.text_byte.proofs.Letters.{Same, spelled, same-spelled, spelled-same}
use Rattle.text_value.specs.Values.{is_true, is_false}

module _ (word : List ℕ) where
  true-spelled : is_true word ≡ (eqb (length word) 4 && spelled (codes "true") (lower_at word))
  true-spelled = simp (and_assoc, and-true)

  pub true-same : Same word (codes "true") → is_true word ≡ true
  true-same s = true-spelled ∙ same-spelled word (codes "true") s

  pub same-true : is_true word ≡ true → Same word (codes "true")
  same-true e = spelled-same word (codes "true") (sym true-spelled ∙ e)

  false-spelled : is_false word ≡ (eqb (length word) 5 && spelled (codes "false") (lower_at word))
  false-spelled = simp (and_assoc, and-true)

  pub false-same : Same word (codes "false") → is_false word ≡ true
  false-same s = false-spelled ∙ same-spelled word (codes "false") s

  pub same-false : is_false word ≡ true → Same word (codes "false")
  same-false e = spelled-same word (codes "false") (sym false-spelled ∙ e)
