-- A form is known by its number. Assumes nothing.
use Prim.Native.Nat.{ℕ}
use mathlib.Core.Bool.{Bool, true, false, cond}
use mathlib.Core.Path.{◌≡◌, refl, sym, ap, ◌∙◌}
use borrow.Author.Tests.{eqb-true, eq-eqb}
use denote.Enum.Bare.{sameb, same_true, true_same}
use lib.Dec.{eqb}
use Rattle.std.proofs.Common.{rules}
use Rattle.text_token.specs.contracts.Form.{the_type}
use Rattle.text_token.specs.declared.Form.{Form}
use Rattle.text_token.specs.declared.Form.TheVariants.{End, Unclosed, Word, String, OpenBrace, CloseBrace, OpenParenthesis, CloseParenthesis, Semicolon, EqualsSign, Apostrophe}
use Rattle.text_token.specs.Tokens.{mark_form, form_number}

-- the form of a number
form_at : ℕ → Form
form_at n = cond (eqb n 0) End (cond (eqb n 1) Unclosed (cond (eqb n 2) Word (cond (eqb n 34) String (mark_form n))))

form-again : (f : Form) → form_at (form_number f) ≡ f
unfolding form_at
form-again End = refl
form-again Unclosed = refl
form-again Word = refl
form-again String = refl
form-again OpenBrace = refl
form-again CloseBrace = refl
form-again OpenParenthesis = refl
form-again CloseParenthesis = refl
form-again Semicolon = refl
form-again EqualsSign = refl
form-again Apostrophe = refl

pub form-tells : (a b : Form) → form_number a ≡ form_number b → a ≡ b
form-tells a b e = sym (form-again a) ∙ ap form_at e ∙ form-again b

-- the code's test of a form
pub form-same : (a b : Form) → sameb the_type a b ≡ eqb (form_number a) (form_number b)
form-same a b = by (sameb the_type a b) refl (eqb (form_number a) (form_number b)) refl
  where
    by : (x : Bool) → sameb the_type a b ≡ x → (y : Bool) → eqb (form_number a) (form_number b) ≡ y → x ≡ y
    by true p true q = refl
    by true p false q = sym (eq-eqb _ _ (ap form_number (same_true the_type (search rules) a b p))) ∙ q
    by false p true q = sym p ∙ true_same the_type a b (form-tells a b (eqb-true _ _ q))
    by false p false q = refl
