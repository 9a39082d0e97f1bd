-- `text_value::number_read` meets its contract: the sign, the digits behind it, and what ends them. Assumes nothing.
use Prim.Native.Nat.{ℕ}
use mathlib.Core.List.{List}
use mathlib.Core.Path.{◌≡◌, sym, ap, ◌∙◌}
use lib.Dec.{eqb}
use lib.ListN.{get_or}
use Rattle.text_value.specs.Numbers.{minus_sign, behind_sign, digits_end}
use Rattle.text_value.specs.Values.{digits_read, number_read}
use Rattle.text_value.proofs.Forms.{whole-form, point_form, no_form}
use Rattle.text_value.proofs.number_read.Goals as goal

-- what was read is the word's own sign, the place behind it and the digits' end
own : (word : List ℕ) (first at end : ℕ) → first ≡ get_or word 0 0 → at ≡ behind_sign first → end ≡ digits_end word at
    → digits_read word (eqb first minus_sign) at end ≡ number_read word
own word first at end b q h =
    let p = q ∙ ap behind_sign b in
    let e = h ∙ ap (digits_end word) p in
    λ i. digits_read word (eqb (b i) minus_sign) (p i) (e i)

pub returns-then-whole_ok : goal.returns-then-whole_ok
returns-then-whole_ok c =
    whole-form c.args.word.now _ c.behind_sign-at.result c.digits_at-d.result.end (sym c.whole_ok.ensures ∙ c.if-whole_ok.true) c.digits_at-d.ensures.1 c.whole_read.ensures
    ∙ own c.args.word.now _ _ _ c.byte_at-first.ensures c.behind_sign-at.ensures c.digits_at-d.ensures.0

pub returns-then-is_point : goal.returns-then-is_point
returns-then-is_point c =
    c.decimal_read.ensures
    ∙ point_form c.args.word.now (eqb c.byte_at-first.result minus_sign) c.behind_sign-at.result c.digits_at-d.result.end (sym c.whole_ok.ensures ∙ c.if-whole_ok.false) (sym c.is_point.ensures ∙ c.if-is_point.true)
    ∙ own c.args.word.now _ _ _ c.byte_at-first.ensures c.behind_sign-at.ensures c.digits_at-d.ensures.0

pub returns : goal.returns
returns c =
    no_form c.args.word.now (eqb c.byte_at-first.result minus_sign) c.behind_sign-at.result c.digits_at-d.result.end (sym c.whole_ok.ensures ∙ c.if-whole_ok.false) (sym c.is_point.ensures ∙ c.if-is_point.false)
    ∙ own c.args.word.now _ _ _ c.byte_at-first.ensures c.behind_sign-at.ensures c.digits_at-d.ensures.0
