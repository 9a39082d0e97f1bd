-- `text_value::decimal_read` meets its contract: what fits has at most fifteen digits. Assumes nothing.
use mathlib.Core.Path.{sym, ap, ◌∙◌}
use native.Mathlib.Omega.{arith}
use Prim.Native.Nat.{ℕ, ◌+◌, ◌-◌, ◌≤◌, min}
use lib.Ieee.{Float}
use lib.ListN.{length}
use Rattle.text_value.specs.declared.Value.TheVariants.{Decimal}
use Rattle.std.specs.Prelude.{Ok}
use Rattle.text_value.specs.Numbers.{digits_from, quotient}
use Rattle.text_value.proofs.Numbers.{cap, fits-true, fifteen_capped}
use borrow.Author.Tests.{eq-eqb}
use Rattle.text_value.proofs.decimal_read.Goals as goal

pub returns-then-end-at : goal.returns-then-end-at
returns-then-end-at c =
    let all = c.if-d-end.false in
    let a = c.args in
    let word = a.word.now in
    let next = a.point + 1 in
    let h = fits-true word a.at a.point c.if-end-at.true in
    let few : a.point - a.at + (length word - next) ≤ 15 = omega (arith, c.requires.0, c.requires.1.0, h.0) in
    let digits =
    fifteen_capped word a.at next (a.point - a.at) (length word - next) few c.requires.1.1
    (c.digits_at-d.ensures.1 ∙ ap (λ (k : ℕ). min (digits_from word 10 a.before next (k - next)) cap) all) in
    simp (eq-eqb _ _ (sym c.digits_at-d.ensures.0 ∙ all), c.if-end-at.true)
    (ap (λ (x : Float). Ok (Decimal x)) (c.quotient-quotient.ensures ∙ ap (λ (n : ℕ). quotient a.minus n (length word - next)) digits))
