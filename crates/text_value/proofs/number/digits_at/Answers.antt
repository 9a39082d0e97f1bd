-- `text_value::number::digits_at` meets its contract: from `at` on the digits end where they end from `from` on, and the count is that of the digits
-- passed, capped. The measure is what is left. Assumes nothing.
use mathlib.Core.Path.{refl, sym, ap, ◌∙◌}
use native.Mathlib.Omega.{arith}
use native.Mathlib.Nat.{min-eq_left}
use Prim.Native.Nat.{ℕ, ◌-◌, min}
use Rattle.text_byte.proofs.Spans.{span_more, span_stop, span_done, span_exit}
use lib.ListN.{length}
use Rattle.text_value.specs.Numbers.{digits_from}
use Rattle.text_value.proofs.Numbers.{cap, digits_none, digits_more}
use Rattle.text_value.proofs.number.digits_at.Goals as goal

pub loop-at-init : goal.loop-at-init
loop-at-init c =
    let a = c.args in
    let e = digits_none a.word.now a.base a.before a.from (a.from - a.from) (omega arith) in
    (omega arith, (refl, sym (ap (λ (x : ℕ). min x cap) e ∙ min-eq_left c.requires.1.1)))

pub returns-then-not-is_digit_in : goal.returns-then-not-is_digit_in
returns-then-not-is_digit_in c =
    let l = c.loop-at in (
      sym (l.invariant.1.0 ∙ span_stop _ _ _ c.loop-at-test.true c.is_digit_in.ensures c.if-not-is_digit_in.true),
      l.invariant.1.1,
    )

pub loop-at-preserved : goal.loop-at-preserved
loop-at-preserved c =
    let l = c.loop-at in
    let a = c.args in (
      omega arith,
      (
        l.invariant.1.0 ∙ span_more _ _ _ c.loop-at-test.true c.is_digit_in.ensures c.if-not-is_digit_in.false,
        digits_more a.word.now a.base a.before a.from l.at c.requires.0 l.invariant.0 l.invariant.1.1 c.digit_of.ensures.0
            c.min-number.ensures,
      ),
    )

pub returns : goal.returns
returns c =
    let l = c.loop-at in
    let a = c.args in
    let end = c.max-end.ensures ∙ sym (span_exit _ a.from l.at (length a.word.now) l.invariant.1.0 c.loop-at-test.false l.auto.at-end) in (
      end ∙ sym (l.invariant.1.0 ∙ span_done _ _ _ c.loop-at-test.false),
      l.invariant.1.1 ∙ ap (λ (k : ℕ). min (digits_from a.word.now a.base a.before a.from (k - a.from)) cap) (sym end),
    )
