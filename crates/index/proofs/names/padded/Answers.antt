-- The loop's steps, by what is written so far. Assumes nothing.
use Prim.Native.Nat.{ℕ, suc, ◌+◌, ◌-◌}
use mathlib.Core.Path.{◌≡◌, refl, sym, ◌∙◌, subst}
use native.Mathlib.Numerals.{add-one}
use native.Mathlib.Omega.{arith}
use borrow.Author.Rules.{rules}
use lib.ListN.{get_or, set}
use Rattle.index.proofs.Filled.{Filled, filled_stop, filled_more}
use Rattle.index.proofs.names.padded.Goals as goal

pub loop-i-init : goal.loop-i-init
loop-i-init c = (search rules, record { so_far = refl; goal = refl })

pub returns-then-c-eq0 : goal.returns-then-c-eq0
returns-then-c-eq0 c =
    let l = c.loop-i in
    filled_stop c.args.name.now l.i (search rules) l.bytes (8 - l.i) (omega arith) c.if-c-eq0.true l.invariant.1

pub loop-i-preserved : goal.loop-i-preserved
loop-i-preserved c =
    let name = c.args.name.now in
    let l = c.loop-i in
    let left : 8 - l.i ≡ suc (8 - (l.i + 1)) = omega (arith, l.invariant.0) in
    let here = subst (λ (k : ℕ). Filled name l.bytes l.i k) left l.invariant.1 in (
      search rules,
      subst (λ (j : ℕ). Filled name (set l.bytes l.i (get_or name l.i 0)) j (8 - (l.i + 1))) (sym (add-one l.i))
          (filled_more name l.i (search rules) l.bytes (8 - (l.i + 1)) c.if-c-eq0.false here),
    )

pub returns : goal.returns
returns c =
    let l = c.loop-i in
    let all : 8 - l.i ≡ 0 = omega (arith, l.invariant.0) in
    let done = subst (λ (k : ℕ). Filled c.args.name.now l.bytes l.i k) all l.invariant.1 in
    done.so_far ∙ sym done.goal
