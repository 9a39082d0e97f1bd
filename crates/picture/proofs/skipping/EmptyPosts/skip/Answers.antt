-- `picture::skipping::EmptyPosts::skip` meets its contract: each turn goes past one such post. Assumes nothing.
use Prim.Native.Nat.{ℕ, suc, ◌+◌, ◌*◌, ◌-◌}
use mathlib.Core.Path.{◌≡◌, sym, ap, ◌∙◌}
use native.Mathlib.Omega.{arith}
use borrow.Author.Rules.{rules}
use Rattle.picture.specs.Stepping.{past_empty}
use Rattle.picture.proofs.Inner.{past-none, past_more, past-done}
use Rattle.picture.proofs.skipping.EmptyPosts.skip.Goals as goal

pub returns-then-lump-at : goal.returns-then-lump-at
returns-then-lump-at c =
    let l = c.loop-i in
    sym (past-done _ _ _ _ (λ e. c.if-lump-at.true e.start)) ∙ l.invariant.1

pub returns-then-lump-at-ne0 : goal.returns-then-lump-at-ne0
returns-then-lump-at-ne0 c =
    let l = c.loop-i in
    sym (past-done _ _ _ _ (λ e. c.if-lump-at-ne0.true e.none)) ∙ l.invariant.1

pub loop-i-preserved : goal.loop-i-preserved
loop-i-preserved c =
    let l = c.loop-i in
    let a = c.args.self.now in
    let m = c.args.most - (l.i + 1) in
    let at = a.at + 4 * l.i in
    let e : c.args.most - l.i ≡ suc m = omega arith in
    let p : a.at + 4 * (l.i + 1) ≡ at + 4 = omega arith in (
      search rules,
      ap (past_empty m a.lump.now a.row) p
          ∙ sym (past_more a.lump.now a.row m at record { inside = search rules; start = c.if-lump-at.false; none = c.if-lump-at-ne0.false })
          ∙ ap (λ (n : ℕ). past_empty n a.lump.now a.row at) (sym e)
          ∙ l.invariant.1,
    )

pub returns : goal.returns
returns c =
    let l = c.loop-i in
    let a = c.args.self.now in
    let e : l.i ≡ c.args.most = search rules in
    let z : c.args.most - l.i ≡ 0 = omega arith in
    ap (λ (n : ℕ). a.at + 4 * n) (sym e)
    ∙ sym (past-none a.lump.now a.row (a.at + 4 * l.i))
    ∙ ap (λ (n : ℕ). past_empty n a.lump.now a.row (a.at + 4 * l.i)) (sym z)
    ∙ l.invariant.1
