-- `difference::change::Versions::count_changes` meets its contract: so many records before record `i` are changed. Assumes nothing.
use Rattle.std.proofs.Common.{ℕ, ◌+◌, ◌≤◌, ◌≡◌, sym, ap, ◌∙◌, length, min, arith}
use Rattle.std.proofs.Math.Nat.{div-le_self}
use Rattle.layout.proofs.LaidOut.{laid_none}
use Rattle.difference.specs.Records.{count_in, changes_below}
use Rattle.difference.proofs.Laying.{length-split, laid_few}
use Rattle.difference.proofs.Comparing.{number_of, number-few}
use Rattle.difference.proofs.change.Versions.count_changes.Goals as goal
use Rattle.difference.proofs.change.Versions.count_changes.Goals.{After-count_block-count}

-- one block more
more : (c : After-count_block-count)
    → (let v = c.args.self.now in
    let l = c.loop-i in
    let all = count_in v.size v.new.now in
    (l.count + c.count_block-count.result ≡ length (changes_below v.size v.old.now v.new.now (min (l.i + 64) all)))
    × (l.count + c.count_block-count.result ≤ all))
more c =
    let v = c.args.self.now in
    let l = c.loop-i in
    let all = count_in v.size v.new.now in
    let f = number_of v.size v.old.now v.new.now in
    let at : ℕ → ℕ = λ n. length (changes_below v.size v.old.now v.new.now n) in
    let here : min l.i all ≡ l.i = omega arith in
    let next : l.i + c.min.result ≡ min (l.i + 64) all = omega (arith, c.min.ensures) in
    let sum : l.count + c.count_block-count.result ≡ at (min (l.i + 64) all) =
    omega (arith, l.invariant, ap at here, c.count_block-count.ensures, length-split f l.i c.min.result, ap at next) in
    (sum, omega (arith, sum, laid_few f (min (l.i + 64) all) (number-few v.size v.old.now v.new.now)))

pub loop-i-init : goal.loop-i-init
loop-i-init c =
    let v = c.args.self.now in
    let at : ℕ → ℕ = λ n. length (changes_below v.size v.old.now v.new.now n) in
    let none : min 0 (count_in v.size v.new.now) ≡ 0 = omega arith in
    sym (ap at none ∙ ap length (laid_none (number_of v.size v.old.now v.new.now)))

pub overflow_add-count : goal.overflow_add-count
overflow_add-count c = omega (arith, (more (goal.at.overflow_add-count c).After-count_block-count).1, div-le_self (length c.args.self.now.new.now) c.args.self.now.size)

pub loop-i-preserved : goal.loop-i-preserved
loop-i-preserved c = (more (goal.at.loop-i-preserved c).After-count_block-count).0

pub returns-2 : goal.returns-2
returns-2 c =
    let v = c.args.self.now in
    let at : ℕ → ℕ = λ n. length (changes_below v.size v.old.now v.new.now n) in
    let last : min (c.loop-i.i + 64) (count_in v.size v.new.now) ≡ count_in v.size v.new.now = omega arith in
    (more (goal.at.returns-2 c).After-count_block-count).0 ∙ ap at last
