-- `renumber_order::places::marked_count` meets its contract. Assumes nothing.
use Prim.Native.Nat.{ℕ, ◌+◌, ◌<◌}
use mathlib.Core.Bool.{Bool, true, false, not, cond}
use mathlib.Core.Path.{◌≡◌, refl, sym, ap, ◌∙◌}
use native.Mathlib.Omega.{arith}
use borrow.Author.Rules.{rules}
use lib.Dec.{eqb}
use lib.ListN.{length, take, get_or}
use lib.Seq.{length-take-le, get_or-take}
use mir.Val.{bool_byte}
use Rattle.renumber_order.proofs.Marks.{below_none, below-few, below_more}
use Rattle.renumber_order.proofs.places.marked_count.Goals as goal
use Rattle.renumber_order.proofs.places.marked_count.Goals.{After-from-marked}

inside : (c : After-from-marked) → c.loop-mark.mark-index < c.args.count
inside c = let long = length-take-le c.args.count c.args.words.now c.requires in omega (arith, c.loop-mark-test.true, long)

one_or_none : (b : Bool) → bool_byte b ≡ cond b 1 0
one_or_none true = refl
one_or_none false = refl

-- 1 is added exactly where the node is marked
added : (c : After-from-marked)
    → c.from-marked.result ≡ cond (not (eqb (get_or c.args.words.now c.loop-mark.mark-index 0) 0)) 1 0
added c =
    let i = c.loop-mark.mark-index in
    let same : get_or (take c.args.count c.args.words.now) i 0 ≡ get_or c.args.words.now i 0 =
    get_or-take c.args.count c.args.words.now i 0 (inside c) in
    c.from-marked.ensures ∙ one_or_none (not (eqb (get_or (take c.args.count c.args.words.now) i 0) 0))
    ∙ ap (λ (w : ℕ). cond {A = ℕ} (not (eqb w 0)) 1 0) same

pub loop-mark-init : goal.loop-mark-init
loop-mark-init c = sym (ap length (below_none c.args.words.now))

pub overflow_add-marked : goal.overflow_add-marked
overflow_add-marked c =
    let l = c.loop-mark in
    let i = inside (goal.at.overflow_add-marked c).After-from-marked in
    let few = below-few c.args.words.now l.mark-index in
    search (rules, l.invariant, few, i)

pub loop-mark-preserved : goal.loop-mark-preserved
loop-mark-preserved c =
    let l = c.loop-mark in
    let k = added (goal.at.loop-mark-preserved c).After-from-marked in
    ap (λ (n : ℕ). n + c.from-marked.result) l.invariant ∙ sym (below_more c.args.words.now l.mark-index c.from-marked.result k)
