-- `difference::change::Versions::write_block` meets its contract: nothing of a block that is the same, or the numbers of the changed records
-- before its record `j` are stored. Assumes nothing.
use Rattle.std.proofs.Common.{arith, ℕ, ◌+◌, ◌<◌, Bool, cond, [], ◌∷◌, ◌++◌, sym, ap, ◌∙◌, length, ◌≡◌, List, true, false, length-append}
use mathlib.Core.List.{append-nil}
use lib.ListN.{set}
use Rattle.layout.proofs.LaidOut.{laid_none, laid_more, length_laid_le}
use Rattle.layout.specs.Rows.{laid_out}
use Rattle.difference.proofs.Laying.{length_more}
use Rattle.difference.specs.Records.{changed}
use Rattle.difference.specs.Inner.Changes.{begun_with}
use Rattle.difference.proofs.Comparing.{number_of, from-none, begun_one}
use Rattle.difference.proofs.change.Versions.write_block.Goals as goal
use Rattle.difference.proofs.change.Versions.write_block.Goals.{After-is_changed, then-is_changed, else-is_changed}

pub returns-then-same_block-clause-value : goal.returns-then-same_block-clause-value
returns-then-same_block-clause-value c =
    let v = c.args.self.now in
    sym (ap length (from-none v.size v.old.now v.new.now c.args.i c.args.n (c.same_block.ensures c.if-same_block.true)))

pub returns-then-same_block-clause-list_after : goal.returns-then-same_block-clause-list_after
returns-then-same_block-clause-list_after c =
    let v = c.args.self.now in
    ap (λ (numbers : List ℕ). begun_with numbers c.args.list.now) (sym (from-none v.size v.old.now v.new.now c.args.i c.args.n (c.same_block.ensures c.if-same_block.true)))

pub loop-j-init : goal.loop-j-init
loop-j-init c =
    let v = c.args.self.now in
    let none = laid_none (λ j. number_of v.size v.old.now v.new.now (c.args.i + j)) in
    (sym (ap length none), sym (ap (λ (xs : List ℕ). begun_with xs c.args.list.now) none))

-- there is room for the number of a changed record
room : (c : After-is_changed) → c.is_changed.result ≡ true → c.loop-j.count < length c.args.list.now
room c changed =
    let v = c.args.self.now in
    let f = λ (j : ℕ). number_of v.size v.old.now v.new.now (c.args.i + j) in
    let j = c.loop-j.j in
    let one : length (f j) ≡ 1 = ap (λ (b : Bool). length (cond b ((c.args.i + j) ∷ []) [])) (sym c.is_changed.ensures ∙ changed) in
    omega (arith, c.loop-j.invariant.0, length_more f j, one, length_laid_le f (j + 1) c.args.n (omega arith), c.requires.room)

pub bounds-list-count : goal.bounds-list-count
bounds-list-count c = omega (arith, room (goal.at.bounds-list-count c).After-is_changed c.if-is_changed.true, c.loop-j.auto.list)

pub loop-j-preserved : goal.loop-j-preserved
loop-j-preserved c =
    let v = c.args.self.now in
    let l = c.loop-j in
    let f = λ (j : ℕ). number_of v.size v.old.now v.new.now (c.args.i + j) in
    let n = c.args.i + l.j in
    let first = laid_out f l.j in
    let start = λ (xs : List ℕ). begun_with xs c.args.list.now in
    let last = λ (b : Bool) (e : c.is_changed.result ≡ b). laid_more f l.j ∙ ap (λ (b : Bool). first ++ cond b (n ∷ []) []) (sym c.is_changed.ensures ∙ e) in
    elim c.if-is_changed.branch [
      | then-is_changed w ↦ (
        w.count-is ∙ omega (arith, l.invariant.0, ap length (last true w.if-is_changed.true), length-append first (n ∷ [])),
        w.list-is
            ∙ ap (λ (xs : List ℕ). set xs l.count n) l.invariant.1
            ∙ begun_one first c.args.list.now l.count n l.invariant.0 (omega (arith, l.invariant.0, room (goal.at.loop-j-preserved c).After-is_changed w.if-is_changed.true))
            ∙ ap start (sym (last true w.if-is_changed.true)),
      )
      | else-is_changed w ↦ (
        w.count-is ∙ l.invariant.0 ∙ sym (ap length (last false w.if-is_changed.false ∙ append-nil first)),
        w.list-is ∙ l.invariant.1 ∙ sym (ap start (last false w.if-is_changed.false ∙ append-nil first)),
      )
    ]
