-- `difference::change::Versions::write_changes` meets its contract: the numbers of the changed records before record `i` are stored. Assumes
-- nothing.
use Rattle.std.proofs.Common.{ℕ, ◌+◌, ◌≤◌, ◌++◌, ◌≡◌, List, sym, ap, ◌∙◌, length, ◌-◌, min, arith, length-append}
use Rattle.std.proofs.lemmas.List.{take_rest}
use borrow.Rule.Slice.PartMut.{put_mid}
use lib.ListN.{length-drop}
use Rattle.layout.proofs.LaidOut.{laid_none}
use Rattle.layout.specs.Rows.{laid_out}
use Rattle.difference.specs.declared.change.Versions.{Versions}
use Rattle.difference.specs.Records.{count_in, changes_below}
use Rattle.difference.specs.Inner.Changes.{begun_with}
use Rattle.difference.proofs.Laying.{laid_split}
use Rattle.difference.proofs.Comparing.{number_of, below_all, part_written}
use Rattle.difference.proofs.change.Versions.write_changes.Goals as goal
use Rattle.difference.proofs.change.Versions.write_changes.Goals.{After-min, After-write_block-count}

pub loop-i-init : goal.loop-i-init
loop-i-init c =
    let v = c.args.self.now in
    let at : ℕ → List ℕ = λ n. changes_below v.size v.old.now v.new.now n in
    let none : min 0 (count_in v.size v.new.now) ≡ 0 = omega arith in
    let e = ap at none ∙ laid_none (number_of v.size v.old.now v.new.now) in
    (sym (ap length e), sym (ap (λ (xs : List ℕ). begun_with xs c.args.list.now) e))

-- the numbers of one block more, and that there is room for them
record Next (self : Versions) (i n count room : ℕ) : Type 0 where
  numbers : (let f = number_of self.size self.old.now self.new.now in
      let all = count_in self.size self.new.now in
      laid_out f (min (i + 64) all) ≡ laid_out f (min i all) ++ laid_out (λ j. f (i + j)) n)
  fits : count + length (laid_out (λ j. number_of self.size self.old.now self.new.now (i + j)) n) ≤ room

next : (c : After-min) → Next c.args.self.now c.loop-i.i c.min.result c.loop-i.count (length c.args.list.now)
next c =
    let v = c.args.self.now in
    let l = c.loop-i in
    let n = c.min.result in
    let all = count_in v.size v.new.now in
    let f = number_of v.size v.old.now v.new.now in
    let here : min l.i all ≡ l.i = omega arith in
    let next : min (l.i + 64) all ≡ l.i + n = omega (arith, c.min.ensures) in
    let numbers : laid_out f (min (l.i + 64) all) ≡ laid_out f (min l.i all) ++ laid_out (λ j. f (l.i + j)) n = rw (here, next) (laid_split f l.i n) in
    record {
      numbers = numbers;
      fits =
          omega (
            arith,
            l.invariant.0,
            ap length numbers,
            length-append (laid_out f (min l.i all)) (laid_out (λ j. f (l.i + j)) n),
            below_all v.size v.old.now v.new.now (min (l.i + 64) all) (omega arith),
            c.requires.1,
          );
    }

pub write_block-count-requires-clause-room : goal.write_block-count-requires-clause-room
write_block-count-requires-clause-room c =
    let l = c.loop-i in
    rw (take_rest l.list l.count, length-drop l.count l.list) (omega (arith, (next (goal.at.write_block-count-requires-clause-room c).After-min).fits, l.auto.list))

-- what one block leaves
block : (c : After-write_block-count) → Next c.args.self.now c.loop-i.i c.min.result c.loop-i.count (length c.args.list.now)
    → (let v = c.args.self.now in
    let l = c.loop-i in
    let numbers = changes_below v.size v.old.now v.new.now (min (l.i + 64) (count_in v.size v.new.now)) in
    (l.count + c.write_block-count.result ≡ length numbers)
    × (put_mid l.count (length l.list - l.count) l.list c.write_block-count.new.list ≡ begun_with numbers c.args.list.now))
block c next =
    let v = c.args.self.now in
    let l = c.loop-i in
    let f = number_of v.size v.old.now v.new.now in
    let first = laid_out f (min l.i (count_in v.size v.new.now)) in
    let added = laid_out (λ j. f (l.i + j)) c.min.result in (
      omega (arith, l.invariant.0, c.write_block-count.ensures.value, ap length next.numbers, length-append first added),
      part_written first added l.list c.args.list.now c.write_block-count.new.list l.count l.invariant.0 (omega (arith, l.invariant.0, next.fits)) l.invariant.1 c.write_block-count.ensures.list_after
          ∙ ap (λ (xs : List ℕ). begun_with xs c.args.list.now) (sym next.numbers),
    )

pub loop-i-preserved : goal.loop-i-preserved
loop-i-preserved c = let at = goal.at.loop-i-preserved c in block at.After-write_block-count (next at.After-min)

pub returns-2-clause-value : goal.returns-2-clause-value
returns-2-clause-value c =
    let at = goal.at.returns-2-clause-value c in
    let v = c.args.self.now in
    let ended : min (c.loop-i.i + 64) (count_in v.size v.new.now) ≡ count_in v.size v.new.now = omega arith in
    (block at.After-write_block-count (next at.After-min)).0 ∙ ap (λ (n : ℕ). length (changes_below v.size v.old.now v.new.now n)) ended

pub returns-2-clause-list_after : goal.returns-2-clause-list_after
returns-2-clause-list_after c =
    let at = goal.at.returns-2-clause-list_after c in
    let v = c.args.self.now in
    let ended : min (c.loop-i.i + 64) (count_in v.size v.new.now) ≡ count_in v.size v.new.now = omega arith in
    (block at.After-write_block-count (next at.After-min)).1
    ∙ ap (λ (n : ℕ). begun_with (changes_below v.size v.old.now v.new.now n) c.args.list.now) ended
