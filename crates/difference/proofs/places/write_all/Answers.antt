-- `difference::places::write_all` meets its contract: the numbers of the places before `i` are stored. Assumes nothing.
use Rattle.std.proofs.Common.{rules, ℕ, ◌+◌, ◌≤◌, ◌++◌, List, ◌≡◌, sym, ap, ◌∙◌, length, arith}
use Rattle.std.proofs.lemmas.List.{take_rest}
use mathlib.Core.Path.{subst}
use lib.ListN.{length-drop}
use Rattle.layout.specs.Rows.{laid_out}
use Rattle.layout.proofs.LaidOut.{laid_none, laid_more, length_laid_le}
use Rattle.difference.specs.Records.{count_in, changes}
use Rattle.difference.specs.Differences.{game_in, lumps_in, changes_at}
use Rattle.difference.specs.Inner.Changes.{begun_with}
use Rattle.difference.proofs.Laying.{length_more}
use Rattle.difference.proofs.Comparing.{part_written}
use Rattle.difference.proofs.places.write_all.Goals as goal
use Rattle.difference.proofs.places.write_all.Goals.{After-versions}

pub loop-i-init : goal.loop-i-init
loop-i-init c =
    let old = c.args.old.now in
    let new = c.args.new.now in
    let none = laid_none (λ i. changes_at (game_in old.wad.now old.marker) (lumps_in old.wad.now old.marker) (lumps_in new.wad.now new.marker) (i + 1)) in
    (sym (ap length none), sym (ap (λ (xs : List ℕ). begun_with xs c.args.list.now) none))

-- the numbers of the lump that a turn looks at
lists : (c : After-versions)
    → (let old = c.args.old.now in
    let new = c.args.new.now in
    changes c.versions.result.size c.versions.result.old.now c.versions.result.new.now
    ≡ changes_at (game_in old.wad.now old.marker) (lumps_in old.wad.now old.marker) (lumps_in new.wad.now new.marker) (c.loop-i.i + 1))
lists c = let v = c.versions.ensures in λ k. changes (v.size k) (v.old k) (v.new k)

-- there is room for them
room : (c : After-versions)
    → c.loop-i.count + length (changes c.versions.result.size c.versions.result.old.now c.versions.result.new.now) ≤ length c.args.list.now
room c =
    let old = c.args.old.now in
    let new = c.args.new.now in
    let l = c.loop-i in
    let f : ℕ → List ℕ = λ i. changes_at (game_in old.wad.now old.marker) (lumps_in old.wad.now old.marker) (lumps_in new.wad.now new.marker) (i + 1) in
    omega (arith, l.invariant.0, ap length (lists c), length_more f l.i, length_laid_le f (l.i + 1) 8 (omega arith), c.requires.room)

pub write_changes-count-requires : goal.write_changes-count-requires
write_changes-count-requires c =
    let at = (goal.at.write_changes-count-requires c).After-versions in
    let l = c.loop-i in
    let v = c.versions.ensures in
    let many : count_in c.versions.result.size c.versions.result.new.now ≡ _ = λ k. count_in (v.size k) (v.new k) in (
      subst (λ (n : ℕ). n ≤ 65535) (sym many) (c.requires.numbered (l.i + 1) (omega arith) (omega arith)),
      rw (take_rest l.list l.count, length-drop l.count l.list) (omega (arith, room at, l.auto.list)),
    )

pub loop-i-preserved : goal.loop-i-preserved
loop-i-preserved c =
    let at = (goal.at.loop-i-preserved c).After-versions in
    let old = c.args.old.now in
    let new = c.args.new.now in
    let l = c.loop-i in
    let f : ℕ → List ℕ = λ i. changes_at (game_in old.wad.now old.marker) (lumps_in old.wad.now old.marker) (lumps_in new.wad.now new.marker) (i + 1) in
    let wrote = c.write_changes-count.ensures in (
      omega (arith, wrote.value, l.invariant.0, ap length (lists at), length_more f l.i),
      part_written (laid_out f l.i) (changes c.versions.result.size c.versions.result.old.now c.versions.result.new.now) l.list c.args.list.now
          c.write_changes-count.new.list l.count l.invariant.0 (omega (arith, l.invariant.0, room at)) l.invariant.1 wrote.list_after
          ∙ ap (λ (xs : List ℕ). begun_with (laid_out f l.i ++ xs) c.args.list.now) (lists at)
          ∙ ap (λ (xs : List ℕ). begun_with xs c.args.list.now) (sym (laid_more f l.i)),
    )

pub returns : goal.returns
returns c =
    let old = c.args.old.now in
    let new = c.args.new.now in
    let l = c.loop-i in
    let f : ℕ → List ℕ = λ i. changes_at (game_in old.wad.now old.marker) (lumps_in old.wad.now old.marker) (lumps_in new.wad.now new.marker) (i + 1) in
    let e : l.i ≡ 8 = search rules in
    l.invariant.1 ∙ ap (λ (n : ℕ). begun_with (laid_out f n) c.args.list.now) e
