-- `wad::map::last_named` meets its contract: no entry from `i` on has the name. Assumes nothing.
use Prim.Native.Nat.{ℕ, suc, ◌-◌}
use mathlib.Core.List.{List}
use mathlib.Core.Path.{◌≡◌, sym, ap, ◌∙◌}
use native.Mathlib.Omega.{arith}
use Rattle.name.specs.Names.{same_name}
use Rattle.wad.specs.Map.{find_marker, counted}
use Rattle.wad.proofs.Search.{find_marker-none, find_marker-found, find_marker_on}
use Rattle.wad.proofs.map.last_named.Goals as goal

pub returns-then-same_name : goal.returns-then-same_name
returns-then-same_name c =
    let a = c.args in
    let l = c.loop-i in
    let k : l.i ≡ suc (l.i - 1) = omega arith in
    let same = c.same_name.ensures ∙ ap (λ (n : List ℕ). same_name n a.name.now) c.part.ensures.0 in
    ap (counted a.count) (sym (l.invariant ∙ find_marker-found a.dir.now a.name.now (l.i - 1) l.i k same c.if-same_name.true))

pub loop-i-preserved : goal.loop-i-preserved
loop-i-preserved c =
    let a = c.args in
    let l = c.loop-i in
    let k : l.i ≡ suc (l.i - 1) = omega arith in
    let same = c.same_name.ensures ∙ ap (λ (n : List ℕ). same_name n a.name.now) c.part.ensures.0 in
    l.invariant ∙ find_marker_on a.dir.now a.name.now (l.i - 1) l.i k same c.if-same_name.false

pub returns : goal.returns
returns c =
    let a = c.args in
    let l = c.loop-i in
    let z : l.i ≡ 0 = omega arith in
    ap (counted a.count) (sym (l.invariant ∙ ap (find_marker a.dir.now a.name.now) z ∙ find_marker-none a.dir.now a.name.now))
