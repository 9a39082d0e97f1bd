-- `difference::places::count_all` meets its contract: the counts of the places before `i` are stored. Assumes nothing.
use Rattle.std.proofs.Common.{rules, ℕ, ◌+◌, [], ◌∷◌, ◌≡◌, sym, ap, ◌∙◌, length, replicate}
use lib.ListN.{set}
use lib.Seq.{sets}
use Rattle.layout.proofs.LaidOut.{laid_none}
use Rattle.difference.specs.declared.places.Map.{Map}
use Rattle.difference.specs.Records.{changes}
use Rattle.difference.specs.Differences.{game_in, lumps_in, changes_at}
use Rattle.difference.proofs.Lumps.{row, row_more, row_eight}
use Rattle.difference.proofs.places.count_all.Goals as goal

-- how many are listed of place `i + 1`
many : Map → Map → ℕ → ℕ
many old new i = length (changes_at (game_in old.wad.now old.marker) (lumps_in old.wad.now old.marker) (lumps_in new.wad.now new.marker) (i + 1))

pub loop-i-init : goal.loop-i-init
unfolding many
loop-i-init c = ap (sets (replicate 8 0) 0) (sym (laid_none (λ i. many c.args.old.now c.args.new.now i ∷ [])))

pub loop-i-preserved : goal.loop-i-preserved
unfolding many
loop-i-preserved c =
    let l = c.loop-i in
    let v = c.versions.ensures in
    let here = c.count_changes.ensures ∙ (λ i. length (changes (v.size i) (v.old i) (v.new i))) in
    (λ i. set (l.invariant i) l.i (here i)) ∙ row_more (many c.args.old.now c.args.new.now) (replicate 8 0) l.i

pub returns : goal.returns
unfolding many
returns c =
    let l = c.loop-i in
    let g = many c.args.old.now c.args.new.now in
    let e : l.i ≡ 8 = search rules in
    l.invariant ∙ ap (λ (n : ℕ). sets (replicate 8 0) 0 (row g n)) e ∙ row_eight g
