-- `map_lumps::MapLumps::judge_sizes` meets its contract: the check of place `i + 1` is the scan's check `i`. Assumes nothing.
use Rattle.std.proofs.Common.{rules, ℕ, ◌+◌}
use Rattle.map_lumps.specs.Lumps.{map_lumps}
use Rattle.map_lumps.specs.Sizes.{size_check}
use Rattle.map_lumps.proofs.MapLumps.judge_sizes.Goals as goal

pub returns : goal.returns
returns c =
    let l = c.args.self.now in
    c.judge_each.ensures (λ (i : ℕ). size_check c.args.hexen (map_lumps l.wad.now l.dir.now l.marker) (i + 1)) (λ i r h p. search rules)
