-- `difference::places::versions` meets its contract: each of the eight kinds of record has a size. Assumes nothing.
use Rattle.std.proofs.Common.{ℕ, ◌<◌, sym}
use mathlib.Core.Path.{subst}
use Rattle.map_lumps.proofs.Places.{record_size_positive}
use Rattle.difference.proofs.places.versions.Goals as goal

pub invariant_of-result : goal.invariant_of-result
invariant_of-result c =
    record {
      has_size = subst (λ (n : ℕ). 0 < n) (sym c.record_size-size.ensures) (record_size_positive c.is_hexen.result c.args.place c.requires.0 c.requires.1);
    }
