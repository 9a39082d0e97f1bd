-- What the look for hazards relies on holds of every accepted map. Assumes nothing.
use Prim.Native.Nat.{ℕ}
use mathlib.Core.List.{List}
use mathlib.Core.Path.{◌≡◌}
use lib.ListN.{length}
use Rattle.wad.specs.Header.{head_of, entry_count}
use Rattle.wad.specs.Entries.{directory_of}
use Rattle.map_lumps.specs.Lumps.{map_lumps}
use Rattle.map_lumps.specs.Games.{game_at}
use Rattle.map_check.specs.Verdict.{accepted, verdict}
use Rattle.map_check.proofs.Passing.{blockmap_pass, long_at, lumps_pass}
use Rattle.map_check.proofs.Answers.{marker_known}
use Rattle.theorem_map.proofs.Demands.{known}
use Rattle.hazard.specs.Inner.{Accepting}

pub accepting : (wad name words : List ℕ) (depth marker : ℕ) → verdict wad name words ≡ accepted depth marker → Accepting wad marker
accepting wad name words depth marker e =
    let k = (known wad name words depth marker e).below in
    record {
      file = (marker_known wad name k.marks).0;
      long = long_at wad marker (length words) k.passes;
      blockmap =
          blockmap_pass (game_at (directory_of wad) (entry_count (head_of wad)) marker) (map_lumps wad (directory_of wad) marker)
          (length words) (lumps_pass wad marker (length words) k.passes);
    }
