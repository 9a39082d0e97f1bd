-- What an accepted map is known to hold, as the comparison needs it. Assumes nothing.
use Prim.Native.Nat.{ℕ, ◌≤◌}
use mathlib.Core.List.{List}
use mathlib.Core.Path.{◌≡◌, refl}
use native.Mathlib.Nat.{le_trans}
use native.Mathlib.Omega.{arith}
use lib.ListN.{length}
use Rattle.refusal.proofs.Checks.{and_then_pass}
use Rattle.wad.specs.Header.{head_of, entry_count}
use Rattle.wad.specs.Entries.{directory_of}
use Rattle.record_table.specs.Lumps.{most_count}
use Rattle.map_lumps.proofs.Places.{each-place}
use Rattle.map_lumps.specs.Run.{run_check}
use Rattle.map_check.specs.Verdict.{accepted, verdict}
use Rattle.map_check.specs.Lumps.{lumps_check}
use Rattle.map_check.proofs.Passing.{run_long, counts}
use Rattle.map_check.proofs.CountsPassing.{count_most}
use Rattle.map_check.proofs.Answers.{marker_known}
use Rattle.theorem_map.proofs.Demands.{known}
use Rattle.difference.specs.Differences.{game_in, lumps_in}
use Rattle.difference.specs.Inner.Lumps.{MapIn, Numbered}

-- no lump has more records than 16 bits can number
most-few : (place : ℕ) → 1 ≤ place → place ≤ 10 → most_count place ≤ 65535
most-few =
    each-place (λ (place : ℕ). most_count place ≤ 65535)
    (omega arith) (omega arith) (omega arith) (omega arith) (omega arith)
    (omega arith) (omega arith) (omega arith) (omega arith) (omega arith)

module _ (wad name words : List ℕ) (depth marker : ℕ) (e : verdict wad name words ≡ accepted depth marker) where
  pub accepted-map : MapIn wad marker
  accepted-map =
      let b = (known wad name words depth marker e).below in
      let dir = directory_of wad in
      let count = entry_count (head_of wad) in
      record {
        file = (marker_known wad name b.marks).0;
        long = run_long dir count marker (and_then_pass (run_check dir count marker) (lumps_check (game_in wad marker) (lumps_in wad marker) (length words)) b.passes).0;
      }

  pub accepted-numbered : Numbered (game_in wad marker) (lumps_in wad marker)
  accepted-numbered place low high =
      let b = (known wad name words depth marker e).below in
      let hexen = game_in wad marker in
      let lumps = lumps_in wad marker in
      let checked = (and_then_pass (run_check (directory_of wad) (entry_count (head_of wad)) marker) (lumps_check hexen lumps (length words)) b.passes).1 in
      le_trans (count_most hexen lumps (counts hexen lumps (length words) checked) place low high refl) (most-few place low (omega arith))
